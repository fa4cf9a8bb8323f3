use Rattle.std.proofs.Common.{inr}
use Rattle.mem_devices.proofs.LeftImages.{changes_left}
use Rattle.mem_devices.proofs.memory.MemDisk.left.Goals as goal

pub returns-in_err-replay-clause-possible : goal.returns-in_err-replay-clause-possible
returns-in_err-replay-clause-possible c = inr (changes_left _ _ _)

pub returns-clause-possible : goal.returns-clause-possible
returns-clause-possible c = inr (changes_left _ _ _)
