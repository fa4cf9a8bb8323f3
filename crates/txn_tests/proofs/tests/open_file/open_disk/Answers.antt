use Rattle.std.proofs.Common.{sym, subst}
use Rattle.mem_devices.specs.Memory.{mem_state}
use Rattle.skip_txn.specs.Sessions.{SkipSession, Tied}
use Rattle.txn_tests.proofs.Settling.{settled_tied}
use Rattle.txn_tests.proofs.tests.open_file.open_disk.Goals as goal

pub invariant_of-result : goal.invariant_of-result
invariant_of-result c = subst (λ (s : SkipSession). Tied s (mem_state c.settle.new.disk)) (sym c.new.ensures) (settled_tied _ _ c.in_ok-settle.ensures)
