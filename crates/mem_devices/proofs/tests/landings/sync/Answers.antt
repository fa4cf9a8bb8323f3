use Rattle.std.proofs.Common.{sym, ◌∙◌}
use Rattle.base_devices.proofs.Lengths.{told_there}
use Rattle.mem_devices.proofs.tests.landings.sync.Goals as goal

pub sync-requires : goal.sync-requires
sync-requires g c = told_there _ _ (λ main is. rw c.in-Some.is at c.in_ok-length.ensures.length main (sym c.in_ok-length.ensures.main.reads ∙ is))
