use Rattle.std.proofs.Common.{sym, ◌∙◌, arith}
use Rattle.base_devices.proofs.Lengths.{told_offset}
use Rattle.mem_devices.proofs.tests.landings.cut.Goals as goal

pub cut-requires : goal.cut-requires
cut-requires g c = told_offset _ c.in-Some.length _ (λ main is. rw c.in-Some.is at c.in_ok-length.ensures.length main (sym c.in_ok-length.ensures.main.reads ∙ is)) (omega (arith, c.if-to-length.true))
