use Rattle.std.proofs.Common.{sym, ◌∙◌, arith}
use Rattle.base_devices.proofs.Lengths.{told_length, told_there}
use Rattle.mem_devices.proofs.tests.memory.read_and_sync.Goals as goal

pub read_at-requires : goal.read_at-requires
read_at-requires g c told =
    let has = told_length _ c.in-Some.length (λ main is. rw c.in-Some.is at c.in_ok-length.ensures.length main (sym c.in_ok-length.ensures.main.reads ∙ is)) told in
    (has.0, has.1, omega (arith, c.if-length-gt0.true, has.2))

pub sync-requires : goal.sync-requires
sync-requires g c = told_there _ c.in-Some.length (λ main is. rw c.in-Some.is at c.in_ok-length.ensures.length main (sym c.in_ok-length.ensures.main.reads ∙ sym c.in_ok-read_at-in-Some.ensures.main.reads ∙ is))
