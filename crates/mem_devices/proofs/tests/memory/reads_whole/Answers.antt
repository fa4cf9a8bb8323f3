use Rattle.std.proofs.Common.{sym, ◌∙◌}
use Rattle.base_devices.proofs.Lengths.{told_length}
use Rattle.mem_devices.proofs.tests.memory.reads_whole.Goals as goal

pub read_whole-requires : goal.read_whole-requires
read_whole-requires g c shown = told_length _ c.in-Ok-Some.length (λ main is. rw c.in-Ok-Some.field-0-is at c.in-Ok-Some.ensures.length main (sym c.in-Ok-Some.ensures.main.reads ∙ is)) shown
