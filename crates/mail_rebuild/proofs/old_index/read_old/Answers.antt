use Rattle.std.proofs.Common.{sym, ap, ◌∙◌, Some, arith}
use Rattle.base_devices.proofs.Lengths.{absent_length, there_length, told_length, told_there}
use Rattle.mail_rebuild.proofs.old_index.read_old.Goals as goal

pub returns-in-Ok-None-clause-read : goal.returns-in-Ok-None-clause-read
returns-in-Ok-None-clause-read g c = λ main is. absent_length main _ c.in-Ok-None.field-0-is (c.in-Ok-None.ensures.length main is)

pub returns-then-size-gt-SKIP_LIMIT-clause-refused : goal.returns-then-size-gt-SKIP_LIMIT-clause-refused
returns-then-size-gt-SKIP_LIMIT-clause-refused g c = λ main is.
    let there = there_length main _ c.in-Ok-Some.size c.in-Ok-Some.field-0-is (c.in-Ok-Some.ensures.length main is) in
    record { bytes = there.0; there = there.1; counted = sym there.2; over = omega arith }

pub sync-requires : goal.sync-requires
sync-requires g c = told_there _ c.in-Ok-Some.size (λ main is. rw c.in-Ok-Some.field-0-is at c.in-Ok-Some.ensures.length main (sym c.length.ensures.main.reads ∙ is))

pub read_whole-requires : goal.read_whole-requires
read_whole-requires g c = told_length _ c.in-Ok-Some.size (λ main is. rw c.in-Ok-Some.field-0-is at c.in-Ok-Some.ensures.length main (sym c.length.ensures.main.reads ∙ sym c.in-Ok.ensures.sync.reads ∙ is))

pub returns-in-Ok-read_whole-clause-read : goal.returns-in-Ok-read_whole-clause-read
returns-in-Ok-read_whole-clause-read g c = λ main is.
    let there = there_length main _ c.in-Ok-Some.size c.in-Ok-Some.field-0-is (c.in-Ok-Some.ensures.length main is) in
    there.1 ∙ ap Some (sym (c.in-Ok-read_whole.ensures.bytes there.0 (c.in-Ok.ensures.sync.reads ∙ c.length.ensures.main.reads ∙ is ∙ ap Some there.1)))
