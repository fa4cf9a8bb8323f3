use Rattle.std.proofs.Common.{◌≡◌, sym, arith}
use Rattle.base_devices.proofs.Lengths.{absent_length, there_length}
use Rattle.db_core.proofs.opening.file_size.Goals as goal

pub returns-in-Ok-Some-clause-refused : goal.returns-in-Ok-Some-clause-refused
returns-in-Ok-Some-clause-refused g c = λ main is.
    let there = there_length main _ c.in-Ok-Some.size c.in-Ok-Some.field-0-is (c.in-Ok-Some.ensures.length main is) in
    record { bytes = there.0; there = there.1; counted = sym there.2; over = omega arith }

pub returns-in-Ok-None-clause-refused : goal.returns-in-Ok-None-clause-refused
returns-in-Ok-None-clause-refused g c = λ main is. absent_length main _ c.in-Ok-None.field-0-is (c.in-Ok-None.ensures.length main is)
