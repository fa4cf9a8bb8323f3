use Rattle.std.proofs.Common.{◌∙◌, sym}
use Rattle.base_devices.proofs.Lengths.{told_length}
use Rattle.flat_db.proofs.looking.verify_db.Goals as goal

pub read_value-requires-clause-size : goal.read_value-requires-clause-size
read_value-requires-clause-size g c = told_length _ c.in_ok-size.size (λ main is. c.in_ok-size.ensures.answered main (sym c.file_size.ensures.stays.main.reads ∙ is))

pub returns-clause-opens : goal.returns-clause-opens
returns-clause-opens g c main is =
    let has = c.in_ok-_no_value.ensures.value in
    (has.map, has.opens main (c.file_size.ensures.stays.main.reads ∙ is))
