use Rattle.std.proofs.Common.{◌∙◌, sym}
use Rattle.base_devices.proofs.Lengths.{told_length}
use Rattle.flat_db.proofs.opening.check_db.Goals as goal

pub read_map-requires-clause-size : goal.read_map-requires-clause-size
read_map-requires-clause-size g c = told_length _ c.in_ok-size.size (λ main is. c.in_ok-size.ensures.answered main (sym c.file_size.ensures.stays.main.reads ∙ is))
