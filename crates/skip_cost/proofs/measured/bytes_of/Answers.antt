use Rattle.std.proofs.Common.{◌∙◌, sym}
use Rattle.base_devices.proofs.Lengths.{told_length}
use Rattle.skip_cost.proofs.measured.bytes_of.Goals as goal

pub read_whole-requires : goal.read_whole-requires
read_whole-requires g c = told_length _ c.in_ok-size.size (λ main is. c.in_ok-size.ensures.answered main (sym c.file_size.ensures.stays.main.reads ∙ is))
