use Rattle.skip_spec.proofs.AnAnswer.{first_flaw_some}
use Rattle.skip_spec.proofs.OneAnswer.{first_flaw_one}
use Rattle.skip_spec.proofs.laws.file_has_one_first_flaw.Goals as goal

pub returns : goal.returns
returns c = record { unique = first_flaw_one; exists = first_flaw_some }
