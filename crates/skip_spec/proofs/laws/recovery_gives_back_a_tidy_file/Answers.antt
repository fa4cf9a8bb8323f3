use Rattle.skip_spec.proofs.SameLog.{gives_back}
use Rattle.skip_spec.proofs.laws.recovery_gives_back_a_tidy_file.Goals as goal

pub returns : goal.returns
returns c = gives_back
