use Rattle.skip_spec.proofs.FileExamples.{circular}
use Rattle.skip_spec.proofs.examples.circular_file_has_its_flaw.Goals as goal

pub returns : goal.returns
returns c = circular
