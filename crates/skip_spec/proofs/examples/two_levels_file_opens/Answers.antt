use Rattle.skip_spec.proofs.FileExamples.{two_levels}
use Rattle.skip_spec.proofs.examples.two_levels_file_opens.Goals as goal

pub returns : goal.returns
returns c = two_levels
