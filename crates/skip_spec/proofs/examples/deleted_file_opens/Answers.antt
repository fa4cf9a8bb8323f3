use Rattle.skip_spec.proofs.FileExamples.{deleted}
use Rattle.skip_spec.proofs.examples.deleted_file_opens.Goals as goal

pub returns : goal.returns
returns c = deleted
