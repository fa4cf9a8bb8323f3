use Rattle.skip_spec.proofs.NearExamples.{stored_changes}
use Rattle.skip_spec.proofs.examples.a_store_is_a_change.Goals as goal

pub returns : goal.returns
returns c = stored_changes
