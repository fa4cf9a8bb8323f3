use Rattle.skip_spec.proofs.NearExamples.{first_near}
use Rattle.skip_spec.proofs.examples.first_store_takes_slot_1.Goals as goal

pub returns : goal.returns
returns c = first_near
