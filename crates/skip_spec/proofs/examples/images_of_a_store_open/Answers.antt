use Rattle.skip_spec.proofs.FileExamples.{stored_opens, torn_opens}
use Rattle.skip_spec.proofs.NearExamples.{stored_near, torn_near, cut_is_near}
use Rattle.skip_spec.proofs.examples.images_of_a_store_open.Goals as goal

pub returns : goal.returns
returns c = record { whole = stored_opens; torn = torn_opens; whole_near = stored_near; torn_near = torn_near; cut_near = cut_is_near }
