use Rattle.skip_spec.proofs.OnePair.{one_pair_opens}
use Rattle.skip_spec.proofs.examples.one_pair_file_opens.Goals as goal

pub returns : goal.returns
returns c = one_pair_opens
