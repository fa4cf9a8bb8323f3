use Rattle.skip_spec.proofs.RepackLemmas.{converted_opens, repacked_opens}
use Rattle.skip_spec.proofs.laws.layouts_keep_the_map.Goals as goal

pub returns : goal.returns
returns c = record { converted = converted_opens; repacked = repacked_opens }
