use Rattle.skip_spec.proofs.Meanings.{opens_one, opens_ordered}
use Rattle.skip_spec.proofs.laws.file_opens_to_one_map.Goals as goal

pub returns : goal.returns
returns c = record { unique = opens_one; ordered = opens_ordered }
