use Rattle.skip_spec.proofs.Lives.{file_lives, bytes_live}
use Rattle.skip_spec.proofs.laws.live_records_are_computed.Goals as goal

pub returns : goal.returns
returns c = record { file = file_lives; live = bytes_live }
