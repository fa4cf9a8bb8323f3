use Rattle.skip_spec.proofs.Meanings.{opens_alike}
use Rattle.skip_spec.proofs.laws.near_images_open_alike.Goals as goal

pub returns : goal.returns
returns c = opens_alike
