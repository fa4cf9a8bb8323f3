use Rattle.skip_image.proofs.Starts.{type_is}
use Rattle.skip_image.proofs.way.type_at.Goals as goal

pub returns : goal.returns
returns c = type_is c.args.file.now c.args.at c.requires.there
