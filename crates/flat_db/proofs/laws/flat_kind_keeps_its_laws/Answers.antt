use Rattle.flat_db.proofs.KindLaws.{flat_laws}
use Rattle.flat_db.proofs.laws.flat_kind_keeps_its_laws.Goals as goal

pub returns : goal.returns
returns c = flat_laws
