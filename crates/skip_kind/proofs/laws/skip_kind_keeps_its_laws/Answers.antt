use Rattle.skip_kind.proofs.KindLaws.{skip_laws}
use Rattle.skip_kind.proofs.laws.skip_kind_keeps_its_laws.Goals as goal

pub returns : goal.returns
returns c = skip_laws
