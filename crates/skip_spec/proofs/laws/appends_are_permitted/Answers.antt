use Rattle.skip_spec.proofs.Cuts.{append_permitted}
use Rattle.skip_spec.proofs.laws.appends_are_permitted.Goals as goal

pub returns : goal.returns
returns c = append_permitted
