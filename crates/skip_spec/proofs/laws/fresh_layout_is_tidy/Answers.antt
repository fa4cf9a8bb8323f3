use Rattle.skip_spec.proofs.LayoutLemmas.{fresh}
use Rattle.skip_spec.proofs.laws.fresh_layout_is_tidy.Goals as goal

pub returns : goal.returns
returns c = fresh
