use Rattle.skip_spec.proofs.LayoutExamples.{two_levels_bytes, one_pair_bytes, empty_bytes}
use Rattle.skip_spec.proofs.examples.fresh_layouts_have_these_bytes.Goals as goal

pub returns : goal.returns
returns c = record { two_levels = two_levels_bytes; one_pair = one_pair_bytes; empty = empty_bytes }
