use Rattle.std.proofs.Common.{◌≡◌, ◌+◌, ◌++◌, length}
use Rattle.base_bytes.specs.OrderedMap.{Map}
use Rattle.db_fill.specs.Filling.{left_after}
use Rattle.skip_layout.specs.Items.{items_in}
use Rattle.twoskip.specs.Filling.{items_by}
use Rattle.twoskip.proofs.filling.drawn_items.Given as goal

abbrev pub invariant-loop : goal.invariant-loop
invariant-loop g l = record {
  left : Map;
  at : g.B.Db.walks l.from l.cursor.place left;
  few : length left + l.counter ≡ length (g.B.Db.state l.from).seen;
  items : items_in l.items.items ++ items_by left (g.R.Rng.stream l.rng) ≡ items_by (g.B.Db.state l.from).seen (g.R.Rng.stream l.initial.rng);
  drawn : g.R.Rng.stream l.rng ≡ left_after l.counter (g.R.Rng.stream l.initial.rng);
}
