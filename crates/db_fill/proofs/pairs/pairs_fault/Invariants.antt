use Rattle.std.proofs.Common.{◌≡◌, ◌≤◌, ◌+◌, length}
use Rattle.base_bytes.specs.OrderedMap.{Map}
use Rattle.db_fill.specs.Filling.{pairs_refusal}
use Rattle.db_fill.proofs.pairs.pairs_fault.Given as goal

abbrev pub invariant-loop : goal.invariant-loop
invariant-loop g l = record {
  left : Map;
  at : g.B.Db.walks l.from l.cursor.place left;
  few : length left + l.counter ≤ length (g.B.Db.state l.from).seen;
  same : pairs_refusal (g.B.Db.state l.from).seen ≡ pairs_refusal left;
}
