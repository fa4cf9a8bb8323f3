use Rattle.std.proofs.Common.{◌≡◌, ◌≤◌, ◌+◌, ◌-◌, ◌^◌, length}
use Rattle.base_bytes.specs.OrderedMap.{Map}
use Rattle.db_fill.specs.Filling.{told}
use Rattle.flat_db.specs.FlatText.{canonical_text}
use Rattle.flat_db.proofs.filling.text_size.Given as goal

abbrev pub invariant-loop : goal.invariant-loop
invariant-loop g l = record {
  left : Map;
  at : g.B.Db.walks l.from l.cursor.place left;
  few : length left + l.counter ≤ length (g.B.Db.state l.from).seen;
  small : l.size ≤ 2 ^ 64 - 1;
  whole : told (l.size + length (canonical_text left)) ≡ told (length (canonical_text (g.B.Db.state l.from).seen));
}
