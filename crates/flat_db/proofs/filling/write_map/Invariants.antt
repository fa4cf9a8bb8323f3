use Rattle.std.proofs.Common.{◌≤◌, ◌+◌, length}
use Rattle.base_bytes.specs.OrderedMap.{Map}
use Rattle.db_fill.proofs.WalkSteps.{Walks}
use Rattle.flat_db.specs.FlatText.{canonical_text}
use Rattle.flat_db.proofs.Adding.{Adds}
use Rattle.flat_db.proofs.filling.write_map.Given as goal

abbrev pub invariant-loop : goal.invariant-loop
invariant-loop g l = record {
  done : Map;
  left : Map;
  at : g.B.Db.walks l.from l.cursor.place left;
  walks : Walks (g.B.Db.state l.from).seen done left;
  few : length left + l.counter ≤ length (g.B.Db.state l.from).seen;
  adds : Adds (g.D.Disk.state l.initial.to) (g.D.Disk.state l.to) l.initial.piece l.piece (canonical_text done);
  rest : g.D.Disk.disk_rest l.initial.to l.to;
}
