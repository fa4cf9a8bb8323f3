use Rattle.std.proofs.Common.{◌≤◌, ◌+◌, length}
use Rattle.base_bytes.specs.OrderedMap.{Map}
use Rattle.db_fill.proofs.WalkSteps.{Walks}
use Rattle.db_tool.specs.Printing.{shown}
use Rattle.sha1.specs.Sha1.{Holds}
use Rattle.db_exercise.proofs.report.digest_of.Given as goal

abbrev pub invariant-loop : goal.invariant-loop
invariant-loop g l = record {
  done : Map;
  left : Map;
  at : g.B.Db.walks l.db l.cursor.place left;
  walked : Walks (g.B.Db.state l.db).seen done left;
  few : length left + l.counter ≤ length (g.B.Db.state l.db).seen;
  holds : Holds l.digest (shown done);
}
