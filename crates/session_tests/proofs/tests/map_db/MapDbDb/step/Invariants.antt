use Rattle.std.proofs.Common.{◌≡◌, ◌≤◌, drop}
use Rattle.session_tests.specs.MemorySessions.{pairs_in}
use Rattle.session_tests.proofs.tests.map_db.MapDbDb.step.Given as goal

abbrev pub invariant-loop-key : goal.invariant-loop-key
invariant-loop-key g l = record {
  left : pairs_in l.key-iterator ≡ drop l.place (pairs_in l.self.seen.entries);
  before : l.place ≤ l.cursor.place;
}
