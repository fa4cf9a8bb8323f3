use Rattle.std.proofs.Common.{◌≡◌, drop}
use Rattle.base_bytes.specs.OrderedMap.{pairs_from}
use Rattle.session_tests.specs.MemorySessions.{pairs_in}
use Rattle.session_tests.proofs.tests.map_db.MapDbDb.walk_from.Given as goal

abbrev pub invariant-loop-found : goal.invariant-loop-found
invariant-loop-found g l = record {
  left : pairs_in l.found-iterator ≡ drop l.place (pairs_in l.self.seen.entries);
  from : pairs_from (pairs_in l.self.seen.entries) l.key ≡ pairs_from (pairs_in l.found-iterator) l.key;
}
