use Rattle.std.proofs.Common.{◌≡◌, map}
use Rattle.base_bytes.specs.OrderedMap.{first_above}
use Rattle.session_tests.proofs.tests.map_db.MapDbDb.after.Given as goal

abbrev pub invariant-loop-found : goal.invariant-loop-found
invariant-loop-found g l = first_above (map (λ e. (e.0.items, e.1.items)) l.self.seen.entries) l.key ≡ first_above (map (λ e. (e.0.items, e.1.items)) l.found-iterator) l.key
