use Rattle.base_bytes.specs.OrderedMap.{Map}
use Rattle.session_tests.proofs.tests.steps.walks.Given as goal

abbrev pub invariant-loop-key : goal.invariant-loop-key
invariant-loop-key g l = (left : Map) × g.B.Db.walks l.db l.at.place left
