use Rattle.session_tests.proofs.tests.steps.first_wrong.Given as goal

abbrev pub invariant-loop-place : goal.invariant-loop-place
invariant-loop-place g l = g.B.Db.tie l.db l.disk
