use Rattle.session_tests.proofs.tests.changes.assert_cases.Given as goal

abbrev pub invariant-loop-case : goal.invariant-loop-case
invariant-loop-case g l = g.B.Db.tie l.db l.disk
