use Rattle.std.proofs.Common.{◌≡◌, false}
use Rattle.db_exercise.specs.Rounds.{MakesRounds, with_words}
use Rattle.db_tool.specs.Doing.{during}
use Rattle.db_exercise.proofs.rounds.run_rounds.Given as goal

abbrev pub invariant-loop-round : goal.invariant-loop-round
invariant-loop-round g l = record {
  made : MakesRounds g.B.Db.kind l.rounds l.round
      (with_words (during (g.H.Disk.state l.initial.host) (g.H.Host.streams l.initial.host) (g.B.Db.state l.initial.db)) (g.R.Rng.stream l.initial.rng))
      (with_words (during (g.H.Disk.state l.host) (g.H.Host.streams l.host) (g.B.Db.state l.db)) (g.R.Rng.stream l.rng));
  sound : (g.B.Db.state l.db).is_broken ≡ false;
  closed : (g.B.Db.state l.db).in_transaction ≡ false;
  tied : g.B.Db.tie l.db l.host;
  rest : g.H.Host.host_rest l.initial.host l.host;
}
