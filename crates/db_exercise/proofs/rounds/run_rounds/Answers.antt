use Rattle.std.proofs.Common.{◌≡◌, ℕ, ap, subst, arith}
use Rattle.db_core.specs.Sessions.{DbState}
use Rattle.db_exercise.specs.Rounds.{RoundMoment, MakesRounds, with_words}
use Rattle.db_exercise.proofs.EndLemmas.{rounds_none, rounds_more, rounds_end, rounds_draw}
use Rattle.db_exercise.proofs.MadeLemmas.{makes_none}
use Rattle.db_exercise.proofs.ReportLemmas.{leaves_counts}
use Rattle.db_tool.specs.Doing.{during}
use Rattle.db_tool.proofs.TaskLemmas.{rests_of}
use Rattle.db_exercise.proofs.rounds.run_rounds.Goals as goal

pub loop-round-init : goal.loop-round-init
loop-round-init g c =
    let s = g.B.Db.state c.args.db.now in
    let t = during (g.H.Disk.state c.args.host.now) (g.H.Host.streams c.args.host.now) s in
    record {
      made = rounds_none g.B.Db.kind c.args.rounds (with_words t (g.R.Rng.stream c.args.rng.now))
          (makes_none g.B.Db.kind t (g.met.H.Disk.is_moment _) (rests_of s c.requires.sound (g.met.B.Db.outside _ c.requires.sound c.requires.closed)) (g.met.B.Db.tie_opens _ _ c.requires.sound c.requires.tied));
      sound = c.requires.sound;
      closed = c.requires.closed;
      tied = c.requires.tied;
      rest = g.met.H.Host.host_same _;
    }

pub loop-round-preserved : goal.loop-round-preserved
loop-round-preserved g c =
    let inv = c.loop-round.invariant in
    let on = g.met.H.Host.host_goes_on in
    let old : RoundMoment = with_words (during (g.H.Disk.state c.args.host.now) (g.H.Host.streams c.args.host.now) (g.B.Db.state c.args.db.now)) (g.R.Rng.stream c.args.rng.now) in
    let mid : RoundMoment = with_words (during (g.H.Disk.state c.loop-round.host) (g.H.Host.streams c.loop-round.host) (g.B.Db.state c.loop-round.db)) (g.R.Rng.stream c.loop-round.rng) in
    let new : RoundMoment = with_words (during (g.H.Disk.state c.run_round.new.host) (g.H.Host.streams c.run_round.new.host) (g.B.Db.state c.run_round.new.db)) (g.R.Rng.stream c.run_round.new.rng) in
    let rest = g.met.H.Host.disk_rests _ _ c.run_round.ensures.rest in
    let made = rounds_more g.B.Db.kind c.args.rounds c.loop-round.round old mid new inv.made (omega arith) (on _ _ inv.rest) (on _ _ rest) (g.met.H.Host.disk_keeps _ _ c.run_round.ensures.rest) c.run_round.ensures.words tt c.in_default.ensures.whole in
    record {
      made = made;
      sound = ap (λ (s : DbState). s.is_broken) made.made.rests;
      closed = ap (λ (s : DbState). s.in_transaction) made.made.rests;
      tied = c.run_round.ensures.tied;
      rest = g.met.H.Host.host_then _ _ _ inv.rest rest;
    }

pub returns-in-Err-clause-ended : goal.returns-in-Err-clause-ended
returns-in-Err-clause-ended g c =
    let inv = c.loop-round.invariant in
    let on = g.met.H.Host.host_goes_on in
    let old : RoundMoment = with_words (during (g.H.Disk.state c.args.host.now) (g.H.Host.streams c.args.host.now) (g.B.Db.state c.args.db.now)) (g.R.Rng.stream c.args.rng.now) in
    let mid : RoundMoment = with_words (during (g.H.Disk.state c.loop-round.host) (g.H.Host.streams c.loop-round.host) (g.B.Db.state c.loop-round.db)) (g.R.Rng.stream c.loop-round.rng) in
    let new : RoundMoment = with_words (during (g.H.Disk.state c.run_round.new.host) (g.H.Host.streams c.run_round.new.host) (g.B.Db.state c.run_round.new.db)) (g.R.Rng.stream c.run_round.new.rng) in
    rounds_end g.B.Db.kind c.args.rounds c.loop-round.round old mid new inv.made (omega arith) (on _ _ inv.rest) (on _ _ (g.met.H.Host.disk_rests _ _ c.run_round.ensures.rest))
    (g.met.H.Host.disk_keeps _ _ c.run_round.ensures.rest) c.run_round.ensures.words c.in-Err.fault c.in-Err.ensures.whole
    (λ rewrites. leaves_counts g.H.Disk.state c.loop-round.host c.run_round.new.host c.in-Err.fault (c.in-Err.ensures.idle rewrites))

pub returns-in-Err-clause-words : goal.returns-in-Err-clause-words
returns-in-Err-clause-words g c =
    let inv = c.loop-round.invariant in
    let on = g.met.H.Host.host_goes_on in
    let old : RoundMoment = with_words (during (g.H.Disk.state c.args.host.now) (g.H.Host.streams c.args.host.now) (g.B.Db.state c.args.db.now)) (g.R.Rng.stream c.args.rng.now) in
    let mid : RoundMoment = with_words (during (g.H.Disk.state c.loop-round.host) (g.H.Host.streams c.loop-round.host) (g.B.Db.state c.loop-round.db)) (g.R.Rng.stream c.loop-round.rng) in
    let new : RoundMoment = with_words (during (g.H.Disk.state c.run_round.new.host) (g.H.Host.streams c.run_round.new.host) (g.B.Db.state c.run_round.new.db)) (g.R.Rng.stream c.run_round.new.rng) in
    rounds_draw g.B.Db.kind c.args.rounds c.loop-round.round old mid new inv.made (omega arith) (on _ _ inv.rest) (on _ _ (g.met.H.Host.disk_rests _ _ c.run_round.ensures.rest))
    (g.met.H.Host.disk_keeps _ _ c.run_round.ensures.rest) c.run_round.ensures.words c.in-Err.fault c.in-Err.ensures.whole

pub returns-clause-made : goal.returns-clause-made
returns-clause-made g c =
    let old : RoundMoment = with_words (during (g.H.Disk.state c.args.host.now) (g.H.Host.streams c.args.host.now) (g.B.Db.state c.args.db.now)) (g.R.Rng.stream c.args.rng.now) in
    let mid : RoundMoment = with_words (during (g.H.Disk.state c.loop-round.host) (g.H.Host.streams c.loop-round.host) (g.B.Db.state c.loop-round.db)) (g.R.Rng.stream c.loop-round.rng) in
    let all : c.loop-round.round ≡ c.args.rounds = omega arith in
    subst (λ (n : ℕ). MakesRounds g.B.Db.kind c.args.rounds n old mid) all c.loop-round.invariant.made
