use Rattle.std.proofs.Common.{sym, subst}
use Rattle.base_devices.specs.HostCalls.{moment}
use Rattle.base_notes.specs.declared.note.Note.{Note}
use Rattle.db_exercise.specs.Exercise.{exercise_task}
use Rattle.db_exercise.specs.Rounds.{RoundMoment, with_words}
use Rattle.db_exercise.proofs.ReportLemmas.{reported, rounds_drawn, rounds_sound}
use Rattle.db_tool.specs.Doing.{DoesTask, during}
use Rattle.db_exercise.proofs.exercising.exercise.Goals as goal

pub returns-in-Ok-clause-task : goal.returns-in-Ok-clause-task
returns-in-Ok-clause-task g c =
    let on = g.met.H.Host.host_goes_on in
    let old : RoundMoment = with_words (during (g.H.Disk.state c.args.host.now) (g.H.Host.streams c.args.host.now) (g.B.Db.state c.args.db.now)) (g.R.Rng.stream c.args.rng.now) in
    let mid : RoundMoment = with_words (during (g.H.Disk.state c.run_rounds.new.host) (g.H.Host.streams c.run_rounds.new.host) (g.B.Db.state c.run_rounds.new.db)) (g.R.Rng.stream c.run_rounds.new.rng) in
    let so = c.in-Ok.ensures.made in
    let sound = rounds_sound g.B.Db.kind c.args.rounds old mid so in
    subst (λ (n : Note). DoesTask g.B.Db.kind (exercise_task g.B.Db.kind c.args.rounds old.tool.session old.words) old.tool
    (during (g.H.Disk.state c.report.new.host) (g.H.Host.streams c.report.new.host) (g.B.Db.state c.run_rounds.new.db)) n) (sym c.outcome_of.ensures.note)
    (reported g.B.Db.kind c.args.rounds old mid so (moment (g.H.Disk.state c.report.new.host) (g.H.Host.streams c.report.new.host)) c.report.result (on _ _ c.run_rounds.ensures.rest) (on _ _ c.report.ensures.rest)
    (g.met.B.Db.tie_opens _ _ sound c.run_rounds.ensures.tied) c.report.ensures.looks)

pub returns-in-Ok-clause-words : goal.returns-in-Ok-clause-words
returns-in-Ok-clause-words g c =
    let old : RoundMoment = with_words (during (g.H.Disk.state c.args.host.now) (g.H.Host.streams c.args.host.now) (g.B.Db.state c.args.db.now)) (g.R.Rng.stream c.args.rng.now) in
    let mid : RoundMoment = with_words (during (g.H.Disk.state c.run_rounds.new.host) (g.H.Host.streams c.run_rounds.new.host) (g.B.Db.state c.run_rounds.new.db)) (g.R.Rng.stream c.run_rounds.new.rng) in
    rounds_drawn g.B.Db.kind c.args.rounds old mid c.in-Ok.ensures.made c.outcome_of.result.note
