use Rattle.std.proofs.Common.{[], false, sym, subst}
use Rattle.base_notes.specs.declared.action.Action.TheVariants.{Exercise}
use Rattle.base_notes.specs.declared.note.Note.{Note}
use Rattle.base_devices.specs.HostCalls.{moment}
use Rattle.db_exercise.specs.Exercise.{exercise_task}
use Rattle.db_tool.specs.Tasks.{given}
use Rattle.cyr_top.specs.Actions.{DoesAction, DrawsFor}
use Rattle.cyr_top.specs.Asked.{asking}
use Rattle.cyr_top.proofs.ActLemmas.{done_of, unopened_does, unopened_draws, opened_does, opened_draws}
use Rattle.cyr_top.proofs.acting.open_and_exercise.Goals as goal

pub returns-in-Ok-clause-does : goal.returns-in-Ok-clause-does
returns-in-Ok-clause-does g c =
    opened_does g.B.Db.kind c.requires.laws (Exercise c.args.rounds) (given (g.R.Rng.stream c.args.rng.now) []) c.in-Ok.db (g.B.Db.state c.in-Ok.db) (g.B.Db.state c.exercise.new.db) _ _ _ _ _ _ c.exercise.result.note
    (g.met.H.Disk.rest_goes_on _ _ c.open_db.ensures.rest) (g.met.H.Host.host_goes_on _ _ c.exercise.ensures.rest) (g.met.H.Disk.is_moment _) (g.met.H.Disk.is_moment _) (λ is. cc is) (g.met.H.Host.disk_keeps _ _ c.open_db.ensures.rest)
    c.in-Ok.ensures.opens.opened c.in-Ok.ensures.disk c.in-Ok.ensures.cause.kept (done_of g.B.Db.kind (Exercise c.args.rounds) (exercise_task g.B.Db.kind c.args.rounds (g.B.Db.state c.in-Ok.db) (g.R.Rng.stream c.args.rng.now)) _ _ c.exercise.result.note c.exercise.ensures.task) (λ sound i left. g.met.B.Db.tie_opens c.exercise.new.db c.exercise.new.host sound c.exercise.ensures.tied i left)

pub returns-in-Ok-clause-draws : goal.returns-in-Ok-clause-draws
returns-in-Ok-clause-draws g c =
    opened_draws g.B.Db.kind c.requires.laws (Exercise c.args.rounds) (given (g.R.Rng.stream c.args.rng.now) []) c.in-Ok.db (g.B.Db.state c.in-Ok.db) (g.B.Db.state c.exercise.new.db) _ _ _ _ _ _ c.exercise.result.note
    (g.met.H.Disk.rest_goes_on _ _ c.open_db.ensures.rest) (g.met.H.Host.host_goes_on _ _ c.exercise.ensures.rest) (g.met.H.Disk.is_moment _) (g.met.H.Disk.is_moment _) (λ is. cc is) (g.met.H.Host.disk_keeps _ _ c.open_db.ensures.rest)
    c.in-Ok.ensures.opens.opened c.in-Ok.ensures.disk c.in-Ok.ensures.cause.kept (done_of g.B.Db.kind (Exercise c.args.rounds) (exercise_task g.B.Db.kind c.args.rounds (g.B.Db.state c.in-Ok.db) (g.R.Rng.stream c.args.rng.now)) _ _ c.exercise.result.note c.exercise.ensures.task) (λ sound i left. g.met.B.Db.tie_opens c.exercise.new.db c.exercise.new.host sound c.exercise.ensures.tied i left) _ _ c.exercise.ensures.words

pub returns-in-Err-clause-does : goal.returns-in-Err-clause-does
returns-in-Err-clause-does g c =
    subst (λ (n : Note). DoesAction (asking g.B.Db.kind false (Exercise c.args.rounds) (given (g.R.Rng.stream c.args.rng.now) [])) (moment (g.H.Disk.state c.args.host.now) (g.H.Host.streams c.args.host.now)) (moment (g.H.Disk.state c.open_db.new.disk) (g.H.Host.streams c.open_db.new.disk)) n) (sym c.note_of_opening.ensures)
    (unopened_does g.B.Db.kind c.requires.laws (Exercise c.args.rounds) (given (g.R.Rng.stream c.args.rng.now) []) _ _ _ _ c.in-Err.fault (g.met.H.Disk.rest_goes_on _ _ c.open_db.ensures.rest) (g.met.H.Disk.is_moment _) (λ is. cc is) (g.met.H.Host.disk_keeps _ _ c.open_db.ensures.rest)
    c.in-Err.ensures.opens.refused c.in-Err.ensures.disk c.in-Err.ensures.cause)

pub returns-in-Err-clause-draws : goal.returns-in-Err-clause-draws
returns-in-Err-clause-draws g c =
    subst (λ (n : Note). DrawsFor (asking g.B.Db.kind false (Exercise c.args.rounds) (given (g.R.Rng.stream c.args.rng.now) [])) (g.H.Disk.state c.args.host.now) (g.R.Rng.stream c.args.rng.now) (g.R.Rng.stream c.args.rng.now) n) (sym c.note_of_opening.ensures)
    (unopened_draws g.B.Db.kind c.requires.laws (Exercise c.args.rounds) (given (g.R.Rng.stream c.args.rng.now) []) (g.H.Disk.state c.args.host.now) (g.R.Rng.stream c.args.rng.now) c.in-Err.fault c.in-Err.ensures.opens.refused)
