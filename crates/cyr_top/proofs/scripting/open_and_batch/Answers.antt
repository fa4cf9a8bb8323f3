use Rattle.std.proofs.Common.{false, inl, inr, List, ℕ, Some, ◌≡◌, sym, ◌∙◌, subst}
use Rattle.base_devices.specs.HostCalls.{moment}
use Rattle.base_notes.specs.declared.action.Action.TheVariants.{Batch}
use Rattle.base_notes.specs.declared.note.Note.{Note}
use Rattle.db_script.specs.Batch.{IsScriptNote}
use Rattle.db_script.specs.Scripts.{script_task}
use Rattle.db_tool.specs.Doing.{during}
use Rattle.db_tool.specs.Tasks.{given}
use Rattle.cyr_top.specs.Actions.{DoesAction, DrawsFor}
use Rattle.cyr_top.specs.Asked.{asking}
use Rattle.cyr_top.specs.Stated.{IsBuilt}
use Rattle.cyr_top.proofs.ActLemmas.{TaskDone, opened_does, opened_draws, unopened_does, unopened_draws}
use Rattle.cyr_top.proofs.StatedLemmas.{opening_built, opening_no_usage}
use Rattle.cyr_top.proofs.scripting.open_and_batch.Given.{Over}
use Rattle.cyr_top.proofs.scripting.open_and_batch.Goals as goal

script_done : (g : Over) (c : goal.After-drop-db g) (script : List ℕ) → (g.I.Source.state c.args.input.now).left ≡ Some script → TaskDone g.B.Db.kind Batch (script_task g.B.Db.kind (g.B.Db.state c.in-Ok.db) (g.R.Rng.stream c.args.rng.now) script)
    (during (g.H.Disk.state c.open_db.new.disk) (g.H.Host.streams c.open_db.new.disk) (g.B.Db.state c.in-Ok.db)) (during (g.H.Disk.state c.batch.new.host) (g.H.Host.streams c.batch.new.host) (g.B.Db.state c.batch.new.db)) c.batch.result.note
script_done g c script shown = record {
  each = c.batch.ensures.moments script shown;
  stated = (c.batch.ensures.stated script shown).stated;
  prints = (c.batch.ensures.stated script shown).prints;
  stands = λ no_fault. c.batch.ensures.stands script shown no_fault;
  only_prints = λ is. absurd (cc is);
  in_place = c.batch.ensures.well.in_place;
  faults = c.batch.ensures.well.faults;
  built = λ failed. inr c.batch.ensures.notes;
}

pub returns-in-Ok-clause-does : goal.returns-in-Ok-clause-does
returns-in-Ok-clause-does g c = λ script shown.
    opened_does g.B.Db.kind c.requires Batch (given (g.R.Rng.stream c.args.rng.now) script) c.in-Ok.db (g.B.Db.state c.in-Ok.db) (g.B.Db.state c.batch.new.db) _ _ _ _ _ _ c.batch.result.note
    (g.met.H.Disk.rest_goes_on _ _ c.open_db.ensures.rest) (g.met.H.Host.host_goes_on _ _ c.batch.ensures.rest) (g.met.H.Disk.is_moment _) (g.met.H.Disk.is_moment _) (λ is. cc is) (g.met.H.Host.disk_keeps _ _ c.open_db.ensures.rest)
    c.in-Ok.ensures.opens.opened c.in-Ok.ensures.disk c.in-Ok.ensures.cause.kept (script_done g c script shown) (λ sound i left. g.met.B.Db.tie_opens c.batch.new.db c.batch.new.host sound c.batch.ensures.tied i left)

pub returns-in-Ok-clause-draws : goal.returns-in-Ok-clause-draws
returns-in-Ok-clause-draws g c = λ script shown.
    opened_draws g.B.Db.kind c.requires Batch (given (g.R.Rng.stream c.args.rng.now) script) c.in-Ok.db (g.B.Db.state c.in-Ok.db) (g.B.Db.state c.batch.new.db) _ _ _ _ _ _ c.batch.result.note
    (g.met.H.Disk.rest_goes_on _ _ c.open_db.ensures.rest) (g.met.H.Host.host_goes_on _ _ c.batch.ensures.rest) (g.met.H.Disk.is_moment _) (g.met.H.Disk.is_moment _) (λ is. cc is) (g.met.H.Host.disk_keeps _ _ c.open_db.ensures.rest)
    c.in-Ok.ensures.opens.opened c.in-Ok.ensures.disk c.in-Ok.ensures.cause.kept (script_done g c script shown) (λ sound i left. g.met.B.Db.tie_opens c.batch.new.db c.batch.new.host sound c.batch.ensures.tied i left)
    _ _ (c.batch.ensures.words script shown)

pub returns-in-Ok-clause-built : goal.returns-in-Ok-clause-built
returns-in-Ok-clause-built g c = inr c.batch.ensures.notes

pub returns-in-Ok-clause-no_usage : goal.returns-in-Ok-clause-no_usage
returns-in-Ok-clause-no_usage g c = λ is. subst IsScriptNote is c.batch.ensures.notes

pub returns-in-Err-clause-does : goal.returns-in-Err-clause-does
returns-in-Err-clause-does g c = λ script shown.
    subst (λ (n : Note). DoesAction (asking g.B.Db.kind false Batch (given (g.R.Rng.stream c.args.rng.now) script)) (moment (g.H.Disk.state c.args.host.now) (g.H.Host.streams c.args.host.now)) (moment (g.H.Disk.state c.open_db.new.disk) (g.H.Host.streams c.open_db.new.disk)) n) (sym c.note_of_opening.ensures)
    (unopened_does g.B.Db.kind c.requires Batch (given (g.R.Rng.stream c.args.rng.now) script) _ _ _ _ c.in-Err.fault (g.met.H.Disk.rest_goes_on _ _ c.open_db.ensures.rest) (g.met.H.Disk.is_moment _) (λ is. cc is) (g.met.H.Host.disk_keeps _ _ c.open_db.ensures.rest)
    c.in-Err.ensures.opens.refused c.in-Err.ensures.disk c.in-Err.ensures.cause)

pub returns-in-Err-clause-draws : goal.returns-in-Err-clause-draws
returns-in-Err-clause-draws g c = λ script shown.
    subst (λ (n : Note). DrawsFor (asking g.B.Db.kind false Batch (given (g.R.Rng.stream c.args.rng.now) script)) (g.H.Disk.state c.args.host.now) (g.R.Rng.stream c.args.rng.now) (g.R.Rng.stream c.args.rng.now) n) (sym c.note_of_opening.ensures)
    (unopened_draws g.B.Db.kind c.requires Batch (given (g.R.Rng.stream c.args.rng.now) script) (g.H.Disk.state c.args.host.now) (g.R.Rng.stream c.args.rng.now) c.in-Err.fault c.in-Err.ensures.opens.refused)

pub returns-in-Err-clause-built : goal.returns-in-Err-clause-built
returns-in-Err-clause-built g c = inl (subst IsBuilt (sym c.note_of_opening.ensures) (opening_built c.in-Err.fault))

pub returns-in-Err-clause-no_usage : goal.returns-in-Err-clause-no_usage
returns-in-Err-clause-no_usage g c = λ is. opening_no_usage c.in-Err.fault (sym c.note_of_opening.ensures ∙ is)
