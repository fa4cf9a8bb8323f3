use Rattle.std.proofs.Common.{[], false, refl, sym, ◌∙◌, codes, subst}
use Rattle.base_notes.specs.declared.action.Action.TheVariants.{Consistent}
use Rattle.base_notes.specs.declared.note.Note.{Note}
use Rattle.db_core.specs.Opening.{IsOpenRefusal}
use Rattle.db_core.specs.declared.opening.OpenFault.{OpenFault}
use Rattle.cyr_top.specs.Actions.{DoesAction}
use Rattle.cyr_top.specs.Asked.{asking}
use Rattle.base_notes.specs.declared.note.Note.TheVariants.{Done, Answer}
use Rattle.base_devices.specs.HostCalls.{moment}
use Rattle.db_core.specs.declared.opening.OpenFault.TheVariants.{Damaged as Flawed}
use Rattle.db_tool.specs.Tasks.{given}
use Rattle.rand_core.specs.Stream.{Stream}
use Rattle.cyr_top.specs.Stated.{unopened}
use Rattle.cyr_top.proofs.CheckLemmas.{line_does, refusal_does, counted_opens, stood_for}
use Rattle.cyr_top.proofs.acting.check.Goals as goal

pub returns-in-Ok-clause-does : goal.returns-in-Ok-clause-does
returns-in-Ok-clause-does g c = λ (words : Stream).
    line_does g.B.Db.kind c.requires (given words []) Done c.end_with.result (codes "consistent\n") _ _ _ _ _ _
    (g.met.H.Disk.rest_goes_on _ _ c.verify_db.ensures.rest) (g.met.H.Host.host_goes_on _ _ c.end_with.ensures.rest) (g.met.H.Host.disk_keeps _ _ c.verify_db.ensures.rest)
    c.verify_db.ensures.stays c.verify_db.ensures.fresh c.in-Ok.ensures.cause.kept
    (λ main is. let met = c.in-Ok.ensures.opens main is in counted_opens g.B.Db.kind c.requires (given words []) main met.0 met.1) tt (λ is. cc is) c.end_with.ensures.looks

pub returns-in-Some-clause-does : goal.returns-in-Some-clause-does
returns-in-Some-clause-does g c = λ (words : Stream).
    let met = c.in-Err.ensures in
    line_does g.B.Db.kind c.requires (given words []) Answer c.end_with-in-Some.result c.as_str.result.now _ _ _ _ _ _
    (g.met.H.Disk.rest_goes_on _ _ c.verify_db.ensures.rest) (g.met.H.Host.host_goes_on _ _ c.end_with-in-Some.ensures.rest) (g.met.H.Host.disk_keeps _ _ c.verify_db.ensures.rest)
    c.verify_db.ensures.stays c.verify_db.ensures.fresh (stood_for c.in-Err.fault _ _ c.in-Some.ensures.some met.cause)
    (λ main is. unopened (Flawed c.in-Some.flaw.at c.in-Some.flaw.check) (subst (λ (f : OpenFault). IsOpenRefusal g.B.Db.kind main f) c.in-Some.ensures.some (met.refused main is)) refl (c.as_str.ensures.value ∙ c.line_of_flaw.ensures)) tt (λ is. cc is) c.end_with-in-Some.ensures.looks

pub returns-in-Some-clause-rest : goal.returns-in-Some-clause-rest
returns-in-Some-clause-rest g c = g.met.H.Host.host_then _ _ _ (g.met.H.Host.disk_rests _ _ c.verify_db.ensures.rest) c.end_with-in-Some.ensures.rest

pub returns-in-None-clause-does : goal.returns-in-None-clause-does
returns-in-None-clause-does g c = λ (words : Stream).
    subst (λ (n : Note). DoesAction (asking g.B.Db.kind false Consistent (given words [])) (moment (g.H.Disk.state c.args.host.now) (g.H.Host.streams c.args.host.now)) (moment (g.H.Disk.state c.verify_db.new.disk) (g.H.Host.streams c.verify_db.new.disk)) n) (sym c.note_of_opening.ensures)
    (refusal_does g.B.Db.kind c.requires (given words []) c.in-Err.fault _ _ _ _ (g.met.H.Host.disk_keeps _ _ c.verify_db.ensures.rest) c.verify_db.ensures.stays c.verify_db.ensures.fresh c.in-None.ensures.none c.in-Err.ensures.refused c.in-Err.ensures.cause)
