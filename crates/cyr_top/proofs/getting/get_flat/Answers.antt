use Rattle.std.proofs.Common.{[], false, sym, subst}
use Rattle.base_notes.specs.declared.action.Action.TheVariants.{Get}
use Rattle.base_notes.specs.declared.note.Note.{Note}
use Rattle.base_devices.specs.HostCalls.{moment}
use Rattle.db_tool.specs.Tasks.{given}
use Rattle.flat_db.specs.Sessions.{flat_kind}
use Rattle.rand_core.specs.Stream.{Stream}
use Rattle.cyr_top.specs.Actions.{DoesAction, DrawsFor}
use Rattle.cyr_top.specs.Asked.{asking}
use Rattle.cyr_top.proofs.ActLemmas.{unopened_does, unopened_draws}
use Rattle.cyr_top.proofs.GetLemmas.{got_does, got_draws}
use Rattle.cyr_top.proofs.getting.get_flat.Goals as goal

pub returns-in-Ok-clause-does : goal.returns-in-Ok-clause-does
returns-in-Ok-clause-does g c = λ (words : Stream).
    got_does c.requires c.args.key.now c.in-Ok.value (given words []) _ _ _ _ _ _ c.print_value.result
    (g.met.H.Disk.rest_goes_on _ _ c.fetch_db.ensures.rest) (g.met.H.Host.host_goes_on _ _ c.print_value.ensures.rest) (g.met.H.Disk.is_moment _) (g.met.H.Disk.is_moment _) (g.met.H.Host.disk_keeps _ _ c.fetch_db.ensures.rest)
    c.in-Ok.ensures.value c.in-Ok.ensures.disk c.in-Ok.ensures.reads c.in-Ok.ensures.cause.kept c.print_value.ensures.looks

pub returns-in-Ok-clause-draws : goal.returns-in-Ok-clause-draws
returns-in-Ok-clause-draws g c = λ (words : Stream).
    got_draws c.requires c.args.key.now c.in-Ok.value (given words []) _ _ _ _ _ _ c.print_value.result
    (g.met.H.Disk.rest_goes_on _ _ c.fetch_db.ensures.rest) (g.met.H.Host.host_goes_on _ _ c.print_value.ensures.rest) (g.met.H.Disk.is_moment _) (g.met.H.Disk.is_moment _) (g.met.H.Host.disk_keeps _ _ c.fetch_db.ensures.rest)
    c.in-Ok.ensures.value c.in-Ok.ensures.disk c.in-Ok.ensures.reads c.in-Ok.ensures.cause.kept c.print_value.ensures.looks words

pub returns-in-Err-clause-does : goal.returns-in-Err-clause-does
returns-in-Err-clause-does g c = λ (words : Stream).
    subst (λ (n : Note). DoesAction (asking flat_kind false (Get c.args.key.now) (given words [])) (moment (g.H.Disk.state c.args.host.now) (g.H.Host.streams c.args.host.now)) (moment (g.H.Disk.state c.fetch_db.new.disk) (g.H.Host.streams c.fetch_db.new.disk)) n) (sym c.note_of_opening.ensures)
    (unopened_does flat_kind c.requires (Get c.args.key.now) (given words []) _ _ _ _ c.in-Err.fault (g.met.H.Disk.rest_goes_on _ _ c.fetch_db.ensures.rest) (g.met.H.Disk.is_moment _) (λ is. cc is) (g.met.H.Host.disk_keeps _ _ c.fetch_db.ensures.rest)
    c.in-Err.ensures.refused c.in-Err.ensures.disk c.in-Err.ensures.cause)

pub returns-in-Err-clause-draws : goal.returns-in-Err-clause-draws
returns-in-Err-clause-draws g c = λ (words : Stream).
    subst (λ (n : Note). DrawsFor (asking flat_kind false (Get c.args.key.now) (given words [])) (g.H.Disk.state c.args.host.now) words words n) (sym c.note_of_opening.ensures)
    (unopened_draws flat_kind c.requires (Get c.args.key.now) (given words []) (g.H.Disk.state c.args.host.now) words c.in-Err.fault c.in-Err.ensures.refused)
