use Rattle.std.proofs.Common.{[], false, List, ℕ, sym, subst}
use Rattle.base_devices.specs.HostCalls.{moment}
use Rattle.base_notes.specs.declared.note.Note.{Note}
use Rattle.base_notes.specs.declared.note.Note.TheVariants.{Done}
use Rattle.cyr_top.specs.Actions.{DoesAction, DrawsFor}
use Rattle.cyr_top.specs.Asked.{asking}
use Rattle.db_tool.specs.Doing.{Looks}
use Rattle.db_tool.specs.Tasks.{CanAct, given}
use Rattle.flat_db.specs.Sessions.{flat_kind, flat_state}
use Rattle.flat_db.specs.Showing.{ShowsAs}
use Rattle.flat_db.specs.declared.showing.Shown.{Shown}
use Rattle.cyr_top.proofs.ActLemmas.{acted_draws, acted_of, unopened_does, unopened_draws, opened_does, opened_draws}
use Rattle.cyr_top.proofs.GetLemmas.{opens_session, shown_all, shown_draws}
use Rattle.cyr_top.proofs.getting.show_flat.Goals as goal

pub returns-in-Ok-Text-clause-does : goal.returns-in-Ok-Text-clause-does
returns-in-Ok-Text-clause-does g c =
    let met = c.in-Ok-Text.ensures in
    shown_all c.requires.laws c.args.action.now c.requires.all c.in-Ok-Text.text.items c.in-Ok-Text.field-0 (given (g.R.Rng.stream c.args.rng.now) []) _ _ _ _ _ _ c.print_text.result
    (g.met.H.Disk.rest_goes_on _ _ c.open_shown.ensures.rest) (g.met.H.Host.host_goes_on _ _ c.print_text.ensures.rest) (g.met.H.Disk.is_moment _) (g.met.H.Disk.is_moment _) (g.met.H.Host.disk_keeps _ _ c.open_shown.ensures.rest)
    (subst (λ (f : Shown). ShowsAs (g.H.Disk.state c.args.host.now) f) c.in-Ok-Text.field-0-is met.shows) met.disk met.reads met.cause.kept
    (subst (λ (l : List ℕ). Looks Done l (moment (g.H.Disk.state c.open_shown.new.disk) (g.H.Host.streams c.open_shown.new.disk)) (moment (g.H.Disk.state c.print_text.new.host) (g.H.Host.streams c.print_text.new.host)) c.print_text.result) c.deref.ensures.value c.print_text.ensures.looks)

pub returns-in-Ok-Text-clause-draws : goal.returns-in-Ok-Text-clause-draws
returns-in-Ok-Text-clause-draws g c =
    let met = c.in-Ok-Text.ensures in
    shown_draws c.requires.laws c.args.action.now c.requires.all c.in-Ok-Text.text.items c.in-Ok-Text.field-0 (given (g.R.Rng.stream c.args.rng.now) []) _ _ _ _ _ _ c.print_text.result
    (g.met.H.Disk.rest_goes_on _ _ c.open_shown.ensures.rest) (g.met.H.Host.host_goes_on _ _ c.print_text.ensures.rest) (g.met.H.Disk.is_moment _) (g.met.H.Disk.is_moment _) (g.met.H.Host.disk_keeps _ _ c.open_shown.ensures.rest)
    (subst (λ (f : Shown). ShowsAs (g.H.Disk.state c.args.host.now) f) c.in-Ok-Text.field-0-is met.shows) met.disk met.reads met.cause.kept
    (subst (λ (l : List ℕ). Looks Done l (moment (g.H.Disk.state c.open_shown.new.disk) (g.H.Host.streams c.open_shown.new.disk)) (moment (g.H.Disk.state c.print_text.new.host) (g.H.Host.streams c.print_text.new.host)) c.print_text.result) c.deref.ensures.value c.print_text.ensures.looks)
    (g.R.Rng.stream c.args.rng.now)

pub returns-in-Ok-Session-clause-does : goal.returns-in-Ok-Session-clause-does
returns-in-Ok-Session-clause-does g c =
    let met = c.in-Ok-Session.ensures in
    let db = c.in-Ok-Session.db in
    let shows = subst (λ (f : Shown). ShowsAs (g.H.Disk.state c.args.host.now) f) c.in-Ok-Session.field-0-is met.shows in
    opened_does flat_kind c.requires.laws c.args.action.now (given (g.R.Rng.stream c.args.rng.now) []) db (flat_state db) (flat_state c.act.new.db) _ _ _ _ _ _ c.act.result.note
    (g.met.H.Disk.rest_goes_on _ _ c.open_shown.ensures.rest) (g.met.H.Host.host_goes_on _ _ c.act.ensures.rest) (g.met.H.Disk.is_moment _) (g.met.H.Disk.is_moment _) (λ is. cc (is, c.requires.all)) (g.met.H.Host.disk_keeps _ _ c.open_shown.ensures.rest)
    shows.opened (opens_session _ _ c.in-Ok-Session.field-0 db met.disk) met.cause.kept (acted_of flat_kind c.args.action.now (flat_state db) (given (g.R.Rng.stream c.args.rng.now) []) _ _ c.act.result.note (subst CanAct (sym c.requires.all) tt) c.act.ensures.task) (λ sound i left. c.act.ensures.tied.leaves sound i left)

pub returns-in-Ok-Session-clause-draws : goal.returns-in-Ok-Session-clause-draws
returns-in-Ok-Session-clause-draws g c =
    let met = c.in-Ok-Session.ensures in
    let db = c.in-Ok-Session.db in
    let shows = subst (λ (f : Shown). ShowsAs (g.H.Disk.state c.args.host.now) f) c.in-Ok-Session.field-0-is met.shows in
    opened_draws flat_kind c.requires.laws c.args.action.now (given (g.R.Rng.stream c.args.rng.now) []) db (flat_state db) (flat_state c.act.new.db) _ _ _ _ _ _ c.act.result.note
    (g.met.H.Disk.rest_goes_on _ _ c.open_shown.ensures.rest) (g.met.H.Host.host_goes_on _ _ c.act.ensures.rest) (g.met.H.Disk.is_moment _) (g.met.H.Disk.is_moment _) (λ is. cc (is, c.requires.all)) (g.met.H.Host.disk_keeps _ _ c.open_shown.ensures.rest)
    shows.opened (opens_session _ _ c.in-Ok-Session.field-0 db met.disk) met.cause.kept (acted_of flat_kind c.args.action.now (flat_state db) (given (g.R.Rng.stream c.args.rng.now) []) _ _ c.act.result.note (subst CanAct (sym c.requires.all) tt) c.act.ensures.task) (λ sound i left. c.act.ensures.tied.leaves sound i left) _ _ (acted_draws flat_kind c.args.action.now (flat_state db) (given (g.R.Rng.stream c.args.rng.now) []) _ _ c.act.result.note (subst CanAct (sym c.requires.all) tt) c.act.ensures.words)

pub returns-in-Err-clause-does : goal.returns-in-Err-clause-does
returns-in-Err-clause-does g c =
    subst (λ (n : Note). DoesAction (asking flat_kind false c.args.action.now (given (g.R.Rng.stream c.args.rng.now) [])) (moment (g.H.Disk.state c.args.host.now) (g.H.Host.streams c.args.host.now)) (moment (g.H.Disk.state c.open_shown.new.disk) (g.H.Host.streams c.open_shown.new.disk)) n) (sym c.note_of_opening.ensures)
    (unopened_does flat_kind c.requires.laws c.args.action.now (given (g.R.Rng.stream c.args.rng.now) []) _ _ _ _ c.in-Err.fault (g.met.H.Disk.rest_goes_on _ _ c.open_shown.ensures.rest) (g.met.H.Disk.is_moment _) (λ is. cc (is, c.requires.all)) (g.met.H.Host.disk_keeps _ _ c.open_shown.ensures.rest)
    c.in-Err.ensures.refused c.in-Err.ensures.disk c.in-Err.ensures.cause)

pub returns-in-Err-clause-draws : goal.returns-in-Err-clause-draws
returns-in-Err-clause-draws g c =
    subst (λ (n : Note). DrawsFor (asking flat_kind false c.args.action.now (given (g.R.Rng.stream c.args.rng.now) [])) (g.H.Disk.state c.args.host.now) (g.R.Rng.stream c.args.rng.now) (g.R.Rng.stream c.args.rng.now) n) (sym c.note_of_opening.ensures)
    (unopened_draws flat_kind c.requires.laws c.args.action.now (given (g.R.Rng.stream c.args.rng.now) []) (g.H.Disk.state c.args.host.now) (g.R.Rng.stream c.args.rng.now) c.in-Err.fault c.in-Err.ensures.refused)
