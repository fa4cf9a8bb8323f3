use Rattle.std.proofs.Common.{◌≡◌, inl, sym, ◌∙◌, refl, subst}
use Rattle.base_devices.specs.HostCalls.{moment}
use Rattle.base_notes.specs.declared.action.Action.{Action}
use Rattle.db_repack.specs.Repacking.{repacking_by}
use Rattle.db_tool.specs.Tasks.{given}
use Rattle.cyr_top.specs.Actions.{DoesAction, DrawsFor}
use Rattle.cyr_top.specs.Asked.{IfRepack, IfUnread, OnScript, UnlessRepack, asking}
use Rattle.cyr_top.specs.Repacking.{DoesRepack, repacking}
use Rattle.cyr_top.proofs.ActLemmas.{input_stands}
use Rattle.cyr_top.proofs.JobLemmas.{done_now, if_unread, no_repack, reads_none, repack_of_action, script_of, unless}
use Rattle.cyr_top.proofs.StatedLemmas.{built_of_action}
use Rattle.cyr_top.proofs.scripting.on_database.Goals as goal

pub on_files-requires-clause-done : goal.on_files-requires-clause-done
on_files-requires-clause-done g c = (done_now c.args.action.now c.requires.ready (sym c.is_script.ensures ∙ c.if-is_script.false) (sym c.is_rewriting.ensures ∙ c.if-is_rewriting.false))

pub returns-then-is_script-clause-does : goal.returns-then-is_script-clause-does
returns-then-is_script-clause-does g c =
    subst (λ (a : Action). OnScript a (g.I.Source.state c.args.input.now).left (λ script. UnlessRepack a (DoesAction (asking g.B.Db.kind c.args.make a (given (g.R.Rng.stream c.args.rng.now) script)) (moment (g.H.Disk.state c.args.host.now) (g.H.Host.streams c.args.host.now)) (moment (g.H.Disk.state c.on_script.new.host) (g.H.Host.streams c.on_script.new.host)) c.on_script.result))) (sym (script_of c.args.action.now (sym c.is_script.ensures ∙ c.if-is_script.true))) c.on_script.ensures.does

pub returns-then-is_script-clause-draws : goal.returns-then-is_script-clause-draws
returns-then-is_script-clause-draws g c =
    subst (λ (a : Action). OnScript a (g.I.Source.state c.args.input.now).left (λ script. UnlessRepack a (DrawsFor (asking g.B.Db.kind c.args.make a (given (g.R.Rng.stream c.args.rng.now) script)) (g.H.Disk.state c.args.host.now) (g.R.Rng.stream c.args.rng.now) (g.R.Rng.stream c.on_script.new.rng) c.on_script.result))) (sym (script_of c.args.action.now (sym c.is_script.ensures ∙ c.if-is_script.true))) c.on_script.ensures.draws

pub returns-then-is_script-clause-unasked : goal.returns-then-is_script-clause-unasked
returns-then-is_script-clause-unasked g c = subst (λ (a : Action). IfUnread (c.on_script.new.input ≡ c.args.input.now) a) (sym (script_of c.args.action.now (sym c.is_script.ensures ∙ c.if-is_script.true))) tt

pub returns-clause-does : goal.returns-clause-does
returns-clause-does g c = reads_none c.args.action.now (g.I.Source.state c.args.input.now).left (λ script. UnlessRepack c.args.action.now (DoesAction (asking g.B.Db.kind c.args.make c.args.action.now (given (g.R.Rng.stream c.args.rng.now) script)) (moment (g.H.Disk.state c.args.host.now) (g.H.Host.streams c.args.host.now)) (moment (g.H.Disk.state c.on_files.new.host) (g.H.Host.streams c.on_files.new.host)) c.on_files.result)) (done_now c.args.action.now c.requires.ready (sym c.is_script.ensures ∙ c.if-is_script.false) (sym c.is_rewriting.ensures ∙ c.if-is_rewriting.false)) (unless c.args.action.now _ c.on_files.ensures.does)

pub returns-clause-draws : goal.returns-clause-draws
returns-clause-draws g c = reads_none c.args.action.now (g.I.Source.state c.args.input.now).left (λ script. UnlessRepack c.args.action.now (DrawsFor (asking g.B.Db.kind c.args.make c.args.action.now (given (g.R.Rng.stream c.args.rng.now) script)) (g.H.Disk.state c.args.host.now) (g.R.Rng.stream c.args.rng.now) (g.R.Rng.stream c.on_files.new.rng) c.on_files.result)) (done_now c.args.action.now c.requires.ready (sym c.is_script.ensures ∙ c.if-is_script.false) (sym c.is_rewriting.ensures ∙ c.if-is_rewriting.false)) (unless c.args.action.now _ c.on_files.ensures.draws)

pub returns-clause-unasked : goal.returns-clause-unasked
returns-clause-unasked g c = if_unread _ refl c.args.action.now

pub returns-clause-built : goal.returns-clause-built
returns-clause-built g c = inl (built_of_action c.args.action.now c.on_files.result (done_now c.args.action.now c.requires.ready (sym c.is_script.ensures ∙ c.if-is_script.false) (sym c.is_rewriting.ensures ∙ c.if-is_rewriting.false)) c.on_files.ensures.does.built)

pub returns-clause-input_faults : goal.returns-clause-input_faults
returns-clause-input_faults g c = input_stands c.on_files.result _ (built_of_action c.args.action.now c.on_files.result (done_now c.args.action.now c.requires.ready (sym c.is_script.ensures ∙ c.if-is_script.false) (sym c.is_rewriting.ensures ∙ c.if-is_rewriting.false)) c.on_files.ensures.does.built)

pub returns-then-is_script-clause-repacks : goal.returns-then-is_script-clause-repacks
returns-then-is_script-clause-repacks g c = subst (λ (a : Action). IfRepack a (DoesRepack (repacking (repacking_by g.B.Db.kind g.F.Files.repacked) c.args.make) (g.H.Disk.state c.args.host.now) (g.H.Disk.state c.on_script.new.host) c.on_script.result)) (sym (script_of c.args.action.now (sym c.is_script.ensures ∙ c.if-is_script.true))) tt

pub returns-then-is_script-clause-silent : goal.returns-then-is_script-clause-silent
returns-then-is_script-clause-silent g c = subst (λ (a : Action). IfRepack a ((g.H.Host.streams c.on_script.new.host ≡ g.H.Host.streams c.args.host.now) × (g.R.Rng.stream c.on_script.new.rng ≡ g.R.Rng.stream c.args.rng.now))) (sym (script_of c.args.action.now (sym c.is_script.ensures ∙ c.if-is_script.true))) tt

pub returns-then-is_rewriting-clause-does : goal.returns-then-is_rewriting-clause-does
returns-then-is_rewriting-clause-does g c =
    subst (λ (a : Action). OnScript a (g.I.Source.state c.args.input.now).left (λ script. UnlessRepack a (DoesAction (asking g.B.Db.kind c.args.make a (given (g.R.Rng.stream c.args.rng.now) script)) (moment (g.H.Disk.state c.args.host.now) (g.H.Host.streams c.args.host.now)) (moment (g.H.Disk.state c.repack_files.new.host) (g.H.Host.streams c.repack_files.new.host)) c.repack_files.result))) (sym (repack_of_action c.args.action.now (sym c.is_rewriting.ensures ∙ c.if-is_rewriting.true))) tt

pub returns-then-is_rewriting-clause-draws : goal.returns-then-is_rewriting-clause-draws
returns-then-is_rewriting-clause-draws g c =
    subst (λ (a : Action). OnScript a (g.I.Source.state c.args.input.now).left (λ script. UnlessRepack a (DrawsFor (asking g.B.Db.kind c.args.make a (given (g.R.Rng.stream c.args.rng.now) script)) (g.H.Disk.state c.args.host.now) (g.R.Rng.stream c.args.rng.now) (g.R.Rng.stream c.args.rng.now) c.repack_files.result))) (sym (repack_of_action c.args.action.now (sym c.is_rewriting.ensures ∙ c.if-is_rewriting.true))) tt

pub returns-then-is_rewriting-clause-repacks : goal.returns-then-is_rewriting-clause-repacks
returns-then-is_rewriting-clause-repacks g c = subst (λ (a : Action). IfRepack a (DoesRepack (repacking (repacking_by g.B.Db.kind g.F.Files.repacked) c.args.make) (g.H.Disk.state c.args.host.now) (g.H.Disk.state c.repack_files.new.host) c.repack_files.result)) (sym (repack_of_action c.args.action.now (sym c.is_rewriting.ensures ∙ c.if-is_rewriting.true))) c.repack_files.ensures.does

pub returns-then-is_rewriting-clause-silent : goal.returns-then-is_rewriting-clause-silent
returns-then-is_rewriting-clause-silent g c = subst (λ (a : Action). IfRepack a ((g.H.Host.streams c.repack_files.new.host ≡ g.H.Host.streams c.args.host.now) × (g.R.Rng.stream c.args.rng.now ≡ g.R.Rng.stream c.args.rng.now))) (sym (repack_of_action c.args.action.now (sym c.is_rewriting.ensures ∙ c.if-is_rewriting.true))) (g.met.H.Host.disk_keeps _ _ c.repack_files.ensures.rest, refl)

pub returns-then-is_rewriting-clause-unasked : goal.returns-then-is_rewriting-clause-unasked
returns-then-is_rewriting-clause-unasked g c = if_unread _ refl c.args.action.now

pub returns-then-is_rewriting-clause-input_faults : goal.returns-then-is_rewriting-clause-input_faults
returns-then-is_rewriting-clause-input_faults g c = input_stands c.repack_files.result _ c.repack_files.ensures.does.built

pub returns-clause-repacks : goal.returns-clause-repacks
returns-clause-repacks g c = no_repack c.args.action.now _ (sym c.is_rewriting.ensures ∙ c.if-is_rewriting.false)

pub returns-clause-silent : goal.returns-clause-silent
returns-clause-silent g c = no_repack c.args.action.now _ (sym c.is_rewriting.ensures ∙ c.if-is_rewriting.false)
