use Rattle.std.proofs.Common.{sym, subst}
use Rattle.base_devices.specs.HostCalls.{moment}
use Rattle.base_notes.specs.declared.note.Device.TheVariants.{Spool as SpoolDevice}
use Rattle.base_notes.specs.declared.note.Note.{Note}
use Rattle.db_tool.specs.ToolNotes.{Faults}
use Rattle.cyr_top.specs.Rebuilding.{DoesRebuild, rebuild_of}
use Rattle.cyr_top.proofs.RebuildingLemmas.{does_done, does_refused, spool_faults}
use Rattle.cyr_top.proofs.rebuilding.reconstruct.Goals as goal

pub returns-in-Ok-clause-does : goal.returns-in-Ok-clause-does
returns-in-Ok-clause-does g c =
    does_done (rebuild_of (g.S.Spool.state c.args.spool.now) c.args.now c.args.options.now) (moment (g.H.Disk.state c.args.host.now) (g.H.Host.streams c.args.host.now)) (moment (g.H.Disk.state c.rebuild.new.host) (g.H.Host.streams c.rebuild.new.host)) _
    c.in-Ok.ensures.rebuilt c.in-Ok.ensures.no_limit c.in-Ok.ensures.durable c.in-Ok.ensures.any_moment c.in-Ok.ensures.dry c.in-Ok.ensures.dry_reads c.in-Ok.ensures.warned c.in-Ok.ensures.host_cause.kept

pub returns-in-Err-clause-does : goal.returns-in-Err-clause-does
returns-in-Err-clause-does g c =
    subst (λ (n : Note). DoesRebuild (rebuild_of (g.S.Spool.state c.args.spool.now) c.args.now c.args.options.now) (moment (g.H.Disk.state c.args.host.now) (g.H.Host.streams c.args.host.now)) (moment (g.H.Disk.state c.rebuild.new.host) (g.H.Host.streams c.rebuild.new.host)) n) (sym c.note_of_rebuild.ensures)
    (does_refused (rebuild_of (g.S.Spool.state c.args.spool.now) c.args.now c.args.options.now) (moment (g.H.Disk.state c.args.host.now) (g.H.Host.streams c.args.host.now)) (moment (g.H.Disk.state c.rebuild.new.host) (g.H.Host.streams c.rebuild.new.host)) c.in-Err.fault
    c.in-Err.ensures.any_moment c.in-Err.ensures.dry c.in-Err.ensures.refused c.in-Err.ensures.silent c.in-Err.ensures.prefix c.in-Err.ensures.limit
    c.in-Err.ensures.host_cause.rose c.in-Err.ensures.host_cause.stood c.in-Err.ensures.print_cause.stood c.in-Err.ensures.warned)

pub returns-in-Err-clause-spool_faults : goal.returns-in-Err-clause-spool_faults
returns-in-Err-clause-spool_faults g c =
    subst (λ (n : Note). Faults SpoolDevice n (g.S.Spool.state c.args.spool.now).faults (g.S.Spool.state c.rebuild.new.spool).faults) (sym c.note_of_rebuild.ensures)
    (spool_faults c.in-Err.fault _ _ c.in-Err.ensures.spool_cause.rose c.in-Err.ensures.spool_cause.stood)
