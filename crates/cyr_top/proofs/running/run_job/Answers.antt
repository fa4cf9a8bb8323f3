use Rattle.std.proofs.Common.{◌≡◌, sym, subst}
use Rattle.base_devices.specs.HostCalls.{moment}
use Rattle.base_notes.specs.declared.note.Note.{Note}
use Rattle.cyr_top.specs.Actions.{DoesAction, DrawsFor, but_warned}
use Rattle.cyr_top.specs.Asked.{UnlessRepack, inputs}
use Rattle.cyr_top.specs.Crashes.{KeepsPromises}
use Rattle.cyr_top.specs.Converting.{DoesConversion, with_both}
use Rattle.cyr_top.specs.Rebuilding.{DoesRebuild, rebuild_of}
use Rattle.cyr_top.specs.Repacking.{DoesRepack}
use Rattle.cyr_top.specs.Stated.{SamePrints}
use Rattle.cyr_top.proofs.ConvertLemmas.{converts_still, on_conversion, same_prints}
use Rattle.cyr_top.proofs.CrashLemmas.{promised}
use Rattle.cyr_top.proofs.JobLemmas.{on_job, on_repack, unless_follows}
use Rattle.cyr_top.proofs.RebuildingLemmas.{on_folder, rebuild_still}
use Rattle.cyr_top.proofs.RepackMade.{repack_still}
use Rattle.cyr_top.proofs.running.run_job.Goals as goal

pub returns-clause-promises : goal.returns-clause-promises
returns-clause-promises g c = λ built. on_job (inputs (g.R.Rng.stream c.args.rng.now) (g.I.Source.state c.args.input.now).left)
    (λ asked. UnlessRepack asked.action (DoesAction asked (moment (g.H.Disk.state c.args.host.now) (g.H.Host.streams c.args.host.now)) (moment (g.H.Disk.state c.do_job-note.new.host) (g.H.Host.streams c.do_job-note.new.host)) c.do_job-note.result))
    (λ asked. UnlessRepack asked.action (KeepsPromises asked (moment (g.H.Disk.state c.args.host.now) (g.H.Host.streams c.args.host.now)) (but_warned (g.H.Disk.state c.end_run.new.host) (g.H.Host.streams c.args.host.now) (g.H.Host.streams c.end_run.new.host)) c.end_run.result.note))
    (λ asked laws. unless_follows asked.action _ _ (λ does. subst (λ (n : Note). KeepsPromises asked (moment (g.H.Disk.state c.args.host.now) (g.H.Host.streams c.args.host.now)) (but_warned (g.H.Disk.state c.end_run.new.host) (g.H.Host.streams c.args.host.now) (g.H.Host.streams c.end_run.new.host)) n) (sym c.end_run.ensures.note)
    (promised asked laws (g.H.Host.streams c.args.host.now) (g.H.Host.streams c.do_job-note.new.host) (g.H.Host.streams c.end_run.new.host) _ _ _ c.do_job-note.result (g.met.H.Host.host_goes_on _ _ (g.met.H.Host.host_then _ _ _ c.do_job-note.ensures.rest c.end_run.ensures.rest)) (g.met.H.Disk.is_moment _) (g.met.H.Disk.is_moment _) c.end_run.ensures.disk c.end_run.ensures.told c.end_run.ensures.tell_faults does)))
    c.args.job.now (c.do_job-note.ensures.does built)

pub returns-clause-rebuilds : goal.returns-clause-rebuilds
returns-clause-rebuilds g c = on_folder
    (λ options. DoesRebuild (rebuild_of (g.S.Spool.state c.args.spool.now) c.args.now options) (moment (g.H.Disk.state c.args.host.now) (g.H.Host.streams c.args.host.now)) (moment (g.H.Disk.state c.do_job-note.new.host) (g.H.Host.streams c.do_job-note.new.host)) c.do_job-note.result)
    (λ options. DoesRebuild (rebuild_of (g.S.Spool.state c.args.spool.now) c.args.now options) (moment (g.H.Disk.state c.args.host.now) (g.H.Host.streams c.args.host.now)) (but_warned (g.H.Disk.state c.end_run.new.host) (g.H.Host.streams c.args.host.now) (g.H.Host.streams c.end_run.new.host)) c.end_run.result.note)
    (λ options does. subst (λ (n : Note). DoesRebuild (rebuild_of (g.S.Spool.state c.args.spool.now) c.args.now options) (moment (g.H.Disk.state c.args.host.now) (g.H.Host.streams c.args.host.now)) (but_warned (g.H.Disk.state c.end_run.new.host) (g.H.Host.streams c.args.host.now) (g.H.Host.streams c.end_run.new.host)) n) (sym c.end_run.ensures.note)
    (rebuild_still (rebuild_of (g.S.Spool.state c.args.spool.now) c.args.now options) (g.H.Host.streams c.args.host.now) (g.H.Host.streams c.do_job-note.new.host) (g.H.Host.streams c.end_run.new.host) _ _ _ c.do_job-note.result c.end_run.ensures.disk c.end_run.ensures.told c.end_run.ensures.tell_faults does))
    c.args.job.now c.do_job-note.ensures.rebuilds

pub returns-clause-converts : goal.returns-clause-converts
returns-clause-converts g c = on_conversion
    (λ asked. DoesConversion asked (with_both (g.H.Disk.state c.args.host.now) (g.D.Disk.state c.args.second.now) (g.R.Rng.stream c.args.rng.now)) (with_both (g.H.Disk.state c.do_job-note.new.host) (g.D.Disk.state c.do_job-note.new.second) (g.R.Rng.stream c.do_job-note.new.rng)) c.do_job-note.result)
    (λ asked. DoesConversion asked (with_both (g.H.Disk.state c.args.host.now) (g.D.Disk.state c.args.second.now) (g.R.Rng.stream c.args.rng.now)) (with_both (g.H.Disk.state c.end_run.new.host) (g.D.Disk.state c.do_job-note.new.second) (g.R.Rng.stream c.do_job-note.new.rng)) c.end_run.result.note)
    (λ asked does. subst (λ (n : Note). DoesConversion asked (with_both (g.H.Disk.state c.args.host.now) (g.D.Disk.state c.args.second.now) (g.R.Rng.stream c.args.rng.now)) (with_both (g.H.Disk.state c.end_run.new.host) (g.D.Disk.state c.do_job-note.new.second) (g.R.Rng.stream c.do_job-note.new.rng)) n) (sym c.end_run.ensures.note) (converts_still asked _ _ _ _ _ _ _ c.do_job-note.result c.end_run.ensures.disk does))
    c.args.job.now c.do_job-note.ensures.converts

pub returns-clause-silent : goal.returns-clause-silent
returns-clause-silent g c = on_conversion
    (λ asked. (g.H.Host.streams c.do_job-note.new.host ≡ g.H.Host.streams c.args.host.now) × (c.do_job-note.new.spool ≡ c.args.spool.now))
    (λ asked. SamePrints (g.H.Host.streams c.args.host.now) (g.H.Host.streams c.end_run.new.host) × (c.do_job-note.new.spool ≡ c.args.spool.now))
    (λ asked silent. (same_prints _ _ _ silent.0 c.end_run.ensures.told c.end_run.ensures.tell_faults, silent.1))
    c.args.job.now c.do_job-note.ensures.silent

pub returns-clause-draws : goal.returns-clause-draws
returns-clause-draws g c = λ built. on_job (inputs (g.R.Rng.stream c.args.rng.now) (g.I.Source.state c.args.input.now).left)
    (λ asked. UnlessRepack asked.action (DrawsFor asked (g.H.Disk.state c.args.host.now) (g.R.Rng.stream c.args.rng.now) (g.R.Rng.stream c.do_job-note.new.rng) c.do_job-note.result))
    (λ asked. UnlessRepack asked.action (DrawsFor asked (g.H.Disk.state c.args.host.now) (g.R.Rng.stream c.args.rng.now) (g.R.Rng.stream c.do_job-note.new.rng) c.end_run.result.note))
    (λ asked laws. unless_follows asked.action _ _ (λ draws. subst (λ (n : Note). DrawsFor asked (g.H.Disk.state c.args.host.now) (g.R.Rng.stream c.args.rng.now) (g.R.Rng.stream c.do_job-note.new.rng) n) (sym c.end_run.ensures.note) draws))
    c.args.job.now (c.do_job-note.ensures.draws built)

pub returns-clause-repacks : goal.returns-clause-repacks
returns-clause-repacks g c = λ built. on_repack
    (λ asked. DoesRepack asked (g.H.Disk.state c.args.host.now) (g.H.Disk.state c.do_job-note.new.host) c.do_job-note.result)
    (λ asked. DoesRepack asked (g.H.Disk.state c.args.host.now) (g.H.Disk.state c.end_run.new.host) c.end_run.result.note)
    (λ asked does. subst (λ (n : Note). DoesRepack asked (g.H.Disk.state c.args.host.now) (g.H.Disk.state c.end_run.new.host) n) (sym c.end_run.ensures.note) (repack_still asked _ _ _ c.do_job-note.result c.end_run.ensures.disk does))
    c.args.job.now (c.do_job-note.ensures.repacks built)

pub returns-clause-rewrites : goal.returns-clause-rewrites
returns-clause-rewrites g c = λ built. on_repack
    (λ asked. (g.H.Host.streams c.do_job-note.new.host ≡ g.H.Host.streams c.args.host.now) × (g.R.Rng.stream c.do_job-note.new.rng ≡ g.R.Rng.stream c.args.rng.now))
    (λ asked. SamePrints (g.H.Host.streams c.args.host.now) (g.H.Host.streams c.end_run.new.host) × (g.R.Rng.stream c.do_job-note.new.rng ≡ g.R.Rng.stream c.args.rng.now))
    (λ asked silent. (same_prints _ _ _ silent.0 c.end_run.ensures.told c.end_run.ensures.tell_faults, silent.1))
    c.args.job.now (c.do_job-note.ensures.rewrites built)
