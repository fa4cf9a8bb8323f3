use Rattle.std.proofs.Common.{◌≡◌, inl, map, refl, subst}
use Rattle.std.specs.Prelude.{string_bytes}
use Rattle.cyr_top.proofs.JobLemmas.{built_is, if_unasked, no_job, not_built, on_each, on_each_repack, on_one, unless}
use Rattle.base_devices.specs.HostCalls.{moment}
use Rattle.base_notes.specs.declared.note.Note.TheVariants.{Memory}
use Rattle.tool_words.specs.declared.jobs.Job.{Job}
use Rattle.cyr_top.specs.Actions.{DoesAction, DrawsFor}
use Rattle.cyr_top.specs.Asked.{IfUnasked, OnDatabase, OnOneDatabase, UnlessRepack, inputs, repack_of}
use Rattle.cyr_top.specs.Converting.{DoesConversion, OnConversion, with_both}
use Rattle.cyr_top.specs.Rebuilding.{DoesRebuild, OnFolder, rebuild_of}
use Rattle.cyr_top.specs.Repacking.{DoesRepack, OnRepack, repacking}
use Rattle.cyr_top.proofs.ConvertLemmas.{nothing_converted, on_each_conversion}
use Rattle.cyr_top.proofs.CrashLemmas.{nothing_done, nothing_drawn}
use Rattle.cyr_top.proofs.RebuildingLemmas.{nothing_rebuilt, on_each_folder}
use Rattle.cyr_top.proofs.RepackMade.{nothing_repacked}
use Rattle.cyr_top.proofs.running.do_words.Goals as goal

pub returns-in-Ok-clause-none : goal.returns-in-Ok-clause-none
returns-in-Ok-clause-none g c = λ none.
    let met = c.do_job.ensures.usage (not_built (map string_bytes c.args.words.now) c.in-Ok.job c.in-Ok.ensures.job none) in
    (inl met.0, met.1, met.2, met.3, met.4, met.5)

pub returns-in-Ok-clause-does : goal.returns-in-Ok-clause-does
returns-in-Ok-clause-does g c = λ job built.
    let is = built_is (map string_bytes c.args.words.now) c.in-Ok.job job c.in-Ok.ensures.job built in
    subst (λ (j : Job). OnDatabase (inputs (g.R.Rng.stream c.args.rng.now) (g.I.Source.state c.args.input.now).left) (λ asked. UnlessRepack asked.action (DoesAction asked (moment (g.H.Disk.state c.args.host.now) (g.H.Host.streams c.args.host.now)) (moment (g.H.Disk.state c.do_job.new.host) (g.H.Host.streams c.do_job.new.host)) c.do_job.result)) j) is.0 (c.do_job.ensures.does is.1)

pub returns-in-Err-NoMemory-clause-does : goal.returns-in-Err-NoMemory-clause-does
returns-in-Err-NoMemory-clause-does g c = λ job built.
    on_each (inputs (g.R.Rng.stream c.args.rng.now) (g.I.Source.state c.args.input.now).left) (λ asked. UnlessRepack asked.action (DoesAction asked (moment (g.H.Disk.state c.args.host.now) (g.H.Host.streams c.args.host.now)) (moment (g.H.Disk.state c.args.host.now) (g.H.Host.streams c.args.host.now)) Memory))
    (λ asked. unless asked.action _ (nothing_done asked (moment (g.H.Disk.state c.args.host.now) (g.H.Host.streams c.args.host.now)) (g.met.H.Disk.is_moment c.args.host.now))) job

pub returns-in-Ok-clause-unread : goal.returns-in-Ok-clause-unread
returns-in-Ok-clause-unread g c = λ job built.
    let is = built_is (map string_bytes c.args.words.now) c.in-Ok.job job c.in-Ok.ensures.job built in
    subst (OnOneDatabase ((c.do_job.new.spool ≡ c.args.spool.now) × (c.do_job.new.second ≡ c.args.second.now))) is.0 c.do_job.ensures.unread

pub returns-in-Ok-clause-rebuilds : goal.returns-in-Ok-clause-rebuilds
returns-in-Ok-clause-rebuilds g c = λ job built.
    let is = built_is (map string_bytes c.args.words.now) c.in-Ok.job job c.in-Ok.ensures.job built in
    subst (λ (j : Job). OnFolder (λ options. DoesRebuild (rebuild_of (g.S.Spool.state c.args.spool.now) c.args.now options) (moment (g.H.Disk.state c.args.host.now) (g.H.Host.streams c.args.host.now)) (moment (g.H.Disk.state c.do_job.new.host) (g.H.Host.streams c.do_job.new.host)) c.do_job.result) j) is.0 c.do_job.ensures.rebuilds

pub returns-in-Ok-clause-undrawn : goal.returns-in-Ok-clause-undrawn
returns-in-Ok-clause-undrawn g c = λ job built.
    let is = built_is (map string_bytes c.args.words.now) c.in-Ok.job job c.in-Ok.ensures.job built in
    subst (λ (j : Job). OnFolder (λ options. (g.R.Rng.stream c.do_job.new.rng ≡ g.R.Rng.stream c.args.rng.now) × (c.do_job.new.second ≡ c.args.second.now)) j) is.0 c.do_job.ensures.undrawn

pub returns-in-Err-NoMemory-clause-rebuilds : goal.returns-in-Err-NoMemory-clause-rebuilds
returns-in-Err-NoMemory-clause-rebuilds g c = λ job built.
    on_each_folder (λ options. DoesRebuild (rebuild_of (g.S.Spool.state c.args.spool.now) c.args.now options) (moment (g.H.Disk.state c.args.host.now) (g.H.Host.streams c.args.host.now)) (moment (g.H.Disk.state c.args.host.now) (g.H.Host.streams c.args.host.now)) Memory)
    (λ options. nothing_rebuilt (rebuild_of (g.S.Spool.state c.args.spool.now) c.args.now options) (moment (g.H.Disk.state c.args.host.now) (g.H.Host.streams c.args.host.now)) (g.met.H.Disk.is_moment c.args.host.now)) job

pub returns-in-Ok-clause-converts : goal.returns-in-Ok-clause-converts
returns-in-Ok-clause-converts g c = λ job built.
    let is = built_is (map string_bytes c.args.words.now) c.in-Ok.job job c.in-Ok.ensures.job built in
    subst (λ (j : Job). OnConversion (λ asked. DoesConversion asked (with_both (g.H.Disk.state c.args.host.now) (g.D.Disk.state c.args.second.now) (g.R.Rng.stream c.args.rng.now)) (with_both (g.H.Disk.state c.do_job.new.host) (g.D.Disk.state c.do_job.new.second) (g.R.Rng.stream c.do_job.new.rng)) c.do_job.result) j) is.0 c.do_job.ensures.converts

pub returns-in-Ok-clause-silent : goal.returns-in-Ok-clause-silent
returns-in-Ok-clause-silent g c = λ job built.
    let is = built_is (map string_bytes c.args.words.now) c.in-Ok.job job c.in-Ok.ensures.job built in
    subst (λ (j : Job). OnConversion (λ asked. (g.H.Host.streams c.do_job.new.host ≡ g.H.Host.streams c.args.host.now) × (c.do_job.new.spool ≡ c.args.spool.now)) j) is.0 c.do_job.ensures.silent

pub returns-in-Err-NoMemory-clause-converts : goal.returns-in-Err-NoMemory-clause-converts
returns-in-Err-NoMemory-clause-converts g c = λ job built.
    on_each_conversion (λ asked. DoesConversion asked (with_both (g.H.Disk.state c.args.host.now) (g.D.Disk.state c.args.second.now) (g.R.Rng.stream c.args.rng.now)) (with_both (g.H.Disk.state c.args.host.now) (g.D.Disk.state c.args.second.now) (g.R.Rng.stream c.args.rng.now)) Memory)
    (λ from to. nothing_converted from to (g.H.Disk.state c.args.host.now) (g.D.Disk.state c.args.second.now) (g.R.Rng.stream c.args.rng.now) (g.met.H.Disk.is_moment c.args.host.now) (g.met.D.Disk.is_moment c.args.second.now)) job

pub returns-in-Ok-clause-unasked : goal.returns-in-Ok-clause-unasked
returns-in-Ok-clause-unasked g c = λ job built.
    let is = built_is (map string_bytes c.args.words.now) c.in-Ok.job job c.in-Ok.ensures.job built in
    subst (IfUnasked (c.do_job.new.input ≡ c.args.input.now)) is.0 c.do_job.ensures.unasked

pub returns-in-Err-NoMemory-clause-unread : goal.returns-in-Err-NoMemory-clause-unread
returns-in-Err-NoMemory-clause-unread g c = λ job built. on_one _ (refl, refl) job

pub returns-in-Err-NoMemory-clause-unasked : goal.returns-in-Err-NoMemory-clause-unasked
returns-in-Err-NoMemory-clause-unasked g c = λ job built. if_unasked _ refl job

pub returns-in-Ok-clause-draws : goal.returns-in-Ok-clause-draws
returns-in-Ok-clause-draws g c = λ job built.
    let is = built_is (map string_bytes c.args.words.now) c.in-Ok.job job c.in-Ok.ensures.job built in
    subst (λ (j : Job). OnDatabase (inputs (g.R.Rng.stream c.args.rng.now) (g.I.Source.state c.args.input.now).left) (λ asked. UnlessRepack asked.action (DrawsFor asked (g.H.Disk.state c.args.host.now) (g.R.Rng.stream c.args.rng.now) (g.R.Rng.stream c.do_job.new.rng) c.do_job.result)) j) is.0 (c.do_job.ensures.draws is.1)

pub returns-in-Ok-clause-usage : goal.returns-in-Ok-clause-usage
returns-in-Ok-clause-usage g c = λ usage. no_job (map string_bytes c.args.words.now) c.in-Ok.job c.in-Ok.ensures.job (λ built. c.do_job.ensures.asked built usage)

pub returns-in-Err-NoMemory-clause-draws : goal.returns-in-Err-NoMemory-clause-draws
returns-in-Err-NoMemory-clause-draws g c = λ job built.
    on_each (inputs (g.R.Rng.stream c.args.rng.now) (g.I.Source.state c.args.input.now).left) (λ asked. UnlessRepack asked.action (DrawsFor asked (g.H.Disk.state c.args.host.now) (g.R.Rng.stream c.args.rng.now) (g.R.Rng.stream c.args.rng.now) Memory))
    (λ asked. unless asked.action _ (nothing_drawn asked (g.H.Disk.state c.args.host.now) (g.R.Rng.stream c.args.rng.now))) job

pub returns-in-Ok-clause-repacks : goal.returns-in-Ok-clause-repacks
returns-in-Ok-clause-repacks g c = λ job built.
    let is = built_is (map string_bytes c.args.words.now) c.in-Ok.job job c.in-Ok.ensures.job built in
    subst (λ (j : Job). OnRepack (λ asked. DoesRepack asked (g.H.Disk.state c.args.host.now) (g.H.Disk.state c.do_job.new.host) c.do_job.result) j) is.0 (c.do_job.ensures.repacks is.1)

pub returns-in-Ok-clause-rewrites : goal.returns-in-Ok-clause-rewrites
returns-in-Ok-clause-rewrites g c = λ job built.
    let is = built_is (map string_bytes c.args.words.now) c.in-Ok.job job c.in-Ok.ensures.job built in
    subst (λ (j : Job). OnRepack (λ _. (g.H.Host.streams c.do_job.new.host ≡ g.H.Host.streams c.args.host.now) × (g.R.Rng.stream c.do_job.new.rng ≡ g.R.Rng.stream c.args.rng.now)) j) is.0 (c.do_job.ensures.rewrites is.1)

pub returns-in-Err-NoMemory-clause-repacks : goal.returns-in-Err-NoMemory-clause-repacks
returns-in-Err-NoMemory-clause-repacks g c = λ job built.
    on_each_repack (λ asked. DoesRepack asked (g.H.Disk.state c.args.host.now) (g.H.Disk.state c.args.host.now) Memory)
    (λ backend make. nothing_repacked (repacking (repack_of backend) make) (g.H.Disk.state c.args.host.now) (g.met.H.Disk.is_moment c.args.host.now)) job

pub returns-in-Err-NoMemory-clause-rewrites : goal.returns-in-Err-NoMemory-clause-rewrites
returns-in-Err-NoMemory-clause-rewrites g c = λ job built.
    on_each_repack (λ _. (g.H.Host.streams c.args.host.now ≡ g.H.Host.streams c.args.host.now) × (g.R.Rng.stream c.args.rng.now ≡ g.R.Rng.stream c.args.rng.now)) (λ backend make. (refl, refl)) job
