use Rattle.std.proofs.Common.{◌≡◌, sym, subst}
use Rattle.base_devices.specs.HostCalls.{moment}
use Rattle.tool_words.specs.declared.jobs.Job.{Job}
use Rattle.cyr_top.specs.Actions.{DoesAction, DrawsFor}
use Rattle.cyr_top.specs.Asked.{OnDatabase, UnlessRepack, inputs}
use Rattle.cyr_top.specs.Repacking.{DoesRepack, OnRepack}
use Rattle.cyr_top.proofs.running.do_job.Goals as goal

pub returns-in-Dbtool-clause-does : goal.returns-in-Dbtool-clause-does
returns-in-Dbtool-clause-does g c = λ built. subst (λ (j : Job). OnDatabase (inputs (g.R.Rng.stream c.args.rng.now) (g.I.Source.state c.args.input.now).left) (λ asked. UnlessRepack asked.action (DoesAction asked (moment (g.H.Disk.state c.args.host.now) (g.H.Host.streams c.args.host.now)) (moment (g.H.Disk.state c.on_backend.new.host) (g.H.Host.streams c.on_backend.new.host)) c.on_backend.result)) j) (sym c.in-Dbtool.is) c.on_backend.ensures.does

pub returns-in-Dbtool-clause-draws : goal.returns-in-Dbtool-clause-draws
returns-in-Dbtool-clause-draws g c = λ built. subst (λ (j : Job). OnDatabase (inputs (g.R.Rng.stream c.args.rng.now) (g.I.Source.state c.args.input.now).left) (λ asked. UnlessRepack asked.action (DrawsFor asked (g.H.Disk.state c.args.host.now) (g.R.Rng.stream c.args.rng.now) (g.R.Rng.stream c.on_backend.new.rng) c.on_backend.result)) j) (sym c.in-Dbtool.is) c.on_backend.ensures.draws

pub returns-in-Dbtool-clause-repacks : goal.returns-in-Dbtool-clause-repacks
returns-in-Dbtool-clause-repacks g c = λ built. subst (λ (j : Job). OnRepack (λ asked. DoesRepack asked (g.H.Disk.state c.args.host.now) (g.H.Disk.state c.on_backend.new.host) c.on_backend.result) j) (sym c.in-Dbtool.is) c.on_backend.ensures.repacks

pub returns-in-Dbtool-clause-rewrites : goal.returns-in-Dbtool-clause-rewrites
returns-in-Dbtool-clause-rewrites g c = λ built. subst (λ (j : Job). OnRepack (λ _. (g.H.Host.streams c.on_backend.new.host ≡ g.H.Host.streams c.args.host.now) × (g.R.Rng.stream c.on_backend.new.rng ≡ g.R.Rng.stream c.args.rng.now)) j) (sym c.in-Dbtool.is) c.on_backend.ensures.silent
