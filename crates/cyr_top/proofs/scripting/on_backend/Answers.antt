use Rattle.std.proofs.Common.{sym, subst}
use Rattle.base_devices.specs.HostCalls.{moment}
use Rattle.base_notes.specs.declared.action.Backend.{Backend}
use Rattle.db_tool.specs.Tasks.{given}
use Rattle.flat_db.proofs.KindLaws.{flat_laws}
use Rattle.flat_db.proofs.RepackingLemmas.{flat_repacks_once}
use Rattle.skip_kind.proofs.KindLaws.{skip_laws}
use Rattle.twoskip.proofs.RepackingLemmas.{skip_repacks_once}
use Rattle.cyr_top.specs.Actions.{DoesAction, DrawsFor}
use Rattle.cyr_top.specs.Asked.{IfRepack, OnScript, UnlessRepack, asking, kind_of, repack_of}
use Rattle.cyr_top.specs.Repacking.{DoesRepack, repacking}
use Rattle.cyr_top.proofs.scripting.on_backend.Goals as goal

pub on_database-requires-clause-laws : goal.on_database-requires-clause-laws
on_database-requires-clause-laws g c = flat_laws

pub on_database-requires-in-Twoskip-clause-laws : goal.on_database-requires-in-Twoskip-clause-laws
on_database-requires-in-Twoskip-clause-laws g c = skip_laws

pub returns-in-Flat-clause-does : goal.returns-in-Flat-clause-does
returns-in-Flat-clause-does g c = subst (λ (b : Backend). OnScript c.args.action.now (g.I.Source.state c.args.input.now).left (λ script. UnlessRepack c.args.action.now (DoesAction (asking (kind_of b) c.args.make c.args.action.now (given (g.R.Rng.stream c.args.rng.now) script)) (moment (g.H.Disk.state c.args.host.now) (g.H.Host.streams c.args.host.now)) (moment (g.H.Disk.state c.on_database.new.host) (g.H.Host.streams c.on_database.new.host)) c.on_database.result))) (sym c.in-Flat.is) c.on_database.ensures.does

pub returns-in-Flat-clause-draws : goal.returns-in-Flat-clause-draws
returns-in-Flat-clause-draws g c = subst (λ (b : Backend). OnScript c.args.action.now (g.I.Source.state c.args.input.now).left (λ script. UnlessRepack c.args.action.now (DrawsFor (asking (kind_of b) c.args.make c.args.action.now (given (g.R.Rng.stream c.args.rng.now) script)) (g.H.Disk.state c.args.host.now) (g.R.Rng.stream c.args.rng.now) (g.R.Rng.stream c.on_database.new.rng) c.on_database.result))) (sym c.in-Flat.is) c.on_database.ensures.draws

pub returns-in-Twoskip-clause-does : goal.returns-in-Twoskip-clause-does
returns-in-Twoskip-clause-does g c = subst (λ (b : Backend). OnScript c.args.action.now (g.I.Source.state c.args.input.now).left (λ script. UnlessRepack c.args.action.now (DoesAction (asking (kind_of b) c.args.make c.args.action.now (given (g.R.Rng.stream c.args.rng.now) script)) (moment (g.H.Disk.state c.args.host.now) (g.H.Host.streams c.args.host.now)) (moment (g.H.Disk.state c.on_database-in-Twoskip.new.host) (g.H.Host.streams c.on_database-in-Twoskip.new.host)) c.on_database-in-Twoskip.result))) (sym c.in-Twoskip.is) c.on_database-in-Twoskip.ensures.does

pub returns-in-Twoskip-clause-draws : goal.returns-in-Twoskip-clause-draws
returns-in-Twoskip-clause-draws g c = subst (λ (b : Backend). OnScript c.args.action.now (g.I.Source.state c.args.input.now).left (λ script. UnlessRepack c.args.action.now (DrawsFor (asking (kind_of b) c.args.make c.args.action.now (given (g.R.Rng.stream c.args.rng.now) script)) (g.H.Disk.state c.args.host.now) (g.R.Rng.stream c.args.rng.now) (g.R.Rng.stream c.on_database-in-Twoskip.new.rng) c.on_database-in-Twoskip.result))) (sym c.in-Twoskip.is) c.on_database-in-Twoskip.ensures.draws

pub returns-in-Flat-clause-repacks : goal.returns-in-Flat-clause-repacks
returns-in-Flat-clause-repacks g c = subst (λ (b : Backend). IfRepack c.args.action.now (DoesRepack (repacking (repack_of b) c.args.make) (g.H.Disk.state c.args.host.now) (g.H.Disk.state c.on_database.new.host) c.on_database.result)) (sym c.in-Flat.is) c.on_database.ensures.repacks

pub returns-in-Twoskip-clause-repacks : goal.returns-in-Twoskip-clause-repacks
returns-in-Twoskip-clause-repacks g c = subst (λ (b : Backend). IfRepack c.args.action.now (DoesRepack (repacking (repack_of b) c.args.make) (g.H.Disk.state c.args.host.now) (g.H.Disk.state c.on_database-in-Twoskip.new.host) c.on_database-in-Twoskip.result)) (sym c.in-Twoskip.is) c.on_database-in-Twoskip.ensures.repacks

pub on_database-requires-clause-once : goal.on_database-requires-clause-once
on_database-requires-clause-once g c = flat_repacks_once

pub on_database-requires-in-Twoskip-clause-once : goal.on_database-requires-in-Twoskip-clause-once
on_database-requires-in-Twoskip-clause-once g c = skip_repacks_once
