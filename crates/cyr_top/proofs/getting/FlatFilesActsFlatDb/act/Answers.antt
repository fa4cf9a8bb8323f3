use Rattle.std.proofs.Common.{[], false, List, ℕ, sym, subst}
use Rattle.base_notes.specs.declared.action.Action.{Action}
use Rattle.base_notes.specs.declared.action.Action.TheVariants.{Get}
use Rattle.base_devices.specs.HostCalls.{moment}
use Rattle.db_tool.specs.Tasks.{given}
use Rattle.flat_db.specs.Sessions.{flat_kind}
use Rattle.cyr_top.specs.Actions.{DoesAction, DrawsFor}
use Rattle.cyr_top.specs.Asked.{asking}
use Rattle.cyr_top.proofs.getting.FlatFilesActsFlatDb.act.Goals as goal

pub returns-in-Get-clause-does : goal.returns-in-Get-clause-does
returns-in-Get-clause-does g c =
    subst (λ (a : Action). DoesAction (asking flat_kind false a (given (g.R.Rng.stream c.args.rng.now) [])) (moment (g.H.Disk.state c.args.host.now) (g.H.Host.streams c.args.host.now)) (moment (g.H.Disk.state c.get_flat.new.host) (g.H.Host.streams c.get_flat.new.host)) c.get_flat.result) (sym c.in-Get.is)
    (subst (λ (l : List ℕ). DoesAction (asking flat_kind false (Get l) (given (g.R.Rng.stream c.args.rng.now) [])) (moment (g.H.Disk.state c.args.host.now) (g.H.Host.streams c.args.host.now)) (moment (g.H.Disk.state c.get_flat.new.host) (g.H.Host.streams c.get_flat.new.host)) c.get_flat.result) c.as_slice.ensures
    (c.get_flat.ensures.does (g.R.Rng.stream c.args.rng.now)))

pub returns-in-Get-clause-draws : goal.returns-in-Get-clause-draws
returns-in-Get-clause-draws g c =
    subst (λ (a : Action). DrawsFor (asking flat_kind false a (given (g.R.Rng.stream c.args.rng.now) [])) (g.H.Disk.state c.args.host.now) (g.R.Rng.stream c.args.rng.now) (g.R.Rng.stream c.args.rng.now) c.get_flat.result) (sym c.in-Get.is)
    (subst (λ (l : List ℕ). DrawsFor (asking flat_kind false (Get l) (given (g.R.Rng.stream c.args.rng.now) [])) (g.H.Disk.state c.args.host.now) (g.R.Rng.stream c.args.rng.now) (g.R.Rng.stream c.args.rng.now) c.get_flat.result) c.as_slice.ensures
    (c.get_flat.ensures.draws (g.R.Rng.stream c.args.rng.now)))
