use Rattle.std.proofs.Common.{[], false, sym, subst}
use Rattle.base_notes.specs.declared.action.Action.{Action}
use Rattle.base_devices.specs.HostCalls.{moment}
use Rattle.db_tool.specs.Tasks.{given}
use Rattle.cyr_top.specs.Actions.{DoesAction, DrawsFor}
use Rattle.cyr_top.specs.Asked.{asking}
use Rattle.cyr_top.proofs.CheckLemmas.{checks_draw}
use Rattle.cyr_top.proofs.acting.do_action.Goals as goal

pub returns-in-Consistent-clause-does : goal.returns-in-Consistent-clause-does
returns-in-Consistent-clause-does g c =
    subst (λ (a : Action). DoesAction (asking g.B.Db.kind false a (given (g.R.Rng.stream c.args.rng.now) [])) (moment (g.H.Disk.state c.args.host.now) (g.H.Host.streams c.args.host.now)) (moment (g.H.Disk.state c.check.new.host) (g.H.Host.streams c.check.new.host)) c.check.result) (sym c.in-Consistent.is)
    (c.check.ensures.does (g.R.Rng.stream c.args.rng.now))

pub returns-in-Consistent-clause-draws : goal.returns-in-Consistent-clause-draws
returns-in-Consistent-clause-draws g c =
    subst (λ (a : Action). DrawsFor (asking g.B.Db.kind false a (given (g.R.Rng.stream c.args.rng.now) [])) (g.H.Disk.state c.args.host.now) (g.R.Rng.stream c.args.rng.now) (g.R.Rng.stream c.args.rng.now) c.check.result) (sym c.in-Consistent.is)
    (checks_draw g.B.Db.kind c.requires.laws (given (g.R.Rng.stream c.args.rng.now) []) (g.H.Disk.state c.args.host.now) (g.R.Rng.stream c.args.rng.now) c.check.result)

pub returns-in-Exercise-clause-does : goal.returns-in-Exercise-clause-does
returns-in-Exercise-clause-does g c =
    subst (λ (a : Action). DoesAction (asking g.B.Db.kind false a (given (g.R.Rng.stream c.args.rng.now) [])) (moment (g.H.Disk.state c.args.host.now) (g.H.Host.streams c.args.host.now)) (moment (g.H.Disk.state c.open_and_exercise.new.host) (g.H.Host.streams c.open_and_exercise.new.host)) c.open_and_exercise.result) (sym c.in-Exercise.is)
    c.open_and_exercise.ensures.does

pub returns-in-Exercise-clause-draws : goal.returns-in-Exercise-clause-draws
returns-in-Exercise-clause-draws g c =
    subst (λ (a : Action). DrawsFor (asking g.B.Db.kind false a (given (g.R.Rng.stream c.args.rng.now) [])) (g.H.Disk.state c.args.host.now) (g.R.Rng.stream c.args.rng.now) (g.R.Rng.stream c.open_and_exercise.new.rng) c.open_and_exercise.result) (sym c.in-Exercise.is)
    c.open_and_exercise.ensures.draws
