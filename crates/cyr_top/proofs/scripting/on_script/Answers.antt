use Rattle.std.proofs.Common.{Bool, sym, subst}
use Rattle.base_devices.specs.HostCalls.{moment}
use Rattle.base_notes.specs.declared.action.Action.TheVariants.{Batch}
use Rattle.base_notes.specs.declared.note.Device.TheVariants.{Host}
use Rattle.base_notes.specs.declared.note.Note.TheVariants.{DeviceFault}
use Rattle.db_tool.specs.Tasks.{given}
use Rattle.cyr_top.specs.Actions.{DoesAction, DrawsFor}
use Rattle.cyr_top.specs.Asked.{asking}
use Rattle.cyr_top.proofs.MakeLemmas.{not_made, not_made_draws, made_then, made_draws}
use Rattle.cyr_top.proofs.scripting.on_script.Goals as goal

pub returns-then-not-make-clause-does : goal.returns-then-not-make-clause-does
returns-then-not-make-clause-does g c = λ script shown.
    subst (λ (make : Bool). DoesAction (asking g.B.Db.kind make Batch (given (g.R.Rng.stream c.args.rng.now) script)) (moment (g.H.Disk.state c.args.host.now) (g.H.Host.streams c.args.host.now)) (moment (g.H.Disk.state c.open_and_batch.new.host) (g.H.Host.streams c.open_and_batch.new.host)) c.open_and_batch.result) (sym c.if-not-make.true) (c.open_and_batch.ensures.does script shown)

pub returns-then-not-make-clause-draws : goal.returns-then-not-make-clause-draws
returns-then-not-make-clause-draws g c = λ script shown.
    subst (λ (make : Bool). DrawsFor (asking g.B.Db.kind make Batch (given (g.R.Rng.stream c.args.rng.now) script)) (g.H.Disk.state c.args.host.now) (g.R.Rng.stream c.args.rng.now) (g.R.Rng.stream c.open_and_batch.new.rng) c.open_and_batch.result) (sym c.if-not-make.true) (c.open_and_batch.ensures.draws script shown)

pub returns-in-Ok-clause-does : goal.returns-in-Ok-clause-does
returns-in-Ok-clause-does g c = λ script shown.
    subst (λ (make : Bool). DoesAction (asking g.B.Db.kind make Batch (given (g.R.Rng.stream c.args.rng.now) script)) (moment (g.H.Disk.state c.args.host.now) (g.H.Host.streams c.args.host.now)) (moment (g.H.Disk.state c.open_and_batch-in-Ok.new.host) (g.H.Host.streams c.open_and_batch-in-Ok.new.host)) c.open_and_batch-in-Ok.result) (sym c.if-not-make.false)
    (made_then g.B.Db.kind c.requires Batch (given (g.R.Rng.stream c.args.rng.now) script) _ _ _ _ (g.met.H.Disk.rest_goes_on _ _ c.make_absent.ensures.rest) (g.met.H.Disk.is_moment _) (g.met.H.Host.disk_keeps _ _ c.make_absent.ensures.rest)
    c.in-Ok.field-0 _ _ c.open_and_batch-in-Ok.result c.in-Ok.ensures.made c.in-Ok.ensures.cause (g.met.H.Host.host_goes_on _ _ c.open_and_batch-in-Ok.ensures.rest) (g.met.H.Disk.is_moment _) (c.open_and_batch-in-Ok.ensures.does script shown))

pub returns-in-Ok-clause-draws : goal.returns-in-Ok-clause-draws
returns-in-Ok-clause-draws g c = λ script shown.
    subst (λ (make : Bool). DrawsFor (asking g.B.Db.kind make Batch (given (g.R.Rng.stream c.args.rng.now) script)) (g.H.Disk.state c.args.host.now) (g.R.Rng.stream c.args.rng.now) (g.R.Rng.stream c.open_and_batch-in-Ok.new.rng) c.open_and_batch-in-Ok.result) (sym c.if-not-make.false)
    (made_draws g.B.Db.kind c.requires Batch (given (g.R.Rng.stream c.args.rng.now) script) _ _ _ _ (g.met.H.Disk.rest_goes_on _ _ c.make_absent.ensures.rest) (g.met.H.Disk.is_moment _) (g.met.H.Host.disk_keeps _ _ c.make_absent.ensures.rest)
    c.in-Ok.field-0 _ _ c.open_and_batch-in-Ok.result c.in-Ok.ensures.made c.in-Ok.ensures.cause (g.met.H.Host.host_goes_on _ _ c.open_and_batch-in-Ok.ensures.rest) (g.met.H.Disk.is_moment _) (c.open_and_batch-in-Ok.ensures.does script shown) _ _ (c.open_and_batch-in-Ok.ensures.draws script shown))

pub returns-in-Err-clause-does : goal.returns-in-Err-clause-does
returns-in-Err-clause-does g c = λ script shown.
    subst (λ (make : Bool). DoesAction (asking g.B.Db.kind make Batch (given (g.R.Rng.stream c.args.rng.now) script)) (moment (g.H.Disk.state c.args.host.now) (g.H.Host.streams c.args.host.now)) (moment (g.H.Disk.state c.make_absent.new.host) (g.H.Host.streams c.make_absent.new.host)) (DeviceFault Host)) (sym c.if-not-make.false)
    (not_made g.B.Db.kind c.requires Batch (given (g.R.Rng.stream c.args.rng.now) script) _ _ _ _ (g.met.H.Disk.rest_goes_on _ _ c.make_absent.ensures.rest) (g.met.H.Disk.is_moment _) (g.met.H.Host.disk_keeps _ _ c.make_absent.ensures.rest) c.in-Err.field-0 c.in-Err.ensures.made c.in-Err.ensures.cause)

pub returns-in-Err-clause-draws : goal.returns-in-Err-clause-draws
returns-in-Err-clause-draws g c = λ script shown.
    subst (λ (make : Bool). DrawsFor (asking g.B.Db.kind make Batch (given (g.R.Rng.stream c.args.rng.now) script)) (g.H.Disk.state c.args.host.now) (g.R.Rng.stream c.args.rng.now) (g.R.Rng.stream c.args.rng.now) (DeviceFault Host)) (sym c.if-not-make.false)
    (not_made_draws g.B.Db.kind c.requires Batch (given (g.R.Rng.stream c.args.rng.now) script) _ _ _ _ (g.met.H.Disk.rest_goes_on _ _ c.make_absent.ensures.rest) (g.met.H.Disk.is_moment _) (g.met.H.Host.disk_keeps _ _ c.make_absent.ensures.rest) (g.R.Rng.stream c.args.rng.now))
