use Rattle.std.proofs.Common.{◌≡◌, ◌≤◌, ℕ, ◌+◌, ◌-◌, Bool, true, false, List, Option, None, Result, Ok, Err, refl, sym, ap, subst, ◌∙◌, inl, arith, length}
use Rattle.std.proofs.lemmas.Result.{err_from_is_err_and}
use Rattle.std.specs.Prelude.{is_some}
use Rattle.base_bytes.specs.OrderedMap.{value_at}
use Rattle.base_bytes.specs.declared.change.Change.TheVariants.{Del}
use Rattle.base_bytes.specs.declared.limits.TheConstants.{SKIP_LIMIT}
use Rattle.base_devices.specs.CrashImages.{DiskState}
use Rattle.db_core.specs.Calls.{Aborts, Commits, MakesChange, OpensCommitted, OpensEither}
use Rattle.db_core.specs.Refusals.{MayAnswer, broken_refusal, delete_refusal}
use Rattle.db_core.specs.Sessions.{aborted, committed, deleted, over}
use Rattle.db_core.specs.declared.fault.DbFault.{DbFault}
use Rattle.db_core.specs.declared.fault.DbFault.TheVariants.{DiskFault}
use Rattle.skip_spec.specs.Appending as appending
use Rattle.skip_spec.specs.Appending.{Deletes}
use Rattle.skip_spec.specs.Chain.{Entry, pairs}
use Rattle.skip_spec.specs.Live.{map_under}
use Rattle.skip_spec.specs.Opens.{Opens}
use Rattle.skip_spec.proofs.Lives.{bytes_live}
use Rattle.skip_spec.proofs.SameLog.{tidy_live}
use Rattle.skip_lists.proofs.Ties.{tied_to_base}
use Rattle.skip_seek.specs.Searches.{live_of, map_of}
use Rattle.skip_change.specs.Changing.{HasSpot}
use Rattle.skip_kind.specs.Kind.{skip_kind}
use Rattle.skip_txn.specs.Bounds.{DeleteWrites}
use Rattle.skip_txn.specs.Room.{room_refusal}
use Rattle.skip_txn.specs.Sessions.{SkipSession, IsSound, IsTied, Tied, broken, bytes_of, resting, session_of, session_state, within}
use Rattle.skip_txn.proofs.Changed.{deleted_absent, deleted_sound, deleted_state, delete_owes, delete_owes_nothing, key_absent, key_there, some_live, spot_of_place}
use Rattle.skip_txn.proofs.Sound.{header_count, tidy_sound}
use Rattle.skip_txn.proofs.Tying.{aborted_state, call_done, call_failed, call_idle, call_refused, committed_is, end_back, given_back, keeps_committed, keeps_either, left_opens, rests_tied, tied_opens, up_to_limit, within_limit}
use Rattle.skip_txn.proofs.Views.{open_sound, open_tied, open_view}
use Rattle.skip_txn.proofs.session.Session.delete.Goals as goal

pub returns-then-spot-eq0-clause-was_there : goal.returns-then-spot-eq0-clause-was_there
returns-then-spot-eq0-clause-was_there g c =
    let d = g.D.Disk.state c.args.disk.now in
    let b = c.self.inside.image.bytes in
    let v = open_view b b c.self.inside.state.stage c.in-Open.committed c.in-Open.has_changed c.args.self.now c.self.view_is c.in-Open.is refl in
    let t = open_tied c.args.self.now b c.in-Open.committed c.in-Open.has_changed d v c.requires.tied in
    let spot = c.spot_of-spot.ensures in
    subst (λ (s : SkipSession). false ≡ is_some (value_at (session_state s).seen c.args.key.now)) v (sym (key_absent b c.args.key.now c.spot_of-spot.result spot c.if-spot-eq0.true))

pub returns-then-spot-eq0-clause-change : goal.returns-then-spot-eq0-clause-change
returns-then-spot-eq0-clause-change g c =
    let d = g.D.Disk.state c.args.disk.now in
    let b = c.self.inside.image.bytes in
    let v = open_view b b c.self.inside.state.stage c.in-Open.committed c.in-Open.has_changed c.args.self.now c.self.view_is c.in-Open.is refl in
    let t = open_tied c.args.self.now b c.in-Open.committed c.in-Open.has_changed d v c.requires.tied in
    let spot = c.spot_of-spot.ensures in
    let none = key_absent b c.args.key.now c.spot_of-spot.result spot c.if-spot-eq0.true in
    let s0 = session_state (within b c.in-Open.committed c.in-Open.has_changed) in
    subst (λ (s : SkipSession). MakesChange {T = Bool} skip_kind (Del c.args.key.now) (over d (session_state s)) (over d (session_state s)) (Ok false)) v
    (call_idle (delete_refusal skip_kind s0 c.args.key.now) (deleted skip_kind s0 c.args.key.now) (OpensCommitted skip_kind s0) s0 s0 d false (g.met.D.Disk.is_moment c.args.disk.now)
    (delete_owes_nothing s0 c.args.key.now refl none) (deleted_absent s0 c.args.key.now none) (λ ok i left. tied_opens b c.in-Open.committed c.in-Open.has_changed d t i left))

pub returns-in_err-make_room-clause-change : goal.returns-in_err-make_room-clause-change
returns-in_err-make_room-clause-change g c =
    let d = g.D.Disk.state c.args.disk.now in
    let m = c.make_room.new.image.bytes in
    let v = open_view c.self.inside.image.bytes m c.self.inside.state.stage c.in-Open.committed c.in-Open.has_changed c.args.self.now c.self.view_is c.in-Open.is c.make_room.ensures.bytes in
    let t = open_tied c.args.self.now m c.in-Open.committed c.in-Open.has_changed d v c.requires.tied in
    let sound = open_sound c.self.inside.image c.self.inside.state c.self.inside.state.stage c.in-Open.committed c.in-Open.has_changed m c.in-Open.is c.self.invariant c.make_room.ensures.bytes in
    let spot = subst (λ (x : List ℕ). HasSpot x c.args.key.now c.spot_of-spot.result) (sym c.make_room.ensures.bytes) c.spot_of-spot.ensures in
    let there = key_there m c.args.key.now c.spot_of-spot.result spot c.if-spot-eq0.false in
    let owes = delete_owes (session_state (within m c.in-Open.committed c.in-Open.has_changed)) c.args.key.now refl there in
    let fault = c.in_err-make_room.field-0.0 in
    let s0 = session_state (within m c.in-Open.committed c.in-Open.has_changed) in
    let exit = err_from_is_err_and c.from_residual.result c.from_residual.ensures.1 in
    let is : Err fault ≡ c.from_residual.result = cc (exit.1, exit.2) in
    let same : session_of m c.self.inside.state.stage ≡ c.args.self.now = ap (λ (x : List ℕ). session_of x c.self.inside.state.stage) c.make_room.ensures.bytes ∙ c.self.view_is in
    let may : MayAnswer (room_refusal m 24) fault = subst (λ (x : List ℕ). MayAnswer (room_refusal x 24) fault) (sym c.make_room.ensures.bytes) c.in_err-make_room.ensures.refused in
    subst (λ (r : Result Bool DbFault). MakesChange {T = Bool} skip_kind (Del c.args.key.now) (over d (session_state c.args.self.now)) (over d (session_state (session_of m c.self.inside.state.stage))) r) is
    (subst (λ (s : SkipSession). MakesChange {T = Bool} skip_kind (Del c.args.key.now) (over d (session_state c.args.self.now)) (over d (session_state s)) (Err fault)) (sym same)
    (subst (λ (s : SkipSession). MakesChange {T = Bool} skip_kind (Del c.args.key.now) (over d (session_state s)) (over d (session_state s)) (Err fault)) v
    (call_refused (delete_refusal skip_kind s0 c.args.key.now) (deleted skip_kind s0 c.args.key.now) (OpensCommitted skip_kind s0) s0 d fault (g.met.D.Disk.is_moment c.args.disk.now)
    (subst (λ (o : Option DbFault). MayAnswer o fault) (sym owes) may) c.in_err-make_room.ensures.no_fault (λ ok i left. tied_opens m c.in-Open.committed c.in-Open.has_changed d t i left))))

pub overflow_sub-self : goal.overflow_sub-self
overflow_sub-self g c =
    let d = g.D.Disk.state c.args.disk.now in
    let m = c.make_room.new.image.bytes in
    let v = open_view c.self.inside.image.bytes m c.self.inside.state.stage c.in-Open.committed c.in-Open.has_changed c.args.self.now c.self.view_is c.in-Open.is c.make_room.ensures.bytes in
    let t = open_tied c.args.self.now m c.in-Open.committed c.in-Open.has_changed d v c.requires.tied in
    let sound = open_sound c.self.inside.image c.self.inside.state c.self.inside.state.stage c.in-Open.committed c.in-Open.has_changed m c.in-Open.is c.self.invariant c.make_room.ensures.bytes in
    let spot = subst (λ (x : List ℕ). HasSpot x c.args.key.now c.spot_of-spot.result) (sym c.make_room.ensures.bytes) c.spot_of-spot.ensures in
    let there = key_there m c.args.key.now c.spot_of-spot.result spot c.if-spot-eq0.false in
    let owes = delete_owes (session_state (within m c.in-Open.committed c.in-Open.has_changed)) c.args.key.now refl there in
    omega (arith, sound.counted, some_live m c.args.key.now c.spot_of-spot.result spot c.if-spot-eq0.false)

pub invariant_of-self-in-Ok : goal.invariant_of-self-in-Ok
invariant_of-self-in-Ok g c =
    let d = g.D.Disk.state c.args.disk.now in
    let m = c.make_room.new.image.bytes in
    let v = open_view c.self.inside.image.bytes m c.self.inside.state.stage c.in-Open.committed c.in-Open.has_changed c.args.self.now c.self.view_is c.in-Open.is c.make_room.ensures.bytes in
    let t = open_tied c.args.self.now m c.in-Open.committed c.in-Open.has_changed d v c.requires.tied in
    let sound = open_sound c.self.inside.image c.self.inside.state c.self.inside.state.stage c.in-Open.committed c.in-Open.has_changed m c.in-Open.is c.self.invariant c.make_room.ensures.bytes in
    let spot = subst (λ (x : List ℕ). HasSpot x c.args.key.now c.spot_of-spot.result) (sym c.make_room.ensures.bytes) c.spot_of-spot.ensures in
    let there = key_there m c.args.key.now c.spot_of-spot.result spot c.if-spot-eq0.false in
    let owes = delete_owes (session_state (within m c.in-Open.committed c.in-Open.has_changed)) c.args.key.now refl there in
    let e = g.D.Disk.state c.take_out.new.disk in
    let n = c.take_out.new.image.bytes in
    let roomy = c.in_ok-make_room.ensures.roomy in
    let owed : delete_refusal skip_kind (session_state (within m c.in-Open.committed c.in-Open.has_changed)) c.args.key.now ≡ None = owes ∙ subst (λ (x : List ℕ). room_refusal x 24 ≡ None) (sym c.make_room.ensures.bytes) c.in_ok-make_room.ensures.fits in
    let sizes = c.take_out.ensures.long SKIP_LIMIT (omega (arith, roomy.fits)) (up_to_limit m c.in-Open.committed c.in-Open.has_changed d t) in
    let deletes = c.take_out.ensures.deletes c.args.key.now spot in
    let now = c.in-Ok.ensures.tied t.base t.says t.ends t.tied in
    let kept = committed_is n c.in-Open.committed true e (record { base = t.base; says = t.says; ends = t.ends; tied = now; fits = omega (arith, roomy.fits, c.in-Ok.ensures.length) }) ∙ sym (committed_is m c.in-Open.committed c.in-Open.has_changed d t) in (
      deleted_sound m n c.in-Open.committed c.in-Open.has_changed c.args.key.now c.spot_of-spot.result spot c.if-spot-eq0.false (c.in-Ok.ensures.deletes c.args.key.now spot) kept c.self.inside.state.count (c.self.inside.state.count - 1) sound (omega (arith, sound.counted, some_live m c.args.key.now c.spot_of-spot.result spot c.if-spot-eq0.false)),
      omega (arith, roomy.spare, c.take_out.ensures.spare),
    )

pub returns-in-Ok-clause-was_there : goal.returns-in-Ok-clause-was_there
returns-in-Ok-clause-was_there g c =
    let d = g.D.Disk.state c.args.disk.now in
    let m = c.make_room.new.image.bytes in
    let v = open_view c.self.inside.image.bytes m c.self.inside.state.stage c.in-Open.committed c.in-Open.has_changed c.args.self.now c.self.view_is c.in-Open.is c.make_room.ensures.bytes in
    let t = open_tied c.args.self.now m c.in-Open.committed c.in-Open.has_changed d v c.requires.tied in
    let sound = open_sound c.self.inside.image c.self.inside.state c.self.inside.state.stage c.in-Open.committed c.in-Open.has_changed m c.in-Open.is c.self.invariant c.make_room.ensures.bytes in
    let spot = subst (λ (x : List ℕ). HasSpot x c.args.key.now c.spot_of-spot.result) (sym c.make_room.ensures.bytes) c.spot_of-spot.ensures in
    let there = key_there m c.args.key.now c.spot_of-spot.result spot c.if-spot-eq0.false in
    let owes = delete_owes (session_state (within m c.in-Open.committed c.in-Open.has_changed)) c.args.key.now refl there in
    subst (λ (s : SkipSession). true ≡ is_some (value_at (session_state s).seen c.args.key.now)) v (sym there)

pub returns-in-Ok-clause-change : goal.returns-in-Ok-clause-change
returns-in-Ok-clause-change g c =
    let d = g.D.Disk.state c.args.disk.now in
    let m = c.make_room.new.image.bytes in
    let v = open_view c.self.inside.image.bytes m c.self.inside.state.stage c.in-Open.committed c.in-Open.has_changed c.args.self.now c.self.view_is c.in-Open.is c.make_room.ensures.bytes in
    let t = open_tied c.args.self.now m c.in-Open.committed c.in-Open.has_changed d v c.requires.tied in
    let sound = open_sound c.self.inside.image c.self.inside.state c.self.inside.state.stage c.in-Open.committed c.in-Open.has_changed m c.in-Open.is c.self.invariant c.make_room.ensures.bytes in
    let spot = subst (λ (x : List ℕ). HasSpot x c.args.key.now c.spot_of-spot.result) (sym c.make_room.ensures.bytes) c.spot_of-spot.ensures in
    let there = key_there m c.args.key.now c.spot_of-spot.result spot c.if-spot-eq0.false in
    let owes = delete_owes (session_state (within m c.in-Open.committed c.in-Open.has_changed)) c.args.key.now refl there in
    let e = g.D.Disk.state c.take_out.new.disk in
    let n = c.take_out.new.image.bytes in
    let roomy = c.in_ok-make_room.ensures.roomy in
    let owed : delete_refusal skip_kind (session_state (within m c.in-Open.committed c.in-Open.has_changed)) c.args.key.now ≡ None = owes ∙ subst (λ (x : List ℕ). room_refusal x 24 ≡ None) (sym c.make_room.ensures.bytes) c.in_ok-make_room.ensures.fits in
    let sizes = c.take_out.ensures.long SKIP_LIMIT (omega (arith, roomy.fits)) (up_to_limit m c.in-Open.committed c.in-Open.has_changed d t) in
    let s0 = session_state (within m c.in-Open.committed c.in-Open.has_changed) in
    let now = c.in-Ok.ensures.tied t.base t.says t.ends t.tied in
    let kept = committed_is n c.in-Open.committed true e (record { base = t.base; says = t.says; ends = t.ends; tied = now; fits = omega (arith, roomy.fits, c.in-Ok.ensures.length) }) ∙ sym (committed_is m c.in-Open.committed c.in-Open.has_changed d t) in
    subst (λ (s : SkipSession). MakesChange {T = Bool} skip_kind (Del c.args.key.now) (over d (session_state s)) (over e (session_state (within n c.in-Open.committed true))) (Ok true)) v
    (call_done (delete_refusal skip_kind s0 c.args.key.now) (deleted skip_kind s0 c.args.key.now) (OpensCommitted skip_kind s0) s0 (session_state (within n c.in-Open.committed true)) d e true owed
    (deleted_state m n c.in-Open.committed c.in-Open.has_changed c.args.key.now c.spot_of-spot.result spot c.if-spot-eq0.false (c.in-Ok.ensures.deletes c.args.key.now spot) kept c.in-Ok.ensures.length)
    (keeps_committed s0 (pairs t.says.chain) d e (committed_is m c.in-Open.committed c.in-Open.has_changed d t) (c.take_out.ensures.moments t.base t.says t.ends t.tied) sizes.1 c.take_out.ensures.mark)
    c.take_out.ensures.publishes c.in-Ok.ensures.cause.kept)

pub returns-in-Ok-clause-tied : goal.returns-in-Ok-clause-tied
returns-in-Ok-clause-tied g c =
    let d = g.D.Disk.state c.args.disk.now in
    let m = c.make_room.new.image.bytes in
    let v = open_view c.self.inside.image.bytes m c.self.inside.state.stage c.in-Open.committed c.in-Open.has_changed c.args.self.now c.self.view_is c.in-Open.is c.make_room.ensures.bytes in
    let t = open_tied c.args.self.now m c.in-Open.committed c.in-Open.has_changed d v c.requires.tied in
    let sound = open_sound c.self.inside.image c.self.inside.state c.self.inside.state.stage c.in-Open.committed c.in-Open.has_changed m c.in-Open.is c.self.invariant c.make_room.ensures.bytes in
    let spot = subst (λ (x : List ℕ). HasSpot x c.args.key.now c.spot_of-spot.result) (sym c.make_room.ensures.bytes) c.spot_of-spot.ensures in
    let there = key_there m c.args.key.now c.spot_of-spot.result spot c.if-spot-eq0.false in
    let owes = delete_owes (session_state (within m c.in-Open.committed c.in-Open.has_changed)) c.args.key.now refl there in
    record { base = t.base; says = t.says; ends = t.ends; tied = c.in-Ok.ensures.tied t.base t.says t.ends t.tied; fits = omega (arith, c.in_ok-make_room.ensures.roomy.fits, c.in-Ok.ensures.length) }

pub returns-in-Ok-clause-deletes : goal.returns-in-Ok-clause-deletes
returns-in-Ok-clause-deletes g c = λ is.
    let d = g.D.Disk.state c.args.disk.now in
    let m = c.make_room.new.image.bytes in
    let v = open_view c.self.inside.image.bytes m c.self.inside.state.stage c.in-Open.committed c.in-Open.has_changed c.args.self.now c.self.view_is c.in-Open.is c.make_room.ensures.bytes in
    let t = open_tied c.args.self.now m c.in-Open.committed c.in-Open.has_changed d v c.requires.tied in
    let sound = open_sound c.self.inside.image c.self.inside.state c.self.inside.state.stage c.in-Open.committed c.in-Open.has_changed m c.in-Open.is c.self.invariant c.make_room.ensures.bytes in
    let spot = subst (λ (x : List ℕ). HasSpot x c.args.key.now c.spot_of-spot.result) (sym c.make_room.ensures.bytes) c.spot_of-spot.ensures in
    let there = key_there m c.args.key.now c.spot_of-spot.result spot c.if-spot-eq0.false in
    let owes = delete_owes (session_state (within m c.in-Open.committed c.in-Open.has_changed)) c.args.key.now refl there in
    subst (λ (s : SkipSession). Deletes c.args.key.now (bytes_of s) c.take_out.new.image.bytes) v (c.in-Ok.ensures.deletes c.args.key.now spot)

pub returns-in-Ok-clause-written : goal.returns-in-Ok-clause-written
returns-in-Ok-clause-written g c =
    let d = g.D.Disk.state c.args.disk.now in
    let m = c.make_room.new.image.bytes in
    let v = open_view c.self.inside.image.bytes m c.self.inside.state.stage c.in-Open.committed c.in-Open.has_changed c.args.self.now c.self.view_is c.in-Open.is c.make_room.ensures.bytes in
    let t = open_tied c.args.self.now m c.in-Open.committed c.in-Open.has_changed d v c.requires.tied in
    let sound = open_sound c.self.inside.image c.self.inside.state c.self.inside.state.stage c.in-Open.committed c.in-Open.has_changed m c.in-Open.is c.self.invariant c.make_room.ensures.bytes in
    let spot = subst (λ (x : List ℕ). HasSpot x c.args.key.now c.spot_of-spot.result) (sym c.make_room.ensures.bytes) c.spot_of-spot.ensures in
    let there = key_there m c.args.key.now c.spot_of-spot.result spot c.if-spot-eq0.false in
    let owes = delete_owes (session_state (within m c.in-Open.committed c.in-Open.has_changed)) c.args.key.now refl there in
    subst (λ (s : SkipSession). DeleteWrites (bytes_of s) c.args.key.now d.written (g.D.Disk.state c.take_out.new.disk).written) v
    (λ place. c.take_out.ensures.written c.args.key.now (spot_of_place m c.args.key.now c.spot_of-spot.result spot place))

pub returns-in-Err-clause-change : goal.returns-in-Err-clause-change
returns-in-Err-clause-change g c =
    let d = g.D.Disk.state c.args.disk.now in
    let m = c.make_room.new.image.bytes in
    let v = open_view c.self.inside.image.bytes m c.self.inside.state.stage c.in-Open.committed c.in-Open.has_changed c.args.self.now c.self.view_is c.in-Open.is c.make_room.ensures.bytes in
    let t = open_tied c.args.self.now m c.in-Open.committed c.in-Open.has_changed d v c.requires.tied in
    let sound = open_sound c.self.inside.image c.self.inside.state c.self.inside.state.stage c.in-Open.committed c.in-Open.has_changed m c.in-Open.is c.self.invariant c.make_room.ensures.bytes in
    let spot = subst (λ (x : List ℕ). HasSpot x c.args.key.now c.spot_of-spot.result) (sym c.make_room.ensures.bytes) c.spot_of-spot.ensures in
    let there = key_there m c.args.key.now c.spot_of-spot.result spot c.if-spot-eq0.false in
    let owes = delete_owes (session_state (within m c.in-Open.committed c.in-Open.has_changed)) c.args.key.now refl there in
    let e = g.D.Disk.state c.take_out.new.disk in
    let n = c.take_out.new.image.bytes in
    let roomy = c.in_ok-make_room.ensures.roomy in
    let owed : delete_refusal skip_kind (session_state (within m c.in-Open.committed c.in-Open.has_changed)) c.args.key.now ≡ None = owes ∙ subst (λ (x : List ℕ). room_refusal x 24 ≡ None) (sym c.make_room.ensures.bytes) c.in_ok-make_room.ensures.fits in
    let sizes = c.take_out.ensures.long SKIP_LIMIT (omega (arith, roomy.fits)) (up_to_limit m c.in-Open.committed c.in-Open.has_changed d t) in
    let s0 = session_state (within m c.in-Open.committed c.in-Open.has_changed) in
    subst (λ (s : SkipSession). MakesChange {T = Bool} skip_kind (Del c.args.key.now) (over d (session_state s)) (over e (session_state broken)) (Err DiskFault)) v
    (call_failed (delete_refusal skip_kind s0 c.args.key.now) (deleted skip_kind s0 c.args.key.now) (OpensCommitted skip_kind s0) s0 d e owed
    (keeps_committed s0 (pairs t.says.chain) d e (committed_is m c.in-Open.committed c.in-Open.has_changed d t) (c.take_out.ensures.moments t.base t.says t.ends t.tied) sizes.1 c.take_out.ensures.mark)
    c.take_out.ensures.publishes c.take_out.ensures.cause.later c.in-Err.ensures.cause.failed)

pub returns-in-Err-clause-written : goal.returns-in-Err-clause-written
returns-in-Err-clause-written g c =
    let d = g.D.Disk.state c.args.disk.now in
    let m = c.make_room.new.image.bytes in
    let v = open_view c.self.inside.image.bytes m c.self.inside.state.stage c.in-Open.committed c.in-Open.has_changed c.args.self.now c.self.view_is c.in-Open.is c.make_room.ensures.bytes in
    let t = open_tied c.args.self.now m c.in-Open.committed c.in-Open.has_changed d v c.requires.tied in
    let sound = open_sound c.self.inside.image c.self.inside.state c.self.inside.state.stage c.in-Open.committed c.in-Open.has_changed m c.in-Open.is c.self.invariant c.make_room.ensures.bytes in
    let spot = subst (λ (x : List ℕ). HasSpot x c.args.key.now c.spot_of-spot.result) (sym c.make_room.ensures.bytes) c.spot_of-spot.ensures in
    let there = key_there m c.args.key.now c.spot_of-spot.result spot c.if-spot-eq0.false in
    let owes = delete_owes (session_state (within m c.in-Open.committed c.in-Open.has_changed)) c.args.key.now refl there in
    subst (λ (s : SkipSession). DeleteWrites (bytes_of s) c.args.key.now d.written (g.D.Disk.state c.take_out.new.disk).written) v
    (λ place. c.take_out.ensures.written c.args.key.now (spot_of_place m c.args.key.now c.spot_of-spot.result spot place))
