use Rattle.std.proofs.Common.{◌≡◌, ℕ, ◌+◌, ◌≤◌, List, None, Result, Ok, Err, refl, sym, ap, true, ◌∙◌, subst, arith, length}
use Rattle.std.proofs.lemmas.Result.{err_from_is_err_and}
use Rattle.base_bytes.specs.declared.change.Change.TheVariants.{Put}
use Rattle.base_bytes.specs.declared.limits.TheConstants.{SKIP_LIMIT}
use Rattle.base_devices.specs.CrashImages.{DiskState}
use Rattle.db_core.specs.Calls.{MakesChange, OpensCommitted}
use Rattle.db_core.specs.Refusals.{MayAnswer}
use Rattle.db_core.specs.Sessions.{over, stored}
use Rattle.db_core.specs.declared.fault.DbFault.{DbFault}
use Rattle.db_core.specs.declared.fault.DbFault.TheVariants.{DiskFault}
use Rattle.skip_form.specs.Sizes.{record_size}
use Rattle.skip_spec.specs.Appending.{Stores, store_writes}
use Rattle.skip_spec.specs.Chain.{pairs}
use Rattle.skip_spec.specs.Layout.{level_for}
use Rattle.skip_spec.specs.Place.{height}
use Rattle.skip_lists.specs.Tie.{LeavesEach}
use Rattle.skip_kind.specs.Kind.{skip_kind}
use Rattle.skip_txn.specs.Bounds.{StoreWrites}
use Rattle.skip_txn.specs.Room.{put_refusal}
use Rattle.skip_txn.specs.Sessions.{SkipSession, IsSound, IsTied, broken, bytes_of, session_of, session_state, within}
use Rattle.skip_txn.proofs.Changed.{few, spot_of_place, stored_sound, stored_state}
use Rattle.skip_txn.proofs.Tying.{call_done, call_failed, call_refused, committed_is, keeps_committed, tied_opens, up_to_limit}
use Rattle.skip_txn.proofs.Views.{open_sound, open_tied, open_view}
use Rattle.skip_txn.proofs.session.Session.store.Goals as goal

pub returns-in_err-make_put_room-clause-change : goal.returns-in_err-make_put_room-clause-change
returns-in_err-make_put_room-clause-change g c =
    let d = g.D.Disk.state c.args.disk.now in
    let m = c.make_put_room.new.image.bytes in
    let w = c.args.word in
    let fault = c.in_err-make_put_room.field-0.0 in
    let v = open_view c.self.inside.image.bytes m c.self.inside.state.stage c.in-Open.committed c.in-Open.has_changed c.args.self.now c.self.view_is c.in-Open.is c.make_put_room.ensures.bytes in
    let t = open_tied c.args.self.now m c.in-Open.committed c.in-Open.has_changed d v c.requires.tied in
    let exit = err_from_is_err_and c.from_residual.result c.from_residual.ensures.1 in
    let is : Err fault ≡ c.from_residual.result = cc (exit.1, exit.2) in
    let same : session_of m c.self.inside.state.stage ≡ c.args.self.now = ap (λ (x : List ℕ). session_of x c.self.inside.state.stage) c.make_put_room.ensures.bytes ∙ c.self.view_is in
    subst (λ (r : Result (Unit {0}) DbFault). MakesChange {T = Unit {0}} skip_kind (Put w c.args.key.now c.args.value.now) (over d (session_state c.args.self.now)) (over d (session_state (session_of m c.self.inside.state.stage))) r) is
    (subst (λ (s : SkipSession). MakesChange {T = Unit {0}} skip_kind (Put w c.args.key.now c.args.value.now) (over d (session_state c.args.self.now)) (over d (session_state s)) (Err fault)) (sym same)
    (subst (λ (s : SkipSession). MakesChange {T = Unit {0}} skip_kind (Put w c.args.key.now c.args.value.now) (over d (session_state s)) (over d (session_state s)) (Err fault)) v
    (call_refused (put_refusal m w c.args.key.now c.args.value.now) (stored skip_kind (session_state (within m c.in-Open.committed c.in-Open.has_changed)) w c.args.key.now c.args.value.now) (OpensCommitted skip_kind (session_state (within m c.in-Open.committed c.in-Open.has_changed)))
    (session_state (within m c.in-Open.committed c.in-Open.has_changed)) d fault (g.met.D.Disk.is_moment c.args.disk.now)
    (subst (λ (b : List ℕ). MayAnswer (put_refusal b w c.args.key.now c.args.value.now) fault) (sym c.make_put_room.ensures.bytes) c.in_err-make_put_room.ensures.refused) c.in_err-make_put_room.ensures.no_fault
    (λ sound i left. tied_opens m c.in-Open.committed c.in-Open.has_changed d t i left))))

pub count_with-count-requires-clause-few : goal.count_with-count-requires-clause-few
count_with-count-requires-clause-few g c =
    let m = c.make_put_room.new.image.bytes in
    let sound = open_sound c.self.inside.image c.self.inside.state c.self.inside.state.stage c.in-Open.committed c.in-Open.has_changed m c.in-Open.is c.self.invariant c.make_put_room.ensures.bytes in
    omega (arith, few m c.self.inside.state.count c.in-Open.committed c.in-Open.has_changed sound, c.in_ok-make_put_room.ensures.roomy.fits)

pub invariant_of-self-in-Ok : goal.invariant_of-self-in-Ok
invariant_of-self-in-Ok g c =
    let d = g.D.Disk.state c.args.disk.now in
    let e = g.D.Disk.state c.put_pair.new.disk in
    let m = c.make_put_room.new.image.bytes in
    let n = c.put_pair.new.image.bytes in
    let w = c.args.word in
    let v = open_view c.self.inside.image.bytes m c.self.inside.state.stage c.in-Open.committed c.in-Open.has_changed c.args.self.now c.self.view_is c.in-Open.is c.make_put_room.ensures.bytes in
    let t = open_tied c.args.self.now m c.in-Open.committed c.in-Open.has_changed d v c.requires.tied in
    let sound = open_sound c.self.inside.image c.self.inside.state c.self.inside.state.stage c.in-Open.committed c.in-Open.has_changed m c.in-Open.is c.self.invariant c.make_put_room.ensures.bytes in
    let level = ap (λ (l : ℕ). record_size l (length c.args.key.now) (length c.args.value.now)) c.level_of-level.ensures in
    let roomy = c.in_ok-make_put_room.ensures.roomy in
    let owed : put_refusal m w c.args.key.now c.args.value.now ≡ None = subst (λ (b : List ℕ). put_refusal b w c.args.key.now c.args.value.now ≡ None) (sym c.make_put_room.ensures.bytes) c.in_ok-make_put_room.ensures.fits in
    let stores = subst (λ (l : ℕ). Stores l c.args.key.now c.args.value.now m n) c.level_of-level.ensures c.in-Ok.ensures.stores in
    let now = c.in-Ok.ensures.tied t.base t.says t.ends t.tied in
    let kept = committed_is n c.in-Open.committed true e (record { base = t.base; says = t.says; ends = t.ends; tied = now; fits = omega (arith, roomy.fits, c.in-Ok.ensures.length, level) }) ∙ sym (committed_is m c.in-Open.committed c.in-Open.has_changed d t) in (
      stored_sound m n c.in-Open.committed c.in-Open.has_changed w c.args.key.now c.args.value.now sound.live stores kept c.self.inside.state.count c.count_with-count.result sound (λ place. c.count_with-count.ensures c.args.key.now place c.spot_of-spot.ensures),
      omega (arith, roomy.spare, c.put_pair.ensures.spare, level),
    )

pub returns-in-Ok-clause-change : goal.returns-in-Ok-clause-change
returns-in-Ok-clause-change g c =
    let d = g.D.Disk.state c.args.disk.now in
    let e = g.D.Disk.state c.put_pair.new.disk in
    let m = c.make_put_room.new.image.bytes in
    let n = c.put_pair.new.image.bytes in
    let w = c.args.word in
    let v = open_view c.self.inside.image.bytes m c.self.inside.state.stage c.in-Open.committed c.in-Open.has_changed c.args.self.now c.self.view_is c.in-Open.is c.make_put_room.ensures.bytes in
    let t = open_tied c.args.self.now m c.in-Open.committed c.in-Open.has_changed d v c.requires.tied in
    let sound = open_sound c.self.inside.image c.self.inside.state c.self.inside.state.stage c.in-Open.committed c.in-Open.has_changed m c.in-Open.is c.self.invariant c.make_put_room.ensures.bytes in
    let level = ap (λ (l : ℕ). record_size l (length c.args.key.now) (length c.args.value.now)) c.level_of-level.ensures in
    let roomy = c.in_ok-make_put_room.ensures.roomy in
    let owed : put_refusal m w c.args.key.now c.args.value.now ≡ None = subst (λ (b : List ℕ). put_refusal b w c.args.key.now c.args.value.now ≡ None) (sym c.make_put_room.ensures.bytes) c.in_ok-make_put_room.ensures.fits in
    let stores = subst (λ (l : ℕ). Stores l c.args.key.now c.args.value.now m n) c.level_of-level.ensures c.in-Ok.ensures.stores in
    let now = c.in-Ok.ensures.tied t.base t.says t.ends t.tied in
    let kept = committed_is n c.in-Open.committed true e (record { base = t.base; says = t.says; ends = t.ends; tied = now; fits = omega (arith, roomy.fits, c.in-Ok.ensures.length, level) }) ∙ sym (committed_is m c.in-Open.committed c.in-Open.has_changed d t) in
    let long : length n ≡ length m + record_size (level_for w) (length c.args.key.now) (length c.args.value.now) = omega (arith, c.in-Ok.ensures.length, level) in
    let sizes = c.put_pair.ensures.long SKIP_LIMIT (omega (arith, roomy.fits, level)) (up_to_limit m c.in-Open.committed c.in-Open.has_changed d t) in
    subst (λ (s : SkipSession). MakesChange {T = Unit {0}} skip_kind (Put w c.args.key.now c.args.value.now) (over d (session_state s)) (over e (session_state (within n c.in-Open.committed true))) (Ok tt)) v
    (call_done (put_refusal m w c.args.key.now c.args.value.now) (stored skip_kind (session_state (within m c.in-Open.committed c.in-Open.has_changed)) w c.args.key.now c.args.value.now) (OpensCommitted skip_kind (session_state (within m c.in-Open.committed c.in-Open.has_changed)))
    (session_state (within m c.in-Open.committed c.in-Open.has_changed)) (session_state (within n c.in-Open.committed true)) d e _ owed (stored_state m n c.in-Open.committed c.in-Open.has_changed w c.args.key.now c.args.value.now sound.live stores kept long)
    (keeps_committed (session_state (within m c.in-Open.committed c.in-Open.has_changed)) (pairs t.says.chain) d e (committed_is m c.in-Open.committed c.in-Open.has_changed d t) (c.put_pair.ensures.moments t.base t.says t.ends t.tied) sizes.1 c.put_pair.ensures.mark)
    c.put_pair.ensures.publishes c.in-Ok.ensures.cause.kept)

pub returns-in-Ok-clause-tied : goal.returns-in-Ok-clause-tied
returns-in-Ok-clause-tied g c =
    let d = g.D.Disk.state c.args.disk.now in
    let e = g.D.Disk.state c.put_pair.new.disk in
    let m = c.make_put_room.new.image.bytes in
    let n = c.put_pair.new.image.bytes in
    let w = c.args.word in
    let v = open_view c.self.inside.image.bytes m c.self.inside.state.stage c.in-Open.committed c.in-Open.has_changed c.args.self.now c.self.view_is c.in-Open.is c.make_put_room.ensures.bytes in
    let t = open_tied c.args.self.now m c.in-Open.committed c.in-Open.has_changed d v c.requires.tied in
    let sound = open_sound c.self.inside.image c.self.inside.state c.self.inside.state.stage c.in-Open.committed c.in-Open.has_changed m c.in-Open.is c.self.invariant c.make_put_room.ensures.bytes in
    let level = ap (λ (l : ℕ). record_size l (length c.args.key.now) (length c.args.value.now)) c.level_of-level.ensures in
    let roomy = c.in_ok-make_put_room.ensures.roomy in
    let owed : put_refusal m w c.args.key.now c.args.value.now ≡ None = subst (λ (b : List ℕ). put_refusal b w c.args.key.now c.args.value.now ≡ None) (sym c.make_put_room.ensures.bytes) c.in_ok-make_put_room.ensures.fits in
    record { base = t.base; says = t.says; ends = t.ends; tied = c.in-Ok.ensures.tied t.base t.says t.ends t.tied; fits = omega (arith, roomy.fits, c.in-Ok.ensures.length, level) }

pub returns-in-Ok-clause-stores : goal.returns-in-Ok-clause-stores
returns-in-Ok-clause-stores g c =
    let d = g.D.Disk.state c.args.disk.now in
    let e = g.D.Disk.state c.put_pair.new.disk in
    let m = c.make_put_room.new.image.bytes in
    let n = c.put_pair.new.image.bytes in
    let w = c.args.word in
    let v = open_view c.self.inside.image.bytes m c.self.inside.state.stage c.in-Open.committed c.in-Open.has_changed c.args.self.now c.self.view_is c.in-Open.is c.make_put_room.ensures.bytes in
    let t = open_tied c.args.self.now m c.in-Open.committed c.in-Open.has_changed d v c.requires.tied in
    let sound = open_sound c.self.inside.image c.self.inside.state c.self.inside.state.stage c.in-Open.committed c.in-Open.has_changed m c.in-Open.is c.self.invariant c.make_put_room.ensures.bytes in
    let level = ap (λ (l : ℕ). record_size l (length c.args.key.now) (length c.args.value.now)) c.level_of-level.ensures in
    let roomy = c.in_ok-make_put_room.ensures.roomy in
    let owed : put_refusal m w c.args.key.now c.args.value.now ≡ None = subst (λ (b : List ℕ). put_refusal b w c.args.key.now c.args.value.now ≡ None) (sym c.make_put_room.ensures.bytes) c.in_ok-make_put_room.ensures.fits in
    let stores = subst (λ (l : ℕ). Stores l c.args.key.now c.args.value.now m n) c.level_of-level.ensures c.in-Ok.ensures.stores in
    subst (λ (s : SkipSession). Stores (level_for w) c.args.key.now c.args.value.now (bytes_of s) n) v stores

pub returns-in-Ok-clause-written : goal.returns-in-Ok-clause-written
returns-in-Ok-clause-written g c =
    let d = g.D.Disk.state c.args.disk.now in
    let e = g.D.Disk.state c.put_pair.new.disk in
    let m = c.make_put_room.new.image.bytes in
    let n = c.put_pair.new.image.bytes in
    let w = c.args.word in
    let v = open_view c.self.inside.image.bytes m c.self.inside.state.stage c.in-Open.committed c.in-Open.has_changed c.args.self.now c.self.view_is c.in-Open.is c.make_put_room.ensures.bytes in
    let t = open_tied c.args.self.now m c.in-Open.committed c.in-Open.has_changed d v c.requires.tied in
    let sound = open_sound c.self.inside.image c.self.inside.state c.self.inside.state.stage c.in-Open.committed c.in-Open.has_changed m c.in-Open.is c.self.invariant c.make_put_room.ensures.bytes in
    let level = ap (λ (l : ℕ). record_size l (length c.args.key.now) (length c.args.value.now)) c.level_of-level.ensures in
    let roomy = c.in_ok-make_put_room.ensures.roomy in
    let owed : put_refusal m w c.args.key.now c.args.value.now ≡ None = subst (λ (b : List ℕ). put_refusal b w c.args.key.now c.args.value.now ≡ None) (sym c.make_put_room.ensures.bytes) c.in_ok-make_put_room.ensures.fits in
    subst (λ (s : SkipSession). StoreWrites (bytes_of s) w c.args.key.now c.args.value.now d.written e.written) v
    (λ place. subst (λ (l : ℕ). e.written ≤ d.written + store_writes (record_size l (length c.args.key.now) (length c.args.value.now)) l (height place.dropped)) c.level_of-level.ensures
    (c.put_pair.ensures.written (spot_of_place m c.args.key.now c.spot_of-spot.result c.spot_of-spot.ensures place)))

pub returns-in-Err-clause-change : goal.returns-in-Err-clause-change
returns-in-Err-clause-change g c =
    let d = g.D.Disk.state c.args.disk.now in
    let e = g.D.Disk.state c.put_pair.new.disk in
    let m = c.make_put_room.new.image.bytes in
    let n = c.put_pair.new.image.bytes in
    let w = c.args.word in
    let v = open_view c.self.inside.image.bytes m c.self.inside.state.stage c.in-Open.committed c.in-Open.has_changed c.args.self.now c.self.view_is c.in-Open.is c.make_put_room.ensures.bytes in
    let t = open_tied c.args.self.now m c.in-Open.committed c.in-Open.has_changed d v c.requires.tied in
    let sound = open_sound c.self.inside.image c.self.inside.state c.self.inside.state.stage c.in-Open.committed c.in-Open.has_changed m c.in-Open.is c.self.invariant c.make_put_room.ensures.bytes in
    let level = ap (λ (l : ℕ). record_size l (length c.args.key.now) (length c.args.value.now)) c.level_of-level.ensures in
    let roomy = c.in_ok-make_put_room.ensures.roomy in
    let owed : put_refusal m w c.args.key.now c.args.value.now ≡ None = subst (λ (b : List ℕ). put_refusal b w c.args.key.now c.args.value.now ≡ None) (sym c.make_put_room.ensures.bytes) c.in_ok-make_put_room.ensures.fits in
    let sizes = c.put_pair.ensures.long SKIP_LIMIT (omega (arith, roomy.fits, level)) (up_to_limit m c.in-Open.committed c.in-Open.has_changed d t) in
    subst (λ (s : SkipSession). MakesChange {T = Unit {0}} skip_kind (Put w c.args.key.now c.args.value.now) (over d (session_state s)) (over e (session_state broken)) (Err DiskFault)) v
    (call_failed (put_refusal m w c.args.key.now c.args.value.now) (stored skip_kind (session_state (within m c.in-Open.committed c.in-Open.has_changed)) w c.args.key.now c.args.value.now) (OpensCommitted skip_kind (session_state (within m c.in-Open.committed c.in-Open.has_changed)))
    (session_state (within m c.in-Open.committed c.in-Open.has_changed)) d e owed
    (keeps_committed (session_state (within m c.in-Open.committed c.in-Open.has_changed)) (pairs t.says.chain) d e (committed_is m c.in-Open.committed c.in-Open.has_changed d t) (c.put_pair.ensures.moments t.base t.says t.ends t.tied) sizes.1 c.put_pair.ensures.mark)
    c.put_pair.ensures.publishes c.put_pair.ensures.cause.later c.in-Err.ensures.cause.failed)

pub returns-in-Err-clause-written : goal.returns-in-Err-clause-written
returns-in-Err-clause-written g c =
    let d = g.D.Disk.state c.args.disk.now in
    let e = g.D.Disk.state c.put_pair.new.disk in
    let m = c.make_put_room.new.image.bytes in
    let n = c.put_pair.new.image.bytes in
    let w = c.args.word in
    let v = open_view c.self.inside.image.bytes m c.self.inside.state.stage c.in-Open.committed c.in-Open.has_changed c.args.self.now c.self.view_is c.in-Open.is c.make_put_room.ensures.bytes in
    let t = open_tied c.args.self.now m c.in-Open.committed c.in-Open.has_changed d v c.requires.tied in
    let sound = open_sound c.self.inside.image c.self.inside.state c.self.inside.state.stage c.in-Open.committed c.in-Open.has_changed m c.in-Open.is c.self.invariant c.make_put_room.ensures.bytes in
    let level = ap (λ (l : ℕ). record_size l (length c.args.key.now) (length c.args.value.now)) c.level_of-level.ensures in
    let roomy = c.in_ok-make_put_room.ensures.roomy in
    let owed : put_refusal m w c.args.key.now c.args.value.now ≡ None = subst (λ (b : List ℕ). put_refusal b w c.args.key.now c.args.value.now ≡ None) (sym c.make_put_room.ensures.bytes) c.in_ok-make_put_room.ensures.fits in
    subst (λ (s : SkipSession). StoreWrites (bytes_of s) w c.args.key.now c.args.value.now d.written e.written) v
    (λ place. subst (λ (l : ℕ). e.written ≤ d.written + store_writes (record_size l (length c.args.key.now) (length c.args.value.now)) l (height place.dropped)) c.level_of-level.ensures
    (c.put_pair.ensures.written (spot_of_place m c.args.key.now c.spot_of-spot.result c.spot_of-spot.ensures place)))
