use Rattle.std.proofs.Common.{◌≡◌, ◌≤◌, ℕ, ◌+◌, Bool, true, false, List, None, Result, Ok, Err, refl, sym, ap, subst, ◌∙◌, inl, arith, length}
use Rattle.std.proofs.lemmas.Result.{err_from_is_err_and}
use Rattle.base_bytes.specs.OrderedMap.{Map}
use Rattle.base_bytes.specs.declared.change.Change.TheVariants.{Del}
use Rattle.base_bytes.specs.declared.limits.TheConstants.{SKIP_LIMIT}
use Rattle.base_devices.specs.CrashImages.{DiskState}
use Rattle.db_core.specs.Calls.{Aborts, Commits, MakesChange, OpensCommitted, OpensEither}
use Rattle.db_core.specs.Refusals.{MayAnswer, broken_refusal, delete_refusal}
use Rattle.db_core.specs.Sessions.{aborted, committed, deleted, over}
use Rattle.db_core.specs.declared.fault.DbFault.{DbFault}
use Rattle.db_core.specs.declared.fault.DbFault.TheVariants.{DiskFault}
use Rattle.skip_spec.specs.Appending as appending
use Rattle.skip_spec.specs.Appending.{Deletes}
use Rattle.skip_spec.specs.Chain.{Entry, pairs}
use Rattle.skip_spec.specs.Live.{map_under}
use Rattle.skip_spec.specs.Opens.{Opens}
use Rattle.skip_spec.proofs.Lives.{bytes_live}
use Rattle.skip_spec.proofs.SameLog.{tidy_live}
use Rattle.skip_lists.proofs.Ties.{tied_to_base}
use Rattle.skip_seek.specs.Searches.{live_of, map_of}
use Rattle.skip_change.specs.Changing.{HasSpot}
use Rattle.skip_kind.specs.Kind.{skip_kind}
use Rattle.skip_txn.specs.Bounds.{DeleteWrites}
use Rattle.skip_txn.specs.Room.{room_refusal}
use Rattle.skip_txn.specs.Sessions.{SkipSession, IsSound, IsTied, Tied, broken, bytes_of, resting, session_of, session_state, within}
use Rattle.skip_txn.proofs.Changed.{deleted_absent, deleted_sound, deleted_state, delete_owes, delete_owes_nothing, key_absent, key_there, some_live, spot_of_place}
use Rattle.skip_txn.proofs.Sound.{header_count, tidy_sound}
use Rattle.skip_txn.proofs.Tying.{aborted_state, call_done, call_failed, call_idle, call_refused, committed_is, end_back, given_back, keeps_committed, keeps_either, left_opens, rests_tied, tied_opens, up_to_limit, within_limit}
use Rattle.skip_txn.proofs.Views.{open_sound, open_tied, open_view}
use Rattle.skip_txn.proofs.session.Session.abort.Goals as goal

pub returns-then-not-has_changed-clause-abort : goal.returns-then-not-has_changed-clause-abort
returns-then-not-has_changed-clause-abort g c =
    let d = g.D.Disk.state c.args.disk.now in
    let b = c.self.inside.image.bytes in
    let isnt : c.in-Open.has_changed ≡ false = c.if-not-has_changed.true in
    let v : within b c.in-Open.committed false ≡ c.args.self.now = ap (λ (x : Bool). within b c.in-Open.committed x) (sym isnt) ∙ open_view b b c.self.inside.state.stage c.in-Open.committed c.in-Open.has_changed c.args.self.now c.self.view_is c.in-Open.is refl in
    let t : IsTied b c.in-Open.committed false d = open_tied c.args.self.now b c.in-Open.committed false d v c.requires.tied in
    let sound = open_sound c.self.inside.image c.self.inside.state c.self.inside.state.stage c.in-Open.committed c.in-Open.has_changed b c.in-Open.is c.self.invariant refl in
    let ends : c.in-Open.committed ≡ length b = sound.unchanged isnt in
    let back : session_state (resting b) ≡ aborted (session_state (within b c.in-Open.committed false)) = cc (ends, ap (λ (n : ℕ). map_under b n) ends) in
    subst (λ (s : SkipSession). Aborts {T = Unit {0}} skip_kind (over d (session_state s)) (over d (session_state (resting b))) (Ok tt)) v
    (call_idle (broken_refusal (session_state (within b c.in-Open.committed false))) (aborted (session_state (within b c.in-Open.committed false))) (OpensCommitted skip_kind (session_state (within b c.in-Open.committed false)))
    (session_state (within b c.in-Open.committed false)) (session_state (resting b)) d tt (g.met.D.Disk.is_moment c.args.disk.now) refl back (λ ok i left. tied_opens b c.in-Open.committed false d t i left))

pub recover-requires : goal.recover-requires
recover-requires g c =
    let d = g.D.Disk.state c.args.disk.now in
    let b = c.self.inside.image.bytes in
    let is : c.in-Open.has_changed ≡ true = c.if-not-has_changed.false in
    let v : within b c.in-Open.committed true ≡ c.args.self.now = ap (λ (x : Bool). within b c.in-Open.committed x) (sym is) ∙ open_view b b c.self.inside.state.stage c.in-Open.committed c.in-Open.has_changed c.args.self.now c.self.view_is c.in-Open.is refl in
    let t : IsTied b c.in-Open.committed true d = open_tied c.args.self.now b c.in-Open.committed true d v c.requires.tied in
    (t.base, t.says, tied_to_base t.base b t.says d t.tied)

pub header-requires : goal.header-requires
header-requires g c =
    let d = g.D.Disk.state c.args.disk.now in
    let b = c.self.inside.image.bytes in
    let is : c.in-Open.has_changed ≡ true = c.if-not-has_changed.false in
    let v : within b c.in-Open.committed true ≡ c.args.self.now = ap (λ (x : Bool). within b c.in-Open.committed x) (sym is) ∙ open_view b b c.self.inside.state.stage c.in-Open.committed c.in-Open.has_changed c.args.self.now c.self.view_is c.in-Open.is refl in
    let t : IsTied b c.in-Open.committed true d = open_tied c.args.self.now b c.in-Open.committed true d v c.requires.tied in
    let back = given_back b c.recover.new.image.bytes c.in-Open.committed d t c.in-Ok.ensures.recovers in
    record { there = (t.says.header, back.0.fields, back.0.header) }

pub invariant_of-self-in-Ok : goal.invariant_of-self-in-Ok
invariant_of-self-in-Ok g c =
    let d = g.D.Disk.state c.args.disk.now in
    let b = c.self.inside.image.bytes in
    let is : c.in-Open.has_changed ≡ true = c.if-not-has_changed.false in
    let v : within b c.in-Open.committed true ≡ c.args.self.now = ap (λ (x : Bool). within b c.in-Open.committed x) (sym is) ∙ open_view b b c.self.inside.state.stage c.in-Open.committed c.in-Open.has_changed c.args.self.now c.self.view_is c.in-Open.is refl in
    let t : IsTied b c.in-Open.committed true d = open_tied c.args.self.now b c.in-Open.committed true d v c.requires.tied in
    let back = given_back b c.recover.new.image.bytes c.in-Open.committed d t c.in-Ok.ensures.recovers in
    tidy_sound c.recover.new.image.bytes t.says back.0 back.1 _ (header_count c.header.result t.says (c.header.ensures.only t.says.header back.0.fields back.0.header) back.1.count)

pub returns-in-Ok-clause-tied : goal.returns-in-Ok-clause-tied
returns-in-Ok-clause-tied g c =
    let d = g.D.Disk.state c.args.disk.now in
    let b = c.self.inside.image.bytes in
    let is : c.in-Open.has_changed ≡ true = c.if-not-has_changed.false in
    let v : within b c.in-Open.committed true ≡ c.args.self.now = ap (λ (x : Bool). within b c.in-Open.committed x) (sym is) ∙ open_view b b c.self.inside.state.stage c.in-Open.committed c.in-Open.has_changed c.args.self.now c.self.view_is c.in-Open.is refl in
    let t : IsTied b c.in-Open.committed true d = open_tied c.args.self.now b c.in-Open.committed true d v c.requires.tied in
    let back = given_back b c.recover.new.image.bytes c.in-Open.committed d t c.in-Ok.ensures.recovers in
    rests_tied c.recover.new.image.bytes t.says (g.D.Disk.state c.recover.new.disk) back.0 back.1 c.in-Ok.ensures.durable c.in-Ok.ensures.reads
    (omega (arith, within_limit b true t.fits, c.recover.ensures.place.no_longer))

pub returns-in-Ok-clause-abort : goal.returns-in-Ok-clause-abort
returns-in-Ok-clause-abort g c =
    let d = g.D.Disk.state c.args.disk.now in
    let b = c.self.inside.image.bytes in
    let is : c.in-Open.has_changed ≡ true = c.if-not-has_changed.false in
    let v : within b c.in-Open.committed true ≡ c.args.self.now = ap (λ (x : Bool). within b c.in-Open.committed x) (sym is) ∙ open_view b b c.self.inside.state.stage c.in-Open.committed c.in-Open.has_changed c.args.self.now c.self.view_is c.in-Open.is refl in
    let t : IsTied b c.in-Open.committed true d = open_tied c.args.self.now b c.in-Open.committed true d v c.requires.tied in
    let e = g.D.Disk.state c.recover.new.disk in
    let new = c.recover.new.image.bytes in
    let opens = left_opens t.base b t.says true t.tied.committed t.tied.tidy t.tied.own in
    let sizes = c.recover.ensures.place.up_to SKIP_LIMIT (within_limit b true t.fits) (up_to_limit b c.in-Open.committed true d t) in
    subst (λ (s : SkipSession). Aborts {T = Unit {0}} skip_kind (over d (session_state s)) (over e (session_state (resting new))) (Ok tt)) v
    (call_done (broken_refusal (session_state (within b c.in-Open.committed true))) (aborted (session_state (within b c.in-Open.committed true))) (OpensCommitted skip_kind (session_state (within b c.in-Open.committed true)))
    (session_state (within b c.in-Open.committed true)) (session_state (resting new)) d e tt refl (aborted_state b new c.in-Open.committed d t c.in-Ok.ensures.recovers)
    (keeps_committed (session_state (within b c.in-Open.committed true)) (pairs t.says.chain) d e (committed_is b c.in-Open.committed true d t) (c.recover.ensures.moments (pairs t.says.chain) opens) sizes.1 c.recover.ensures.place.mark)
    c.recover.ensures.place.publishes c.in-Ok.ensures.cause.kept)

pub returns-in-Err-clause-abort : goal.returns-in-Err-clause-abort
returns-in-Err-clause-abort g c =
    let d = g.D.Disk.state c.args.disk.now in
    let b = c.self.inside.image.bytes in
    let is : c.in-Open.has_changed ≡ true = c.if-not-has_changed.false in
    let v : within b c.in-Open.committed true ≡ c.args.self.now = ap (λ (x : Bool). within b c.in-Open.committed x) (sym is) ∙ open_view b b c.self.inside.state.stage c.in-Open.committed c.in-Open.has_changed c.args.self.now c.self.view_is c.in-Open.is refl in
    let t : IsTied b c.in-Open.committed true d = open_tied c.args.self.now b c.in-Open.committed true d v c.requires.tied in
    let e = g.D.Disk.state c.recover.new.disk in
    let opens = left_opens t.base b t.says true t.tied.committed t.tied.tidy t.tied.own in
    let sizes = c.recover.ensures.place.up_to SKIP_LIMIT (within_limit b true t.fits) (up_to_limit b c.in-Open.committed true d t) in
    subst (λ (s : SkipSession). Aborts {T = Unit {0}} skip_kind (over d (session_state s)) (over e (session_state broken)) (Err DiskFault)) v
    (call_failed (broken_refusal (session_state (within b c.in-Open.committed true))) (aborted (session_state (within b c.in-Open.committed true))) (OpensCommitted skip_kind (session_state (within b c.in-Open.committed true)))
    (session_state (within b c.in-Open.committed true)) d e refl
    (keeps_committed (session_state (within b c.in-Open.committed true)) (pairs t.says.chain) d e (committed_is b c.in-Open.committed true d t) (c.recover.ensures.moments (pairs t.says.chain) opens) sizes.1 c.recover.ensures.place.mark)
    c.recover.ensures.place.publishes c.recover.ensures.cause.later c.in-Err.ensures.cause.failed)
