use Rattle.std.proofs.Common.{◌≡◌, ◌≤◌, ℕ, ◌+◌, Bool, true, false, List, None, Result, Ok, Err, refl, sym, ap, subst, ◌∙◌, inl, arith, length}
use Rattle.std.proofs.lemmas.Result.{err_from_is_err_and}
use Rattle.base_bytes.specs.OrderedMap.{Map}
use Rattle.base_bytes.specs.declared.change.Change.TheVariants.{Del}
use Rattle.base_bytes.specs.declared.limits.TheConstants.{SKIP_LIMIT}
use Rattle.base_devices.specs.CrashImages.{DiskState}
use Rattle.db_core.specs.Calls.{Aborts, Commits, MakesChange, OpensCommitted, OpensEither}
use Rattle.db_core.specs.Refusals.{MayAnswer, broken_refusal, delete_refusal}
use Rattle.db_core.specs.Sessions.{aborted, committed, deleted, over}
use Rattle.db_core.specs.declared.fault.DbFault.{DbFault}
use Rattle.db_core.specs.declared.fault.DbFault.TheVariants.{DiskFault}
use Rattle.skip_spec.specs.Appending as appending
use Rattle.skip_spec.specs.Appending.{Deletes}
use Rattle.skip_spec.specs.Chain.{Entry, pairs}
use Rattle.skip_spec.specs.Live.{map_under}
use Rattle.skip_spec.specs.Opens.{Opens}
use Rattle.skip_spec.proofs.Lives.{bytes_live}
use Rattle.skip_spec.proofs.SameLog.{tidy_live}
use Rattle.skip_lists.proofs.Ties.{tied_to_base}
use Rattle.skip_seek.specs.Searches.{live_of, map_of}
use Rattle.skip_change.specs.Changing.{HasSpot}
use Rattle.skip_kind.specs.Kind.{skip_kind}
use Rattle.skip_txn.specs.Bounds.{DeleteWrites}
use Rattle.skip_txn.specs.Room.{room_refusal}
use Rattle.skip_txn.specs.Sessions.{SkipSession, IsSound, IsTied, Tied, broken, bytes_of, resting, session_of, session_state, within}
use Rattle.skip_txn.proofs.Changed.{deleted_absent, deleted_sound, deleted_state, delete_owes, delete_owes_nothing, key_absent, key_there, some_live, spot_of_place}
use Rattle.skip_txn.proofs.Sound.{header_count, tidy_sound}
use Rattle.skip_txn.proofs.Tying.{aborted_state, call_done, call_failed, call_idle, call_refused, committed_is, end_back, given_back, keeps_committed, keeps_either, left_opens, rests_tied, tied_opens, up_to_limit, within_limit}
use Rattle.skip_txn.proofs.Views.{open_sound, open_tied, open_view}
use Rattle.skip_txn.proofs.session.Session.commit.Goals as goal

pub returns-then-not-has_changed-clause-commit : goal.returns-then-not-has_changed-clause-commit
returns-then-not-has_changed-clause-commit g c =
    let d = g.D.Disk.state c.args.disk.now in
    let b = c.self.inside.image.bytes in
    let isnt : c.in-Open.has_changed ≡ false = c.if-not-has_changed.true in
    let v : within b c.in-Open.committed false ≡ c.args.self.now = ap (λ (x : Bool). within b c.in-Open.committed x) (sym isnt) ∙ open_view b b c.self.inside.state.stage c.in-Open.committed c.in-Open.has_changed c.args.self.now c.self.view_is c.in-Open.is refl in
    let t : IsTied b c.in-Open.committed false d = open_tied c.args.self.now b c.in-Open.committed false d v c.requires.tied in
    let sound = open_sound c.self.inside.image c.self.inside.state c.self.inside.state.stage c.in-Open.committed c.in-Open.has_changed b c.in-Open.is c.self.invariant refl in
    let ends : c.in-Open.committed ≡ length b = sound.unchanged isnt in
    subst (λ (s : SkipSession). Commits {T = Unit {0}} skip_kind (over d (session_state s)) (over d (session_state (resting b))) (Ok tt)) v
    (call_idle (broken_refusal (session_state (within b c.in-Open.committed false))) (committed skip_kind (session_state (within b c.in-Open.committed false))) (OpensEither skip_kind (session_state (within b c.in-Open.committed false)))
    (session_state (within b c.in-Open.committed false)) (session_state (resting b)) d tt (g.met.D.Disk.is_moment c.args.disk.now) refl refl (λ ok i left. inl (tied_opens b c.in-Open.committed false d t i left)))

pub invariant_of-self-in-Ok : goal.invariant_of-self-in-Ok
invariant_of-self-in-Ok g c =
    let d = g.D.Disk.state c.args.disk.now in
    let b = c.self.inside.image.bytes in
    let is : c.in-Open.has_changed ≡ true = c.if-not-has_changed.false in
    let v : within b c.in-Open.committed true ≡ c.args.self.now = ap (λ (x : Bool). within b c.in-Open.committed x) (sym is) ∙ open_view b b c.self.inside.state.stage c.in-Open.committed c.in-Open.has_changed c.args.self.now c.self.view_is c.in-Open.is refl in
    let t : IsTied b c.in-Open.committed true d = open_tied c.args.self.now b c.in-Open.committed true d v c.requires.tied in
    let now = c.in-Ok.ensures.tied t.base t.says t.tied in
    let sound = open_sound c.self.inside.image c.self.inside.state c.self.inside.state.stage c.in-Open.committed c.in-Open.has_changed b c.in-Open.is c.self.invariant refl in
    tidy_sound c.commit.new.image.bytes now.says now.tied.committed now.tied.tidy _ (sound.counted ∙ ap length (sym now.list))

pub returns-in-Ok-clause-tied : goal.returns-in-Ok-clause-tied
returns-in-Ok-clause-tied g c =
    let d = g.D.Disk.state c.args.disk.now in
    let b = c.self.inside.image.bytes in
    let is : c.in-Open.has_changed ≡ true = c.if-not-has_changed.false in
    let v : within b c.in-Open.committed true ≡ c.args.self.now = ap (λ (x : Bool). within b c.in-Open.committed x) (sym is) ∙ open_view b b c.self.inside.state.stage c.in-Open.committed c.in-Open.has_changed c.args.self.now c.self.view_is c.in-Open.is refl in
    let t : IsTied b c.in-Open.committed true d = open_tied c.args.self.now b c.in-Open.committed true d v c.requires.tied in
    let now = c.in-Ok.ensures.tied t.base t.says t.tied in
    record { base = c.commit.new.image.bytes; says = now.says; ends = sym now.tied.tidy.ends; tied = now.tied; fits = omega (arith, t.fits, c.in-Ok.ensures.length) }

pub returns-in-Ok-clause-commit : goal.returns-in-Ok-clause-commit
returns-in-Ok-clause-commit g c =
    let d = g.D.Disk.state c.args.disk.now in
    let b = c.self.inside.image.bytes in
    let is : c.in-Open.has_changed ≡ true = c.if-not-has_changed.false in
    let v : within b c.in-Open.committed true ≡ c.args.self.now = ap (λ (x : Bool). within b c.in-Open.committed x) (sym is) ∙ open_view b b c.self.inside.state.stage c.in-Open.committed c.in-Open.has_changed c.args.self.now c.self.view_is c.in-Open.is refl in
    let t : IsTied b c.in-Open.committed true d = open_tied c.args.self.now b c.in-Open.committed true d v c.requires.tied in
    let e = g.D.Disk.state c.commit.new.disk in
    let new = c.commit.new.image.bytes in
    let now = c.in-Ok.ensures.tied t.base t.says t.tied in
    let seen : map_of new ≡ map_of b = ap pairs (bytes_live new now.says.starts now.says.chain (tidy_live new now.says now.tied.committed now.tied.tidy) ∙ now.list) in
    let state : session_state (resting new) ≡ committed skip_kind (session_state (within b c.in-Open.committed true)) = cc (seen, c.in-Ok.ensures.length) in
    let sizes = c.commit.ensures.long SKIP_LIMIT (omega (arith, t.fits)) (up_to_limit b c.in-Open.committed true d t) in
    subst (λ (s : SkipSession). Commits {T = Unit {0}} skip_kind (over d (session_state s)) (over e (session_state (resting new))) (Ok tt)) v
    (call_done (broken_refusal (session_state (within b c.in-Open.committed true))) (committed skip_kind (session_state (within b c.in-Open.committed true))) (OpensEither skip_kind (session_state (within b c.in-Open.committed true)))
    (session_state (within b c.in-Open.committed true)) (session_state (resting new)) d e tt refl state
    (keeps_either (session_state (within b c.in-Open.committed true)) (pairs t.says.chain) (map_of b) d e (committed_is b c.in-Open.committed true d t) refl (c.commit.ensures.moments t.base t.says t.tied) sizes.1 c.commit.ensures.mark)
    c.commit.ensures.publishes c.in-Ok.ensures.cause.kept)

pub returns-in-Err-clause-commit : goal.returns-in-Err-clause-commit
returns-in-Err-clause-commit g c =
    let d = g.D.Disk.state c.args.disk.now in
    let b = c.self.inside.image.bytes in
    let is : c.in-Open.has_changed ≡ true = c.if-not-has_changed.false in
    let v : within b c.in-Open.committed true ≡ c.args.self.now = ap (λ (x : Bool). within b c.in-Open.committed x) (sym is) ∙ open_view b b c.self.inside.state.stage c.in-Open.committed c.in-Open.has_changed c.args.self.now c.self.view_is c.in-Open.is refl in
    let t : IsTied b c.in-Open.committed true d = open_tied c.args.self.now b c.in-Open.committed true d v c.requires.tied in
    let e = g.D.Disk.state c.commit.new.disk in
    let sizes = c.commit.ensures.long SKIP_LIMIT (omega (arith, t.fits)) (up_to_limit b c.in-Open.committed true d t) in
    subst (λ (s : SkipSession). Commits {T = Unit {0}} skip_kind (over d (session_state s)) (over e (session_state broken)) (Err DiskFault)) v
    (call_failed (broken_refusal (session_state (within b c.in-Open.committed true))) (committed skip_kind (session_state (within b c.in-Open.committed true))) (OpensEither skip_kind (session_state (within b c.in-Open.committed true)))
    (session_state (within b c.in-Open.committed true)) d e refl
    (keeps_either (session_state (within b c.in-Open.committed true)) (pairs t.says.chain) (map_of b) d e (committed_is b c.in-Open.committed true d t) refl (c.commit.ensures.moments t.base t.says t.tied) sizes.1 c.commit.ensures.mark)
    c.commit.ensures.publishes c.commit.ensures.cause.later c.in-Err.ensures.cause.failed)
