-- What a contract sees of a session, by its parts.
use Rattle.std.proofs.Common.{◌≡◌, ℕ, ◌≤◌, Bool, true, false, List, length, refl, sym, ap, subst, ◌∙◌}
use Rattle.base_bytes.specs.OrderedMap.{Map, IsDbMap}
use Rattle.base_devices.specs.CrashImages.{DiskState}
use Rattle.skip_kind.specs.Kind.{plain_size}
use Rattle.skip_image.specs.Image.{ImageView}
use Rattle.skip_seek.specs.Searches.{IsLive, StaysInBound, live_of, map_of}
use Rattle.skip_txn.specs.Sessions.{SkipSession, within, session_state, session_of, bytes_of, IsSession, IsSound, IsTied, Tied}
use Rattle.skip_txn.specs.declared.session.SessionState.{SessionState}
use Rattle.skip_txn.specs.declared.session.Stage.{Stage}
use Rattle.skip_txn.specs.declared.session.Stage.TheVariants.{Resting, Open, Broken}
use Rattle.skip_txn.proofs.Sound.{live_sound}

-- its bytes, unless it is broken
pub bytes_are : (bytes : List ℕ) (stage : Stage) (s : SkipSession) → session_of bytes stage ≡ s → (session_state s).is_broken ≡ false → bytes ≡ bytes_of s
bytes_are bytes stage s view sound = by stage (ap (λ (t : SkipSession). (session_state t).is_broken) view ∙ sound) ∙ ap bytes_of view
  where
    by : (stage : Stage) → (session_state (session_of bytes stage)).is_broken ≡ false → bytes ≡ bytes_of (session_of bytes stage)
    by Resting is = refl
    by (Open committed has_changed) is = refl
    by Broken is = absurd (cc is)

pub cost_of : (bytes : List ℕ) (stage : Stage) (s : SkipSession) → session_of bytes stage ≡ s → (session_state s).is_broken ≡ false → (key : List ℕ) (besides old new : ℕ) → StaysInBound bytes key besides old new → StaysInBound (bytes_of s) key besides old new
cost_of bytes stage s view sound key besides old new cost = subst (λ (b : List ℕ). StaysInBound b key besides old new) (bytes_are bytes stage s view sound) cost

pub seen_sound : (image : ImageView) (state : SessionState) (stage : Stage) (s : SkipSession) → session_of image.bytes stage ≡ s → (session_state s).is_broken ≡ false → IsSession image state stage → IsDbMap (session_state s).seen
seen_sound image state stage s view sound holds = subst (λ (t : SkipSession). IsDbMap (session_state t).seen) view (by stage (ap (λ (t : SkipSession). (session_state t).is_broken) view ∙ sound) holds)
  where
    by : (stage : Stage) → (session_state (session_of image.bytes stage)).is_broken ≡ false → IsSession image state stage → IsDbMap (session_state (session_of image.bytes stage)).seen
    by Resting is holds = live_sound image.bytes holds.live
    by (Open committed has_changed) is holds = live_sound image.bytes holds.0.live
    by Broken is holds = absurd (cc is)

pub committed_sound : (image : ImageView) (state : SessionState) (stage : Stage) (s : SkipSession) → session_of image.bytes stage ≡ s → (session_state s).is_broken ≡ false → IsSession image state stage → IsDbMap (session_state s).committed
committed_sound image state stage s view sound holds = subst (λ (t : SkipSession). IsDbMap (session_state t).committed) view (by stage (ap (λ (t : SkipSession). (session_state t).is_broken) view ∙ sound) holds)
  where
    by : (stage : Stage) → (session_state (session_of image.bytes stage)).is_broken ≡ false → IsSession image state stage → IsDbMap (session_state (session_of image.bytes stage)).committed
    by Resting is holds = holds.sound
    by (Open committed has_changed) is holds = holds.0.sound
    by Broken is holds = absurd (cc is)

-- ---- in a transaction

-- what a contract sees, where the bytes are these too
pub open_view : (b m : List ℕ) (stage : Stage) (end : ℕ) (changed : Bool) (s : SkipSession) → session_of b stage ≡ s → stage ≡ Open end changed → m ≡ b → within m end changed ≡ s
open_view b m stage end changed s view is same = ap (λ (x : List ℕ). within x end changed) same ∙ ap (session_of b) (sym is) ∙ view

-- what the parts hold
pub open_holds : (image : ImageView) (state : SessionState) (stage : Stage) (end : ℕ) (changed : Bool) → stage ≡ Open end changed → IsSession image state stage → IsSound image.bytes state.count end changed × (plain_size ≤ image.spare)
open_holds image state stage end changed is holds = subst (λ (x : Stage). IsSession image state x) is holds

pub open_sound : (image : ImageView) (state : SessionState) (stage : Stage) (end : ℕ) (changed : Bool) (m : List ℕ) → stage ≡ Open end changed → IsSession image state stage → m ≡ image.bytes → IsSound m state.count end changed
open_sound image state stage end changed m is holds same = subst (λ (x : List ℕ). IsSound x state.count end changed) (sym same) (open_holds image state stage end changed is holds).0

-- the tie
pub open_tied : (s : SkipSession) (m : List ℕ) (end : ℕ) (changed : Bool) (d : DiskState) → within m end changed ≡ s → Tied s d → IsTied m end changed d
open_tied s m end changed d view tie = subst (λ (x : SkipSession). Tied x d) (sym view) tie
