-- A session over a twoskip file: what a contract sees of it, its maps and loads, and its tie to the disk.
use Rattle.std.proofs.Common.{refl}
use Rattle.std.specs.Prelude.{◌≡◌, ℕ, ◌≤◌, Bool, true, false, List, [], length}
use Rattle.base_bytes.specs.OrderedMap.{Map, IsDbMap}
use Rattle.base_bytes.specs.declared.limits.TheConstants.{SKIP_LIMIT}
use Rattle.base_devices.specs.CrashImages.{DiskState}
use Rattle.db_core.specs.Sessions as db
use Rattle.db_core.specs.Sessions.{DbState}
use Rattle.skip_spec.specs.Live.{live_under, map_under}
use Rattle.skip_spec.specs.Opens.{Contents, HasDirty}
use Rattle.skip_lists.specs.Tie.{TiedBy, IsWithin}
use Rattle.skip_image.specs.Image.{ImageView, HasHeader}
use Rattle.skip_seek.specs.Searches.{IsLive, live_of, map_of}
use Rattle.skip_kind.specs.Kind.{plain_size}
use Rattle.skip_txn.specs.declared.session.SessionState.{SessionState}
use Rattle.skip_txn.specs.declared.session.Stage.{Stage}
use Rattle.skip_txn.specs.declared.session.Stage.TheVariants.{Resting, Open, Broken}

-- At rest over its bytes; or in a transaction over them that began at a committed end; or broken.
pub data SkipSession : Type 0 where
  resting : (bytes : List ℕ) → SkipSession
  within : (bytes : List ℕ) (committed : ℕ) (has_changed : Bool) → SkipSession
  broken : SkipSession

-- the bytes of its file
abbrev pub bytes_of : SkipSession → List ℕ
bytes_of (resting bytes) = bytes
bytes_of (within bytes committed has_changed) = bytes
bytes_of broken = []

-- The map seen is that of the live records under the end of the bytes, and the committed one is that under the committed end.
abbrev pub session_state : SkipSession → DbState
session_state (resting bytes) = db.at_rest (map_of bytes) (length bytes)
session_state (within bytes committed has_changed) = record {
  seen = map_of bytes;
  committed = map_under bytes committed;
  load = length bytes;
  load_committed = committed;
  in_transaction = true;
  has_changed = has_changed;
  is_broken = false;
}
session_state broken = record { seen = []; committed = []; load = 0; load_committed = 0; in_transaction = false; has_changed = false; is_broken = true }

-- ---- the tie

-- The bytes and the disk are tied to a base that ends at the committed end, and what is due fits the limit.
pub record IsTied (bytes : List ℕ) (committed : ℕ) (has_changed : Bool) (disk : DiskState) : Type 0 where
  pub base : List ℕ
  pub says : Contents
  pub ends : says.header.current_size ≡ committed
  pub tied : TiedBy base says bytes has_changed disk
  pub fits : IsWithin SKIP_LIMIT bytes has_changed

-- a session that is not broken is tied to its disk
abbrev pub Tied : SkipSession → DiskState → Type 0
Tied (resting bytes) disk = IsTied bytes (length bytes) false disk
Tied (within bytes committed has_changed) disk = IsTied bytes committed has_changed disk
Tied broken disk = Unit {0}

-- ---- by its parts

abbrev pub session_of : List ℕ → Stage → SkipSession
session_of bytes Resting = resting bytes
session_of bytes (Open committed has_changed) = within bytes committed has_changed
session_of bytes Broken = broken

-- The bytes end with their log, and their live records are so many. Under the committed end they list the map of a
-- database too. Until something has changed both ends are one, and from then on the header has DIRTY.
pub record IsSound (bytes : List ℕ) (count committed : ℕ) (has_changed : Bool) : Type 0 where
  pub live : IsLive bytes
  pub header : HasHeader bytes
  pub counted : count ≡ length (live_of bytes)
  pub sound : IsDbMap (map_under bytes committed)
  pub unchanged : has_changed ≡ false → committed ≡ length bytes
  pub changed : has_changed ≡ true → HasDirty bytes

-- In a transaction there is room for its commit record.
abbrev pub IsSession : ImageView → SessionState → Stage → Type 0
IsSession image state Resting = IsSound image.bytes state.count (length image.bytes) false
IsSession image state (Open committed has_changed) = IsSound image.bytes state.count committed has_changed × (plain_size ≤ image.spare)
IsSession image state Broken = Unit {0}

-- ---- laws

pub outside_same : (session : SkipSession) → (session_state session).is_broken ≡ false → (session_state session).in_transaction ≡ false → db.aborted (session_state session) ≡ session_state session
outside_same (resting bytes) sound closed = refl
outside_same (within bytes committed has_changed) sound closed = absurd (cc closed)
outside_same broken sound closed = absurd (cc sound)

pub broken_rests : (session : SkipSession) → (session_state session).is_broken ≡ true → (session_state session).in_transaction ≡ false
broken_rests (resting bytes) is = refl
broken_rests (within bytes committed has_changed) is = absurd (cc is)
broken_rests broken is = refl

-- a broken session is tied to every disk
pub broken_ties : (session : SkipSession) (disk : DiskState) → (session_state session).is_broken ≡ true → Tied session disk
broken_ties (resting bytes) disk is = absurd (cc is)
broken_ties (within bytes committed has_changed) disk is = absurd (cc is)
broken_ties broken disk is = tt
