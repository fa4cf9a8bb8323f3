-- A session over a disk: two maps, and what each call makes of them.
use Rattle.std.specs.Prelude.{◌≡◌, ◌≤◌, ℕ, Bool, true, false, List, [], Some, is_some, length, fold, if◌then◌else◌}
use Rattle.base_bytes.specs.OrderedMap.{Map, IsDbMap, value_at, put, without}
use Rattle.base_bytes.specs.declared.change.Change.{Change}
use Rattle.base_bytes.specs.declared.change.Change.TheVariants.{Put, Del}
use Rattle.base_bytes.specs.declared.flaw.Damage.{Damage}
use Rattle.base_devices.specs.CrashImages.{Image, DiskState}

-- What a kind of database makes of files and sizes. The load is the number which, with the map, gives the file's size.
pub record DbKind : Type 1 where
  -- this image, which is no longer than the limit, opens to this map
  pub opens : Image → Map → Type 0
  -- these bytes have this first flaw
  pub flawed : List ℕ → Damage → Type 0
  -- how many bytes a file may have
  pub limit : ℕ
  -- the file of the empty map that is made where there is none
  pub empty : List ℕ
  -- the load with which a file of these bytes opens
  pub load_of : List ℕ → ℕ
  -- opening a file of these bytes writes nothing
  pub is_settled : List ℕ → Type 0
  -- the load after a change of a map with this load, and the size that the file would have
  pub load_after : Map → ℕ → Change → ℕ
  pub size_after : Map → ℕ → Change → ℕ
  -- the load once a transaction that changed something is committed
  pub load_committed : ℕ → ℕ
  -- its changes publish nothing; one that does not work in place touches the disk in `commit` alone
  pub works_in_place : Bool

-- What holds of a kind. Each backend proves it once, and the tools stand on it.
pub record DbLaws (kind : DbKind) : Type 0 where
  -- what opens is there and no longer than its limit, opens to one map, and to one of a database
  pub within : (c : Image) (m : Map) → kind.opens c m → (bytes : List ℕ) × (c ≡ Some bytes) × (length bytes ≤ kind.limit)
  pub once : (c : Image) (m n : Map) → kind.opens c m → kind.opens c n → m ≡ n
  pub ordered : (c : Image) (m : Map) → kind.opens c m → IsDbMap m
  -- the file that is made opens to the empty map
  pub fresh : kind.opens (Some kind.empty) []
  -- a file has one first flaw at most, and none where it opens
  pub first : (bytes : List ℕ) (x y : Damage) → kind.flawed bytes x → kind.flawed bytes y → x ≡ y
  pub never_both : (bytes : List ℕ) (m : Map) (x : Damage) → kind.opens (Some bytes) m → kind.flawed bytes x → ⊥

-- a session at one moment
pub record DbState : Type 0 where
  -- the map that is seen, and the one that is on the disk
  pub seen : Map
  pub committed : Map
  -- the loads of both
  pub load : ℕ
  pub load_committed : ℕ
  pub in_transaction : Bool
  -- something was changed in this transaction
  pub has_changed : Bool
  pub is_broken : Bool

-- a session with its disk at one moment
pub record DbMoment : Type 1 where
  pub session : DbState
  pub disk : DiskState

abbrev pub over : DiskState → DbState → DbMoment
over disk session = record { session = session; disk = disk }

-- outside a transaction, over this map with this load
abbrev pub at_rest : Map → ℕ → DbState
at_rest m load = record { seen = m; committed = m; load = load; load_committed = load; in_transaction = false; has_changed = false; is_broken = false }

-- ---- the session after each call

abbrev pub begun : DbState → DbState
begun s = record s { in_transaction = true; has_changed = false }

abbrev pub stored : DbKind → DbState → ℕ → List ℕ → List ℕ → DbState
stored kind s word key value = record s { seen = put s.seen key value; load = kind.load_after s.seen s.load (Put word key value); has_changed = true }

abbrev pub deleted : DbKind → DbState → List ℕ → DbState
deleted kind s key = record s {
  seen = without s.seen key;
  load = if is_some (value_at s.seen key) then kind.load_after s.seen s.load (Del key) else s.load;
  has_changed = if is_some (value_at s.seen key) then true else s.has_changed;
}

-- a change of either sort, and a list of them
abbrev pub change_after : DbKind → DbState → Change → DbState
change_after kind s (Put word key value) = stored kind s word key value
change_after kind s (Del key) = deleted kind s key

abbrev pub changes_after : DbKind → DbState → List Change → DbState
changes_after kind s changes = fold (change_after kind) s changes

-- the load that stays when the transaction is committed
abbrev pub load_then : DbKind → DbState → ℕ
load_then kind s = if s.has_changed then kind.load_committed s.load else s.load

abbrev pub committed : DbKind → DbState → DbState
committed kind s = record s { committed = s.seen; load = load_then kind s; load_committed = load_then kind s; in_transaction = false; has_changed = false }

abbrev pub aborted : DbState → DbState
aborted s = record s { seen = s.committed; load = s.load_committed; in_transaction = false; has_changed = false }
