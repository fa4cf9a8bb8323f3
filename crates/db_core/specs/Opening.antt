-- What a database opens to, why it may not, and what opening does to its disk.
use Rattle.std.specs.Prelude.{◌≡◌, ◌⊎◌, ℕ, ◌<◌, ◌≤◌, List, Option, Some, None, Result, OnOk, IfOk, IfErr, length}
use Rattle.base_bytes.specs.OrderedMap.{Map, IsDbMap}
use Rattle.base_bytes.specs.declared.flaw.Damage.{Damage}
use Rattle.base_devices.specs.CrashImages.{Image, DiskState, LeavesOnly, IsDurable, WhereRead}
use Rattle.base_devices.specs.Frames.{MayLeaveLess}
use Rattle.db_core.specs.Sessions.{DbKind, DbState, at_rest}
use Rattle.db_core.specs.declared.opening.OpenFault.{OpenFault}
use Rattle.db_core.specs.declared.opening.OpenFault.TheVariants.{Absent, TooBig, NoMemory, DiskFault, Damaged}

-- the file is there, no longer than it may be, and P holds of its bytes
pub record Holds (limit : ℕ) (P : List ℕ → Type 0) (main : Image) : Type 0 where
  pub bytes : List ℕ
  pub there : main ≡ Some bytes
  pub within : length bytes ≤ limit
  pub so : P bytes

-- the file has so many bytes, more than it may
pub record IsTooBig (limit : ℕ) (main : Image) (size : ℕ) : Type 0 where
  pub bytes : List ℕ
  pub there : main ≡ Some bytes
  pub counted : size ≡ length bytes
  pub over : limit < size

-- a file is refused by its length alone
abbrev pub IsSizeRefusal : ℕ → Image → OpenFault → Type 0
IsSizeRefusal limit main Absent = main ≡ None
IsSizeRefusal limit main (TooBig size) = IsTooBig limit main size
IsSizeRefusal limit main DiskFault = Unit {0}
IsSizeRefusal limit main fault = ⊥

-- Where each refusal comes. A fault of the disk has its cause in the count, and want of memory is free for a file that
-- is there and not too big.
abbrev pub IsOpenRefusal : DbKind → Image → OpenFault → Type 0
IsOpenRefusal kind main Absent = main ≡ None
IsOpenRefusal kind main (TooBig size) = IsTooBig kind.limit main size
IsOpenRefusal kind main NoMemory = Holds kind.limit (λ _. Unit {0}) main
IsOpenRefusal kind main DiskFault = Unit {0}
IsOpenRefusal kind main (Damaged at check) = Holds kind.limit (λ bytes. kind.flawed bytes (record { at = at; check = check })) main

abbrev pub IsDeviceFault : OpenFault → Type 0
IsDeviceFault DiskFault = Unit {0}
IsDeviceFault fault = ⊥

abbrev pub IsDamage : OpenFault → Type 0
IsDamage (Damaged _ _) = Unit {0}
IsDamage fault = ⊥

-- ---- what is opened

-- a file of this image opens to this session, at rest
pub record OpensTo (kind : DbKind) (main : Image) (s : DbState) : Type 0 where
  pub bytes : List ℕ
  pub there : main ≡ Some bytes
  pub map : Map
  pub opens : kind.opens main map
  pub rests : s ≡ at_rest map (kind.load_of bytes)

-- a session at rest over the map of a database
pub record IsAtRest (s : DbState) : Type 0 where
  pub map : Map
  pub load : ℕ
  pub rests : s ≡ at_rest map load
  pub sound : IsDbMap map

-- Opening gives the session of the file that is read, or says why not.
pub record OpensAs {B : Type 0} (kind : DbKind) (state : B → DbState) (old : DiskState) (result : Result B OpenFault) : Type 0 where
  pub rests : IfOk result (λ db. IsAtRest (state db))
  pub opened : IfOk result (λ db. WhereRead old (λ main. OpensTo kind main (state db)))
  pub refused : IfErr result (λ fault. WhereRead old (λ main. IsOpenRefusal kind main fault))

-- the image opens to the map to which the file that is read opens
pub record SameMap (kind : DbKind) (reads : Option Image) (c : Image) : Type 0 where
  pub main : Image
  pub is : reads ≡ Some main
  pub map : Map
  pub opens : kind.opens main map
  pub same : kind.opens c map

-- Opening makes sure of the file that it reads, and repairs it where it is not settled.
pub record OpensDisk {B : Type 0} (kind : DbKind) (old new : DiskState) (result : Result B OpenFault) : Type 0 where
  pub each : LeavesOnly old new (λ c n. (n ≡ old.mark) × (old.leaves c ⊎ SameMap kind old.reads c))
  pub mark : new.mark ≡ old.mark
  pub publishes : new.publishes ≡ old.publishes
  -- a settled file is only synced and read, and so is one that does not open
  pub settled : WhereRead old (λ main. ((bytes : List ℕ) → main ≡ Some bytes → kind.is_settled bytes) → MayLeaveLess old new)
  pub unopened : IfErr result (λ fault. IsDeviceFault fault ⊎ MayLeaveLess old new)
  -- what was looked at is on the disk
  pub durable : OnOk result (IsDurable new)
  pub synced : IfErr result (λ fault. IsDamage fault → IsDurable new)

-- A check answers how many pairs the file has, or says why it does not open.
pub record ChecksAs (kind : DbKind) (old : DiskState) (result : Result ℕ OpenFault) : Type 0 where
  pub counted : IfOk result (λ count. WhereRead old (λ main. (m : Map) × kind.opens main m × (count ≡ length m)))
  pub refused : IfErr result (λ fault. WhereRead old (λ main. IsOpenRefusal kind main fault))
