-- What calls leave as it was, the strongest first. docs/devices.md has them as a table.
use Rattle.std.specs.Prelude.{◌≡◌, ◌⊎◌, ◌↔◌, ℕ, ◌≤◌, List, Some, Result, OnOk, IsSome}
use Rattle.base_devices.specs.CrashImages.{Image, DiskState, LeavesOnly, LeavesSame, IsDurable, Reads}

-- nothing of the disk changed, nor any moment
pub record SameDisk (old new : DiskState) : Type 0 where
  pub reads : new.reads ≡ old.reads
  pub leaves : LeavesSame old new
  pub clock : new.clock ≡ old.clock
  pub mark : new.mark ≡ old.mark
  pub left_since : (t : ℕ) (c : Image) (n : ℕ) → new.left_since t c n ↔ old.left_since t c n
  pub fresh : new.fresh ≡ old.fresh
  pub faults : new.faults ≡ old.faults
  pub written : new.written ≡ old.written
  pub publishes : new.publishes ≡ old.publishes

-- the main file reads the same, may leave the same, and was neither written nor replaced
pub record KeepsMain (old new : DiskState) : Type 0 where
  pub reads : new.reads ≡ old.reads
  pub leaves : LeavesSame old new
  pub written : new.written ≡ old.written
  pub publishes : new.publishes ≡ old.publishes

-- Some calls that keep the main file: at each moment a crash left what it could leave at the start, and the mark stood.
pub record StaysAs (old new : DiskState) : Type 0 where
  pub main : KeepsMain old new
  pub mark : new.mark ≡ old.mark
  pub each : LeavesOnly old new (λ c n. (n ≡ old.mark) × old.leaves c)

-- what a print keeps: all of the disk but the mark and the moments
pub record KeepsFiles (old new : DiskState) : Type 0 where
  pub reads : new.reads ≡ old.reads
  pub leaves : LeavesSame old new
  pub fresh : new.fresh ≡ old.fresh
  pub written : new.written ≡ old.written
  pub publishes : new.publishes ≡ old.publishes

-- Some prints: each image left could be left at the start, and the mark rose to where it stands.
pub record OnlyPrints (old new : DiskState) : Type 0 where
  pub keeps : KeepsFiles old new
  pub mark : old.mark ≤ new.mark
  pub each : LeavesOnly old new (λ c n. old.leaves c × (old.mark ≤ n) × (n ≤ new.mark))

-- A file was synced, if anything: each image that is left could be left before.
pub record MayLeaveLess (old new : DiskState) : Type 0 where
  pub leaves : (c : Image) → new.leaves c → old.leaves c
  pub each : LeavesOnly old new (λ c n. (n ≡ old.mark) × old.leaves c)
  pub mark : new.mark ≡ old.mark
  pub fresh : new.fresh ≡ old.fresh
  pub written : new.written ≡ old.written
  pub publishes : new.publishes ≡ old.publishes

-- at each moment the mark is between those at the start and at the end, and each image has Q
abbrev pub LeavesBetween : DiskState → DiskState → (Image → Type 0) → Type 0
LeavesBetween old new Q = LeavesOnly old new (λ c n. (old.mark ≤ n) × (n ≤ new.mark) × Q c)

-- The main file was neither written nor replaced, no new file was begun, and each image left could be left at the start.
pub record KeepsFile (old new : DiskState) : Type 0 where
  pub each : LeavesBetween old new old.leaves
  pub fresh : new.fresh ≡ old.fresh
  pub written : new.written ≡ old.written
  pub publishes : new.publishes ≡ old.publishes

-- no new file was begun, and the main file was neither written nor replaced
pub record KeepsCounts (old new : DiskState) : Type 0 where
  pub fresh : new.fresh ≡ old.fresh
  pub written : new.written ≡ old.written
  pub publishes : new.publishes ≡ old.publishes

-- ---- the main file is replaced

-- after Ok the file reads these bytes, and a crash leaves nothing else
pub record Replaces {T E : Type 0} (bytes : List ℕ) (old new : DiskState) (result : Result T E) : Type 0 where
  pub reads : OnOk result (IsSome old.reads → Reads new bytes)
  pub durable : OnOk result (IsDurable new)

-- wherever the call stops, the file is one that could be left before, or has all the new bytes
pub record MayReplace (bytes : List ℕ) (old new : DiskState) : Type 0 where
  pub each : LeavesOnly old new (λ c n. (n ≡ old.mark) × (old.leaves c ⊎ (c ≡ Some bytes)))
  pub mark : new.mark ≡ old.mark
