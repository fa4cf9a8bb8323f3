-- What each call of a disk does.
use Rattle.std.specs.Option.{option_map}
use Rattle.std.specs.Prelude.{◌≡◌, ◌⊎◌, ℕ, ◌+◌, ◌<◌, ◌≤◌, true, false, List, [], ◌++◌, Option, Some, None, Result, OnOk, length, take}
use Rattle.base_devices.specs.CrashImages.{Image, Fresh, DiskState, Reads, LeavesOnly, LeavesSame, IsDurable}
use Rattle.base_bytes.specs.Landing.{written_at, Lands, Shortens}

-- Every call of a disk: it keeps the mark, each pair that it adds may be left just before it or just after it, and the clock rises where what may be left changes.
pub record DiskCall (old new : DiskState) : Type 0 where
  pub mark : new.mark ≡ old.mark
  pub each : LeavesOnly old new (λ c n. (n ≡ old.mark) × (old.leaves c ⊎ new.leaves c))
  pub stands : new.clock ≡ old.clock → LeavesSame old new

-- what `length` answers
abbrev pub IsLength : Image → Option ℕ → Type 0
IsLength None answer = answer ≡ None
IsLength (Some bytes) answer = answer ≡ Some (length bytes)

-- the main file is there and has a byte at this offset
abbrev pub HasByteAt : Option Image → ℕ → Type 0
HasByteAt reads at = (b : List ℕ) × (reads ≡ Some (Some b)) × (at < length b)

-- the main file is there and has so many bytes
abbrev pub HasLength : Option Image → ℕ → Type 0
HasLength reads size = (b : List ℕ) × (reads ≡ Some (Some b)) × (length b ≡ size)

-- the main file is there, and the offset is in it or at its end
abbrev pub HasOffset : Option Image → ℕ → Type 0
HasOffset reads at = (b : List ℕ) × (reads ≡ Some (Some b)) × (at ≤ length b)

-- the main file with its bytes changed, where it is shown
abbrev pub with_bytes : (List ℕ → List ℕ) → Option Image → Option Image
with_bytes change reads = option_map (λ (main : Image). option_map change main) reads

-- the step goes from the one main file to the other; an absent one stays absent
abbrev pub OnFile : (List ℕ → List ℕ → Type 0) → Image → Image → Type 0
OnFile step None image = image ≡ None
OnFile step (Some old) image = (new : List ℕ) × (image ≡ Some new) × step old new

-- each image that may be left now is one that could be left, after the step
pub record Follows (step : List ℕ → List ℕ → Type 0) (old new : DiskState) : Type 0 where
  pub from : (c : Image) → new.leaves c → (d : Image) × old.leaves d × OnFile step d c

abbrev pub fresh_bytes : Option Fresh → Option (List ℕ)
fresh_bytes fresh = option_map (λ (f : Fresh). f.bytes) fresh

-- the new file that is just begun
abbrev pub begun : Fresh
begun = record { bytes = []; is_synced = false }

abbrev pub appended : Fresh → List ℕ → Fresh
appended f bytes = record { bytes = f.bytes ++ bytes; is_synced = false }

abbrev pub synced : Fresh → Fresh
synced f = record f { is_synced = true }

-- a whole new file, all of it on the disk
abbrev pub IsWhole : Option Fresh → Type 0
IsWhole fresh = (f : Fresh) × (fresh ≡ Some f) × (f.is_synced ≡ true)

-- the main file that the new one would be
abbrev pub new_image : Option Fresh → Option Image
new_image fresh = option_map (λ (f : Fresh). Some f.bytes) fresh

-- Bytes were written at an offset. Each image lands line by line, and after a failure what is read did so too.
pub record Writes {T E : Type 0} (at : ℕ) (bytes : List ℕ) (old new : DiskState) (result : Result T E) : Type 0 where
  pub reads : OnOk result (new.reads ≡ with_bytes (written_at at bytes) old.reads)
  pub lines : (b : List ℕ) → Reads old b → (c : List ℕ) × Reads new c × Lands b at bytes c
  pub crash : Follows (λ b c. Lands b at bytes c) old new
  pub fresh : new.fresh ≡ old.fresh
  pub written : new.written ≤ old.written + length bytes
  pub publishes : new.publishes ≡ old.publishes

-- The main file was cut to a length. Each image keeps so many first bytes, or more.
pub record Cuts {T E : Type 0} (to : ℕ) (old new : DiskState) (result : Result T E) : Type 0 where
  pub reads : OnOk result (new.reads ≡ with_bytes (λ b. take to b) old.reads)
  pub crash : Follows (λ b c. Shortens b to c) old new
  pub fresh : new.fresh ≡ old.fresh
  pub written : new.written ≡ old.written
  pub publishes : new.publishes ≡ old.publishes

-- After Ok a crash leaves what the main file reads and nothing else; after a failure, what it could leave before.
pub record Syncs {T E : Type 0} (old new : DiskState) (result : Result T E) : Type 0 where
  pub reads : OnOk result (new.reads ≡ old.reads)
  pub durable : OnOk result (IsDurable new)
  pub crash : (c : Image) → new.leaves c → old.leaves c
  pub fresh : new.fresh ≡ old.fresh
  pub written : new.written ≡ old.written
  pub publishes : new.publishes ≡ old.publishes

-- A crash leaves the old file or the whole new one, and after Ok only the new one.
pub record Publishes {T E : Type 0} (old new : DiskState) (result : Result T E) : Type 0 where
  pub reads : OnOk result (new.reads ≡ new_image old.fresh)
  pub durable : OnOk result (IsDurable new)
  pub crash : (c : Image) → new.leaves c → old.leaves c ⊎ (new_image old.fresh ≡ Some c)
  pub fresh : new.fresh ≡ None
  pub written : new.written ≡ old.written
  pub publishes : new.publishes ≤ old.publishes + 1
