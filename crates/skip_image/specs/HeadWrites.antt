-- Bytes in memory that are ahead of the disk by one head, some of whose pointers were set.
use Rattle.std.specs.Prelude.{◌≡◌, ◌⊎◌, ℕ, ◌+◌, ◌-◌, ◌<◌, ◌≤◌, List, length, slice_index}
use Rattle.base_devices.specs.CrashImages.{DiskState, Reads}
use Rattle.skip_form.specs.Flaws.{head_in}
use Rattle.skip_spec.specs.Records.{head_size_of}
use Rattle.skip_spec.specs.Rows.{IsAmong}
use Rattle.skip_spec.specs.Opens.{Contents}
use Rattle.skip_spec.specs.Near.{heads}
use Rattle.skip_lists.specs.Tie.{IsLeft, TiedToBase}

-- the new bytes are as many as the old ones, and all that differ are in the head at an offset, before its tail check
pub record ChangesHead (old new : List ℕ) (at : ℕ) : Type 0 where
  pub long : length new ≡ length old
  pub others : (i : ℕ) → i < length old → (i < at) ⊎ (at + (head_size_of (head_in new at) - 4) ≤ i) → slice_index new i ≡ slice_index old i

-- the bytes are what the disk reads, but for the head at an offset
abbrev pub ReadsButHead : DiskState → List ℕ → ℕ → Type 0
ReadsButHead disk bytes at = (was : List ℕ) × Reads disk was × ChangesHead was bytes at

-- What the disk reads is tied to a base of which the bytes are an image too. They are ahead of it by the head at an
-- offset, which is a head of the base if it stands below the committed end.
pub record IsAhead (base : List ℕ) (says : Contents) (bytes : List ℕ) (at : ℕ) (disk : DiskState) : Type 0 where
  pub was : List ℕ
  pub tied : TiedToBase base says was disk
  pub own : IsLeft base bytes
  pub changes : ChangesHead was bytes at
  pub known : at < says.header.current_size → IsAmong (heads says) at
