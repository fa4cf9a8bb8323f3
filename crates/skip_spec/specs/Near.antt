-- The images that an unfinished transaction or recovery may leave of a committed file, called the base.
use Rattle.std.specs.Prelude.{◌≡◌, ℕ, ◌+◌, ◌*◌, ◌-◌, ◌<◌, ◌≤◌, List, ◌∷◌, length, take, map, slice_index, nat_lt, nat_le, if◌then◌else◌, ◌⊎◌}
use Rattle.base_bytes.specs.Fields.{part, u64_in}
use Rattle.skip_form.specs.Fields.{pointer_in}
use Rattle.skip_form.specs.Flaws.{head_in}
use Rattle.skip_form.specs.Spelling.{header_bytes}
use Rattle.skip_spec.specs.Records.{head_size_of}
use Rattle.skip_spec.specs.Rows.{IsAmong}
use Rattle.skip_spec.specs.Opens.{Contents, Reads, with_dirty}

-- where the dummy and the live records begin
abbrev pub heads : Contents → List ℕ
heads says = 64 ∷ map (λ e. e.at) says.chain

-- The level-zero slot that a writer takes, 0 or 1, by what both hold: the one at or above the bound;
-- where neither is, the lesser one; where they are equal, slot 1.
abbrev pub free_slot : ℕ → ℕ → ℕ → ℕ
free_slot bound x y = if nat_le bound x then 0 else if nat_le bound y then 1 else if nat_lt x y then 0 else 1

-- the free slot of the record at an offset
abbrev pub free_slot_of : List ℕ → ℕ → ℕ → ℕ
free_slot_of base bound at = free_slot bound (pointer_in base at 0) (pointer_in base at 1)

-- where the free slot of the record at an offset stands in the file
unfoldable pub free_slot_at : List ℕ → ℕ → ℕ → ℕ
free_slot_at base bound at = at + 8 + 8 * free_slot_of base bound at

-- The byte at i is neither of the record's free slot nor of its free places, which are its slots from 2 on
-- and its head check.
pub record IsOutside (base : List ℕ) (bound at i : ℕ) : Type 0 where
  pub slot : (i < free_slot_at base bound at) ⊎ (free_slot_at base bound at + 8 ≤ i)
  pub places : (i < at + 24) ⊎ (at + (head_size_of (head_in base at) - 4) ≤ i)

-- the byte at i is of no free slot and of no free place
abbrev pub IsFixed : List ℕ → Contents → ℕ → Type 0
IsFixed base says i = (at : ℕ) → IsAmong (heads says) at → IsOutside base says.header.current_size at i

-- what a free slot may hold: what it held, or the end, or an offset at or above the bound
abbrev pub MayHold : ℕ → ℕ → ℕ → Type 0
MayHold bound was now = (now ≡ was) ⊎ ((now ≡ 0) ⊎ (bound ≤ now))

-- The image is the base with DIRTY set, but for free slots, free places and what stands from the
-- committed end on.
pub record IsImageOf (base : List ℕ) (says : Contents) (image : List ℕ) : Type 0 where
  pub header : take 64 image ≡ header_bytes (with_dirty says.header)
  pub long : says.header.current_size ≤ length image
  pub slots : (at : ℕ) → IsAmong (heads says) at → (slot : ℕ) → slot ≡ free_slot_of base says.header.current_size at
      → MayHold says.header.current_size (pointer_in base at slot) (pointer_in image at slot)
  pub others : (i : ℕ) → 64 ≤ i → i < says.header.current_size → IsFixed base says i → slice_index image i ≡ slice_index base i

-- the image is the base, or one that an unfinished transaction or recovery may leave of it
abbrev pub Near : List ℕ → List ℕ → Type 0
Near base image = (image ≡ base) ⊎ ((says : Contents) × Reads base says × IsImageOf base says image)

-- ---- permitted writes

-- the slot ends before the write, begins after it, or is covered by it with a value that it may hold
abbrev pub IsSlotKept : List ℕ → ℕ → ℕ → ℕ → ℕ → List ℕ → Type 0
IsSlotKept base bound head slot at bytes =
    let place = head + 8 + 8 * slot in
    (place + 8 ≤ at)
    ⊎ ((at + length bytes ≤ place)
    ⊎ ((at ≤ place) × (place + 8 ≤ at + length bytes) × MayHold bound (pointer_in base head slot) (u64_in (part bytes (place - at) 8))))

-- A write past the header that changes nothing below the committed end but free places and whole free slots.
pub record IsPermittedWrite (base : List ℕ) (says : Contents) (at : ℕ) (bytes : List ℕ) : Type 0 where
  pub past_header : 64 ≤ at
  pub slots : (head : ℕ) → IsAmong (heads says) head → (slot : ℕ) → slot ≡ free_slot_of base says.header.current_size head
      → IsSlotKept base says.header.current_size head slot at bytes
  pub others : (i : ℕ) → at ≤ i → i < at + length bytes → i < says.header.current_size → IsFixed base says i
      → slice_index bytes (i - at) ≡ slice_index base i
