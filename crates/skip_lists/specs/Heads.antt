-- One pointer of one head is set: the step of which stores, deletes and repair are made.
use Rattle.std.specs.Prelude.{◌≡◌, ◌⊎◌, ℕ, ◌+◌, ◌-◌, ◌*◌, ◌<◌, ◌≤◌, List, length, slice_index}
use Rattle.std.specs.Int.{w64, to_be_bytes}
use Rattle.base_bytes.specs.Fields.{part}
use Rattle.skip_form.specs.Fields.{pointer_in}
use Rattle.skip_form.specs.Flaws.{head_in}
use Rattle.skip_spec.specs.Records.{HeadCheckIsRight, head_size_of}
use Rattle.skip_spec.specs.Rows.{IsAmong}
use Rattle.skip_spec.specs.Opens.{Contents}
use Rattle.skip_spec.specs.Near.{heads, free_slot_of, MayHold}

-- a record with upper levels, the dummy or a put record, stands at the offset, and ends in the file
pub record HasSlots (file : List ℕ) (at : ℕ) : Type 0 where
  pub low : 1 ≤ (head_in file at).level
  pub high : (head_in file at).level ≤ 31
  pub inside : at + (head_in file at).size ≤ length file

-- In the new file one pointer of the record at an offset leads elsewhere, or is written again, and its head check
-- is right; all other bytes of the old file stay. Bytes may have been appended.
pub record SetsPointer (old new : List ℕ) (at slot to : ℕ) : Type 0 where
  pub long : length old ≤ length new
  pub others : (i : ℕ) → i < length old
      → (i < at + 8 + 8 * slot) ⊎ (at + 8 + 8 * slot + 8 ≤ i)
      → (i < at + (head_size_of (head_in old at) - 8)) ⊎ (at + (head_size_of (head_in old at) - 4) ≤ i)
      → slice_index new i ≡ slice_index old i
  pub spelled : part new (at + 8 + 8 * slot) 8 ≡ to_be_bytes w64 to
  pub pointer : pointer_in new at slot ≡ to
  pub check : HeadCheckIsRight new at

-- Which pointer of an image's head may be set, and to what. Past the committed end, any. Below it, one of a head
-- of the base: an upper one; or the free one, to what it may hold; or any, to what stands there.
pub record MaySet (base : List ℕ) (says : Contents) (image : List ℕ) (at slot to : ℕ) : Type 0 where
  pub inside : slot ≤ (head_in image at).level
  pub known : at < says.header.current_size → IsAmong (heads says) at
  pub which : at < says.header.current_size
      → (2 ≤ slot)
      ⊎ (((slot ≡ free_slot_of base says.header.current_size at) × MayHold says.header.current_size (pointer_in base at slot) to)
      ⊎ (part image (at + 8 + 8 * slot) 8 ≡ to_be_bytes w64 to))
