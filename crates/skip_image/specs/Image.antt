-- A file in memory, as who holds its image sees it.
use Rattle.std.specs.Prelude.{◌≡◌, ◌⊎◌, ℕ, ◌+◌, ◌-◌, ◌==◌, ◌&&◌, not, if◌then◌else◌, List, ◌++◌, take, Option}
use Rattle.std.specs.Option.{option_map}
use Rattle.base_devices.specs.CrashImages.{Fresh}
use Rattle.base_devices.specs.DiskCalls.{fresh_bytes}
use Rattle.base_bytes.specs.Fields.{part, u32_in}
use Rattle.skip_form.specs.declared.header.Header.{Header}
use Rattle.skip_form.specs.declared.head.Kind.TheVariants.{Gone}
use Rattle.skip_form.specs.Flaws.{head_in}
use Rattle.skip_form.specs.Spelling.{StandsAt, IsHeader, header_bytes}
use Rattle.skip_spec.specs.Records.{head_size_of}
use Rattle.skip_spec.specs.Successor.{pointer_under, is_of}
use Rattle.skip_lists.specs.Heads.{HasSlots}

-- the bytes of the file, and the room for further ones
pub record ImageView : Type 0 where
  pub bytes : List ℕ
  pub spare : ℕ

-- the longest file that an image holds, which is the longest twoskip file
abbrev pub image_limit : ℕ
image_limit = 268435456

-- a whole record stands at the offset
abbrev pub HasRecord : List ℕ → ℕ → Type 0
HasRecord bytes at = StandsAt bytes at (head_in bytes at)

-- a header stands in the first 64 bytes
abbrev pub HasHeader : List ℕ → Type 0
HasHeader bytes = (h : Header) × IsHeader h × (take 64 bytes ≡ header_bytes h)

-- the tail check that stands in the record at an offset
abbrev pub tail_in : List ℕ → ℕ → ℕ
tail_in bytes at = u32_in (part bytes (at + (head_size_of (head_in bytes at) - 4)) 4)

-- the level-zero pointer under a bound of the record at an offset leads to a record, or to the end
pub record CanStep (bytes : List ℕ) (bound at : ℕ) : Type 0 where
  pub slots : HasSlots bytes at
  pub leads : (pointer_under bytes bound at ≡ 0) ⊎ HasRecord bytes (pointer_under bytes bound at)

-- how many records are looked at on the way to the next live one: this one, and a delete record that is passed
abbrev pub step_cost : List ℕ → ℕ → ℕ → ℕ
step_cost bytes bound at =
    let pointer = pointer_under bytes bound at in
    if not (pointer == 0) && is_of bytes pointer Gone then 2 else 1

-- these bytes were added to a new file
abbrev pub Adds : List ℕ → Option Fresh → Option Fresh → Type 0
Adds bytes old new = fresh_bytes new ≡ option_map (λ (front : List ℕ). front ++ bytes) (fresh_bytes old)
