-- Fields of a file that only this format has. All numbers are big-endian.
use Rattle.std.specs.Prelude.{ℕ, ◌+◌, ◌*◌, List}
use Rattle.std.specs.Int.{w16, from_be_bytes}
use Rattle.base_bytes.specs.Fields.{part, u64_in}

-- the number of 16 bits in these bytes
unfoldable pub u16_in : List ℕ → ℕ
u16_in bytes = from_be_bytes w16 bytes

-- the pointer with this number of the record at an offset
abbrev pub pointer_in : List ℕ → ℕ → ℕ → ℕ
pointer_in file at slot = u64_in (part file (at + 8 + 8 * slot) 8)
