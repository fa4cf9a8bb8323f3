-- Parts of a file, which is the list of its bytes, and the numbers in them. All numbers are big-endian.
use Rattle.std.specs.Prelude.{ℕ, ◌<◌, List, take, drop, slice_index}
use Rattle.std.specs.Int.{w32, w64, from_be_bytes}

-- each element is a byte
abbrev pub AreBytes : List ℕ → Type 0
AreBytes bytes = (i : ℕ) → slice_index bytes i < 256

-- so many bytes of a file, from an offset on
unfoldable pub part : List ℕ → ℕ → ℕ → List ℕ
part file at count = take count (drop at file)

-- the number of 32 bits in these bytes
unfoldable pub u32_in : List ℕ → ℕ
u32_in bytes = from_be_bytes w32 bytes

-- the number of 64 bits in these bytes
unfoldable pub u64_in : List ℕ → ℕ
u64_in bytes = from_be_bytes w64 bytes
