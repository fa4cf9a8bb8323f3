-- Where a byte ends a field or a line, and the bytes that a field spells.
use Rattle.std.specs.Prelude.{◌≡◌, ◌⊎◌, ℕ, ◌+◌, ◌-◌, ◌<◌, ◌≤◌, List, [], ◌∷◌, length, take, drop, ◌==◌, ◌||◌, Option, Some, None, if◌then◌else◌}
use Rattle.std.specs.Option.{option_map}

-- what stands before the first byte that is this one
unfoldable pub before : ℕ → List ℕ → List ℕ
before end [] = []
before end (byte ∷ bytes) = if byte == end then [] else byte ∷ before end bytes

-- what stands behind it, where there is one
unfoldable pub behind : ℕ → List ℕ → Option (List ℕ)
behind end [] = None
behind end (byte ∷ bytes) = if byte == end then Some bytes else behind end bytes

-- the first byte that is this one stands here
pub record EndsAt (end : ℕ) (bytes : List ℕ) (at : ℕ) : Type 0 where
  pub within : at < length bytes
  pub front : before end bytes ≡ take at bytes
  pub rest : behind end bytes ≡ Some (drop (at + 1) bytes)

-- none is this one
pub record EndsNowhere (end : ℕ) (bytes : List ℕ) : Type 0 where
  pub front : before end bytes ≡ bytes
  pub rest : behind end bytes ≡ None

-- The first line's text is so long, and all of it with its LF so long. Without an LF it is all there is.
pub record IsExtent (bytes : List ℕ) (text size : ℕ) : Type 0 where
  pub ordered : text ≤ size
  pub within : size ≤ length bytes
  pub front : before 10 bytes ≡ take text bytes
  pub ends : ((behind 10 bytes ≡ Some (drop size bytes)) × (size ≡ text + 1)) ⊎ ((behind 10 bytes ≡ None) × (text ≡ length bytes) × (size ≡ length bytes))

-- the byte that FF and this one are written for
abbrev pub byte_of_escape : ℕ → Option ℕ
byte_of_escape second =
    if second == 0xff then Some 0xff
    else (if second == 0x80 || second == 0x89 || second == 0x8a || second == 0x8d then Some (second - 0x80) else None)

abbrev pub with_first : Option ℕ → Option (List ℕ) → Option (List ℕ)
with_first None bytes = None
with_first (Some byte) bytes = option_map (λ (rest : List ℕ). byte ∷ rest) bytes

-- the bytes that a field spells, or none where it has a bad escape
unfoldable pub field_bytes : List ℕ → Option (List ℕ)
field_bytes [] = Some []
field_bytes (byte ∷ []) = if byte == 0xff then None else Some (byte ∷ [])
field_bytes (byte ∷ second ∷ rest) =
    if byte == 0xff then with_first (byte_of_escape second) (field_bytes rest) else with_first (Some byte) (field_bytes (second ∷ rest))
