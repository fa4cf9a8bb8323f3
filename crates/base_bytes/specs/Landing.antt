-- What a stop may make of a write or a cut that is not synced. A line is 64 bytes at a multiple of 64.
use Rattle.std.specs.Prelude.{◌≡◌, ◌⊎◌, ℕ, ◌+◌, ◌*◌, ◌<◌, ◌≤◌, max, min, List, ◌++◌, length, take, drop, slice_index}

-- the file with these bytes at this offset, which is in it or at its end
abbrev pub written_at : ℕ → List ℕ → List ℕ → List ℕ
written_at at bytes old = take at old ++ bytes ++ drop (at + length bytes) old

-- on the line with this number, as far as there are so many bytes, the image is as the other file
abbrev pub SameLine : ℕ → ℕ → List ℕ → List ℕ → Type 0
SameLine line end file image = (i : ℕ) → 64 * line ≤ i → i < 64 * line + 64 → i < end → slice_index image i ≡ slice_index file i

-- An image of a file in which bytes are written at an offset, also past its end. Below the old end each line is
-- as it was or as it is written, whole; past it any bytes stand, up to the end of the write.
pub record Lands (old : List ℕ) (at : ℕ) (bytes image : List ℕ) : Type 0 where
  pub no_shorter : length old ≤ length image
  pub no_longer : length image ≤ max (length old) (at + length bytes)
  pub lines : (line : ℕ) → SameLine line (length old) old image ⊎ SameLine line (length old) (written_at at bytes old) image

-- An image of a file that is cut to a length: some first bytes, so many at least. A file that is no longer stays.
pub record Shortens (old : List ℕ) (to : ℕ) (image : List ℕ) : Type 0 where
  pub front : take (length image) old ≡ image
  pub no_shorter : min to (length old) ≤ length image
