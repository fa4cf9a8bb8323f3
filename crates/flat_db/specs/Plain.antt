-- What is written as it stands.
use Rattle.std.specs.Prelude.{◌≡◌, ◌≢◌, ℕ, ◌<◌, ◌≤◌, List, [], ◌∷◌, ◌++◌, length, drop, slice_index}
use Rattle.memchr.specs.Find.{Nowhere, Passes, is_byte, is_byte3}
use Rattle.base_bytes.specs.Escapes.{escaped, escaped_byte}
use Rattle.flat_db.specs.FlatText.{pair_line}
use Rattle.flat_db.specs.Entries.{EndsBy, part_of}
use Rattle.flat_db.specs.declared.lines.Line.{Line}

-- each byte of a field is written as it is
abbrev pub Stands : List ℕ → Type 0
Stands field = (i : ℕ) → i < length field → escaped_byte (slice_index field i) ≡ slice_index field i ∷ []

-- between two offsets no byte but TAB and LF begins an escape, or is written by one
abbrev pub IsPlain : List ℕ → ℕ → ℕ → Type 0
IsPlain text from to = Nowhere (Passes (is_byte3 0xff 0 13) text) from to

-- between two offsets no escape begins
abbrev pub IsUnescaped : List ℕ → ℕ → ℕ → Type 0
IsUnescaped text from to = Nowhere (Passes (is_byte 0xff) text) from to

-- The text has at this offset the line that is written for the entry's pair, and its key is not empty.
pub record HasWritten (text : List ℕ) (at : ℕ) (line : Line) : Type 0 where
  pub within : line.next ≤ length text
  pub some : part_of text line.entry.key ≢ []
  pub written : drop at text ≡ pair_line (part_of text line.entry.key) (part_of text line.entry.value) ++ drop line.next text
  pub ends : EndsBy line.next line.entry
  -- and its fields are written as they are
  pub key_stands : escaped (part_of text line.entry.key) ≡ part_of text line.entry.key
  pub value_stands : escaped (part_of text line.entry.value) ≡ part_of text line.entry.value
