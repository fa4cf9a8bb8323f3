-- How the header and the records of a twoskip file are spelled. All numbers are big-endian.
use Rattle.std.specs.Prelude.{◌≡◌, ℕ, ◌+◌, ◌-◌, ◌^◌, ◌<◌, ◌≤◌, ◌↔◌, List, ◌∷◌, ◌++◌, length, replicate, codes}
use Rattle.std.specs.List.{AllByRecursion, flat_map}
use Rattle.std.specs.Int.{w16, w32, w64, to_be_bytes}
use Rattle.check_word.specs.CheckWord.{check_word}
use Rattle.skip_form.specs.declared.header.Header.{Header}
use Rattle.skip_form.specs.declared.head.Head.{Head}
use Rattle.skip_form.specs.declared.head.Kind.{Kind}
use Rattle.skip_form.specs.declared.head.Kind.TheVariants.{Dummy, Put, Gone, Commit}
use Rattle.base_bytes.specs.Fields.{part}
use Rattle.skip_form.specs.Sizes.{padded, record_size}

-- ---- the header

-- a twoskip file begins with these twenty bytes
abbrev pub magic : List ℕ
magic = 0xA1 ∷ 0x02 ∷ 0x8B ∷ 0x0D ∷ codes "twoskip file" ++ replicate 4 0

-- what the header's check word stands over
abbrev pub header_front : Header → List ℕ
header_front h =
    magic
    ++ to_be_bytes w32 h.version
    ++ to_be_bytes w64 h.generation
    ++ to_be_bytes w64 h.num_records
    ++ to_be_bytes w64 h.repack_size
    ++ to_be_bytes w64 h.current_size
    ++ to_be_bytes w32 h.flags

-- the 64 bytes of a header
unfoldable pub header_bytes : Header → List ℕ
header_bytes h = header_front h ++ to_be_bytes w32 (check_word (header_front h))

-- a header of the one version, whose fields fit their places
pub record IsHeader (h : Header) : Type 0 where
  pub version : h.version ≡ 1
  pub generation : h.generation < 2 ^ 64
  pub num_records : h.num_records < 2 ^ 64
  pub repack_size : h.repack_size < 2 ^ 64
  pub current_size : h.current_size < 2 ^ 64
  pub flags : h.flags < 2 ^ 32

-- ---- records

-- the byte of a record's type: = dummy, + put, - delete, $ commit
abbrev pub type_byte : Kind → ℕ
type_byte Dummy = 61
type_byte Put = 43
type_byte Gone = 45
type_byte Commit = 36

-- type, level and lengths: the first eight bytes
abbrev pub opening_bytes : Head → List ℕ
opening_bytes h = type_byte h.kind ∷ h.level ∷ to_be_bytes w16 h.key_len ++ to_be_bytes w32 h.value_len

-- what a head check stands over. A length that does not fit its field would stand before the pointers.
abbrev pub head_front : Head → List ℕ → List ℕ
head_front h pointers = opening_bytes h ++ flat_map (to_be_bytes w64) pointers

-- a head: all of a record before its key
unfoldable pub head_bytes : Head → List ℕ → ℕ → List ℕ
head_bytes h pointers tail =
    head_front h pointers
    ++ to_be_bytes w32 (check_word (head_front h pointers))
    ++ to_be_bytes w32 tail

-- what a tail check stands over: key, value, and zeros to a multiple of 8
abbrev pub body_bytes : List ℕ → List ℕ → List ℕ
body_bytes key value =
    key ++ value ++ replicate (padded (length key + length value) - (length key + length value)) 0

pub record Record : Type 0 where
  pub kind : Kind
  pub level : ℕ
  pub pointers : List ℕ
  pub key : List ℕ
  pub value : List ℕ

-- what a record's head says of it
abbrev pub head_of : Record → Head
head_of r = record {
  kind = r.kind;
  level = r.level;
  key_len = length r.key;
  value_len = length r.value;
  size = record_size r.level (length r.key) (length r.value);
}

-- a record: its head, and its key and value
unfoldable pub record_bytes : Record → List ℕ
record_bytes r =
    head_bytes (head_of r) r.pointers (check_word (body_bytes r.key r.value)) ++ body_bytes r.key r.value

-- the levels that a type may have
abbrev pub IsLevelOf : Kind → ℕ → Type 0
IsLevelOf Dummy level = level ≡ 31
IsLevelOf Put level = (1 ≤ level) × (level ≤ 31)
IsLevelOf Gone level = level ≡ 0
IsLevelOf Commit level = level ≡ 0

-- the lengths that a type may have: but for a put there are none, and the greatest that fit mark longer ones
abbrev pub AreLengthsOf : Kind → ℕ → ℕ → Type 0
AreLengthsOf Put key_len value_len = (key_len < 65535) × (value_len < 4294967295)
AreLengthsOf Dummy key_len value_len = (key_len ≡ 0) × (value_len ≡ 0)
AreLengthsOf Gone key_len value_len = (key_len ≡ 0) × (value_len ≡ 0)
AreLengthsOf Commit key_len value_len = (key_len ≡ 0) × (value_len ≡ 0)

-- a head that a record may have
pub record IsHead (h : Head) : Type 0 where
  pub level : IsLevelOf h.kind h.level
  pub lengths : AreLengthsOf h.kind h.key_len h.value_len
  pub size : h.size ≡ record_size h.level h.key_len h.value_len

-- a record that may stand in a file
pub record IsRecord (r : Record) : Type 0 where
  pub head : IsHead (head_of r)
  pub slots : length r.pointers ≡ r.level + 1
  pub pointers : AllByRecursion (λ p. p < 2 ^ 64) r.pointers

-- ---- in a file

-- a record with this head begins at an offset, and ends in the file. Only the dummy stands at 64, and only there.
pub record StandsAt (file : List ℕ) (at : ℕ) (h : Head) : Type 0 where
  pub opening : part file at 8 ≡ opening_bytes h
  pub head : IsHead h
  pub place : (h.kind ≡ Dummy) ↔ (at ≡ 64)
  pub inside : at + h.size ≤ length file
