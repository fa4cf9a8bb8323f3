-- What can be wrong with a header, and with a record's head, in the order in which it is looked at.
use Rattle.std.specs.Prelude.{ℕ, ◌+◌, ◌==◌, Bool, not, ◌&&◌, ◌||◌, List, length, Option, Some, None, nat_lt, nat_le, nat_eq, if◌then◌else◌, slice_index}
use Rattle.std.specs.Cmp.Lexicographic.{pointwise}
use Rattle.check_word.specs.CheckWord.{check_word}
use Rattle.base_bytes.specs.declared.flaw.Flaw.{Flaw}
use Rattle.base_bytes.specs.declared.flaw.Flaw.TheVariants.{Short, Magic, Version, Check, Kind, Level, Extended}
use Rattle.skip_form.specs.declared.header.Header.{Header}
use Rattle.skip_form.specs.declared.head.Head.{Head}
use Rattle.skip_form.specs.declared.head.Kind as kinds
use Rattle.skip_form.specs.declared.head.Kind.TheVariants.{Dummy, Put, Gone, Commit}
use Rattle.skip_form.specs.declared.opening.Opening.{Opening}
use Rattle.base_bytes.specs.Fields.{part, u32_in, u64_in}
use Rattle.skip_form.specs.Fields.{u16_in}
use Rattle.skip_form.specs.Sizes.{record_size}
use Rattle.skip_form.specs.Spelling.{magic}

-- ---- the header

-- the first flaw of a file's header
abbrev pub header_flaw : List ℕ → Option Flaw
header_flaw file =
    if nat_lt (length file) 64 then Some Short
    else if not (pointwise nat_eq (part file 0 20) magic) then Some Magic
    else if not (u32_in (part file 20 4) == 1) then Some Version
    else if not (u32_in (part file 60 4) == check_word (part file 0 60)) then Some Check
    else None

-- the fields that stand in a file's first 64 bytes
abbrev pub header_in : List ℕ → Header
header_in file = record {
  version = u32_in (part file 20 4);
  generation = u64_in (part file 24 8);
  num_records = u64_in (part file 32 8);
  repack_size = u64_in (part file 40 8);
  current_size = u64_in (part file 48 8);
  flags = u32_in (part file 56 4);
}

-- ---- the head of a record

-- the fields that stand in the first eight bytes of the record at an offset
abbrev pub opening_in : List ℕ → ℕ → Opening
opening_in file at = record {
  type_byte = slice_index file at;
  level = slice_index file (at + 1);
  key_len = u16_in (part file (at + 2) 2);
  value_len = u32_in (part file (at + 4) 4);
}

-- neither key nor value
abbrev pub is_bare : Opening → Bool
is_bare o = o.key_len == 0 && o.value_len == 0

-- a type that may stand at the offset: = at 64, and else +, - or $; only + has a key and a value
abbrev pub is_kind_at : ℕ → Opening → Bool
is_kind_at at o =
    if at == 64 then o.type_byte == 61 && is_bare o
    else o.type_byte == 43 || ((o.type_byte == 45 || o.type_byte == 36) && is_bare o)

-- a level that the type may have
abbrev pub is_level : Opening → Bool
is_level o =
    if o.type_byte == 61 then o.level == 31
    else if o.type_byte == 43 then nat_le 1 o.level && nat_le o.level 31
    else o.level == 0

-- a length that is the mark of a longer one
abbrev pub is_extended : Opening → Bool
is_extended o = o.key_len == 65535 || o.value_len == 4294967295

-- the first flaw of the head at an offset
abbrev pub head_flaw : List ℕ → ℕ → Option Flaw
head_flaw file at = let o = opening_in file at in
    if nat_lt (length file) (at + 8) then Some Short
    else if not (is_kind_at at o) then Some Kind
    else if not (is_level o) then Some Level
    else if is_extended o then Some Extended
    else if nat_lt (length file) (at + record_size o.level o.key_len o.value_len) then Some Short
    else None

-- the type of a byte that is one of the four
abbrev pub kind_of : ℕ → kinds.Kind
kind_of byte = if byte == 61 then Dummy else if byte == 43 then Put else if byte == 45 then Gone else Commit

-- the head that stands at an offset
abbrev pub head_in : List ℕ → ℕ → Head
head_in file at = let o = opening_in file at in record {
  kind = kind_of o.type_byte;
  level = o.level;
  key_len = o.key_len;
  value_len = o.value_len;
  size = record_size o.level o.key_len o.value_len;
}
