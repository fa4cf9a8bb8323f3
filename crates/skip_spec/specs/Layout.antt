-- The fresh layout: the file that a conversion and a repack write, with no dead record.
use Rattle.std.specs.Prelude.{◌%◌, ◌≡◌, ℕ, ◌+◌, ◌-◌, ◌*◌, ◌/◌, ◌^◌, ◌%◌, ◌<◌, ◌≤◌, min, List, [], ◌∷◌, ◌++◌, length, map}
use Rattle.std.specs.List.{AllByRecursion}
use Rattle.std.specs.Int.{w32, trailing_ones}
use Rattle.base_bytes.specs.Fields.{AreBytes}
use Rattle.base_bytes.specs.OrderedMap.{Map, BeginsAbove, IsOrderedMap}
use Rattle.skip_form.specs.declared.header.Header.{Header}
use Rattle.skip_form.specs.declared.head.Kind.TheVariants.{Dummy}
use Rattle.skip_form.specs.Sizes.{record_size}
use Rattle.skip_form.specs.Spelling.{Record, header_bytes, record_bytes}
use Rattle.skip_spec.specs.Chain.{Entry, pairs}
use Rattle.skip_spec.specs.Opens.{Contents, Reads, Tidy}
use Rattle.skip_spec.specs.Appending.{pointers_to, put_record, commit_record}

-- ---- the layout

-- a pair, and the level that its record has
pub record Item : Type 0 where
  pub level : ℕ
  pub key : List ℕ
  pub value : List ℕ

-- live records back to back, from an offset on
abbrev pub laid_out : ℕ → List Item → List Entry
laid_out at [] = []
laid_out at (i ∷ items) =
    record { at = at; level = i.level; key = i.key; value = i.value }
    ∷ laid_out (at + record_size i.level (length i.key) (length i.value)) items

-- their bytes, where each leads to those behind it
abbrev pub put_records : List Entry → List ℕ
put_records [] = []
put_records (e ∷ es) = record_bytes (put_record e es) ++ put_records es

-- the log: the put records, and where there is one, a commit record
abbrev pub fresh_log : List Entry → List ℕ
fresh_log [] = []
fresh_log (e ∷ es) = put_records (e ∷ es) ++ record_bytes (commit_record 336)

-- the dummy before these live records
abbrev pub dummy_record : List Entry → Record
dummy_record es = record { kind = Dummy; level = 31; pointers = pointers_to 31 es; key = []; value = [] }

-- the live records of the layout
abbrev pub fresh_entries : List Item → List Entry
fresh_entries items = laid_out 336 items

-- how many bytes their records take
abbrev pub records_size : List Item → ℕ
records_size [] = 0
records_size (i ∷ items) = record_size i.level (length i.key) (length i.value) + records_size items

-- how many bytes the layout has
abbrev pub fresh_size : List Item → ℕ
fresh_size [] = 336
fresh_size (i ∷ items) = 336 + records_size (i ∷ items) + 24

-- its header, of this generation and with these flags
abbrev pub fresh_header : ℕ → ℕ → List Item → Header
fresh_header generation flags items = record {
  version = 1;
  generation = generation;
  num_records = length (fresh_entries items);
  repack_size = fresh_size items;
  current_size = fresh_size items;
  flags = flags;
}

-- the whole file
unfoldable pub fresh_layout : ℕ → ℕ → List Item → List ℕ
fresh_layout generation flags items =
    header_bytes (fresh_header generation flags items)
    ++ record_bytes (dummy_record (fresh_entries items))
    ++ fresh_log (fresh_entries items)

-- where its records begin: the put records, and where there is one, the commit record
abbrev pub fresh_starts : List Item → List ℕ
fresh_starts [] = []
fresh_starts (i ∷ items) = map (λ e. e.at) (fresh_entries (i ∷ items)) ++ (336 + records_size (i ∷ items)) ∷ []

-- what it says
abbrev pub fresh_contents : ℕ → ℕ → List Item → Contents
fresh_contents generation flags items = record {
  header = fresh_header generation flags items;
  starts = fresh_starts items;
  chain = fresh_entries items;
}

-- ---- pairs and levels

-- the pairs of these
abbrev pub pairs_of : List Item → Map
pairs_of items = map (λ i. (i.key, i.value)) items

-- level, key and value of each live record
abbrev pub items_of : List Entry → List Item
items_of es = map (λ e. record { level = e.level; key = e.key; value = e.value }) es

-- the level that a random word gives
abbrev pub level_for : ℕ → ℕ
level_for word = min (1 + trailing_ones w32 word) 31

-- each pair with the level of its word
abbrev pub with_words : Map → List ℕ → List Item
with_words [] words = []
with_words (p ∷ m) [] = []
with_words (p ∷ m) (word ∷ words) = record { level = level_for word; key = p.0; value = p.1 } ∷ with_words m words

-- a pair that fits a record, and a level that a record may have
pub record IsItem (i : Item) : Type 0 where
  pub low : 1 ≤ i.level
  pub high : i.level ≤ 31
  pub key : AreBytes i.key
  pub value : AreBytes i.value
  pub key_fits : length i.key < 65535
  pub value_fits : length i.value < 4294967295

-- An ordered map of pairs that fit, with a size, a generation and flags that fit the header, and no DIRTY.
pub record FitsLayout (generation flags : ℕ) (items : List Item) : Type 0 where
  pub each : AllByRecursion IsItem items
  pub some_keys : BeginsAbove [] (pairs_of items)
  pub ordered : IsOrderedMap (pairs_of items)
  pub size : fresh_size items < 2 ^ 64
  pub generation_fits : generation < 2 ^ 64
  pub flags_fit : flags < 2 ^ 32
  pub clean : flags % 2 ≡ 0

-- the file is tidy, and says just what the layout says, of just these pairs and levels
pub record IsFresh (generation flags : ℕ) (items : List Item) (file : List ℕ) : Type 0 where
  pub bytes : AreBytes file
  pub size : length file ≡ fresh_size items
  pub reads : Reads file (fresh_contents generation flags items)
  pub tidy : Tidy file (fresh_contents generation flags items)
  pub map : pairs (fresh_entries items) ≡ pairs_of items
  pub levels : items_of (fresh_entries items) ≡ items

-- ---- conversion and repack

-- a pair that fits a record
pub record IsPair (key value : List ℕ) : Type 0 where
  pub key_bytes : AreBytes key
  pub value_bytes : AreBytes value
  pub key_fits : length key < 65535
  pub value_fits : length value < 4294967295

-- the file is the layout of the map, with levels by these words, one for each pair
abbrev pub Converted : Map → List ℕ → List ℕ → Type 0
Converted m words file = (length words ≡ length m) × (file ≡ fresh_layout 1 0 (with_words m words))

-- a generation later; the greatest stays
abbrev pub next_generation : ℕ → ℕ
next_generation generation = min (generation + 1) (2 ^ 64 - 1)

-- the file is the layout of the old one's live records with their levels, a generation later, without DIRTY
abbrev pub Repacked : List ℕ → List ℕ → Type 0
Repacked old file =
    (says : Contents)
    × Reads old says
    × (file ≡ fresh_layout (next_generation says.header.generation) (says.header.flags / 2 * 2) (items_of says.chain))
