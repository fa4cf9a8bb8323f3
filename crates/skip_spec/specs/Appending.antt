-- What a store, a delete and a commit append, and what they leave of the bytes before.
use Rattle.std.specs.Prelude.{◌≡◌, ◌≢◌, ℕ, zero, suc, ◌+◌, ◌-◌, ◌*◌, ◌/◌, ◌<◌, ◌≤◌, List, [], ◌∷◌, ◌++◌, length, take, drop, slice_index, max}
use Rattle.skip_form.specs.declared.header.Header.{Header}
use Rattle.skip_form.specs.declared.head.Kind.{Kind}
use Rattle.skip_form.specs.declared.head.Kind.TheVariants.{Put, Gone, Commit}
use Rattle.skip_form.specs.Spelling.{Record, IsHeader, header_bytes, record_bytes}
use Rattle.skip_spec.specs.Rows.{IsAmong}
use Rattle.skip_spec.specs.Chain.{Entry}
use Rattle.skip_spec.specs.Change.{first_at, heads_of, IsOutsideLinks}
use Rattle.skip_spec.specs.Opens.{on_level, with_dirty}
use Rattle.skip_spec.specs.Live.{Live}
use Rattle.skip_spec.specs.Place.{Place}

-- ---- the records

-- the pointers of so many levels from this one on, each to the first of these records on the level, or 0
abbrev pub upper_pointers : ℕ → ℕ → List Entry → List ℕ
upper_pointers level zero rest = []
upper_pointers level (suc count) rest = first_at (on_level level rest) ∷ upper_pointers (suc level) count rest

-- the pointers of a record of this level before these records: the two of level zero, and the upper ones
abbrev pub pointers_to : ℕ → List Entry → List ℕ
pointers_to level rest = first_at rest ∷ 0 ∷ upper_pointers 1 (level - 1) rest

-- a record of this type, level, pointers, key and value
abbrev pub record_of : Kind → ℕ → List ℕ → List ℕ → List ℕ → Record
record_of kind level pointers key value = record { kind = kind; level = level; pointers = pointers; key = key; value = value }

-- a put record, before these live ones
abbrev pub put_record : Entry → List Entry → Record
put_record e rest = record { kind = Put; level = e.level; pointers = pointers_to e.level rest; key = e.key; value = e.value }

-- a delete record, of a record before these live ones
abbrev pub delete_record : List Entry → Record
delete_record rest = record { kind = Gone; level = 0; pointers = first_at rest ∷ []; key = []; value = [] }

-- the commit record of a transaction whose records begin here
abbrev pub commit_record : ℕ → Record
commit_record start = record { kind = Commit; level = 0; pointers = start ∷ []; key = []; value = [] }

-- ---- a change

-- Past the header only links of the dummy and of these live records changed, and bytes were appended.
pub record ChangesLinks (es : List Entry) (old new : List ℕ) : Type 0 where
  pub grows : length old ≤ length new
  pub others : (i : ℕ) → 64 ≤ i → i < length old
      → ((at : ℕ) → IsAmong (heads_of es) at → IsOutsideLinks old at i)
      → slice_index new i ≡ slice_index old i

-- One record was appended. Before it only links of the dummy and of these live records changed, and the header has
-- DIRTY.
pub record Appends (r : Record) (es : List Entry) (old new : List ℕ) : Type 0 where
  pub added : drop (length old) new ≡ record_bytes r
  pub links : ChangesLinks es old new
  pub header : (h : Header) → IsHeader h → take 64 old ≡ header_bytes h → take 64 new ≡ header_bytes (with_dirty h)

-- a live record that was put at an offset
abbrev pub put_entry : ℕ → ℕ → List ℕ → List ℕ → Entry
put_entry at level key value = record { at = at; level = level; key = key; value = value }

-- A put record of this level, key and value was appended. The list is as it was but for this record.
abbrev pub Stores : ℕ → List ℕ → List ℕ → List ℕ → List ℕ → Type 0
Stores level key value old new =
    (starts : List ℕ) (es : List Entry)
    → Live old starts es
    → (place : Place es key)
    → let e : Entry = put_entry (length old) level key value in
    Appends (put_record e place.rest) es old new × Live new (starts ++ length old ∷ []) (place.front ++ e ∷ place.rest)

-- A delete record was appended, where the key is there. The list is as it was but for the record of the key.
abbrev pub Deletes : List ℕ → List ℕ → List ℕ → Type 0
Deletes key old new =
    (starts : List ℕ) (es : List Entry)
    → Live old starts es
    → (place : Place es key)
    → place.dropped ≢ []
    → Appends (delete_record place.rest) es old new × Live new (starts ++ length old ∷ []) (place.front ++ place.rest)

-- ---- a commit

-- the header with so many live records and this committed end, without DIRTY
abbrev pub committed_header : Header → ℕ → ℕ → Header
committed_header h end count = record h { num_records = count; current_size = end; flags = h.flags / 2 * 2 }

-- a commit record was appended, and the header commits
abbrev pub Commits : List ℕ → List ℕ → Type 0
Commits old new =
    (h : Header) (starts : List ℕ) (es : List Entry)
    → IsHeader h
    → take 64 old ≡ header_bytes h
    → Live old starts es
    → new ≡ header_bytes (committed_header h (length old + 24) (length es)) ++ drop 64 old ++ record_bytes (commit_record h.current_size)

-- ---- how many bytes may be written

-- by a store: the record, a head for each level of it or of the record that it replaces, and the header
abbrev pub store_writes : ℕ → ℕ → ℕ → ℕ
store_writes size level replaced = size + 272 * max level replaced + 64

-- by a delete of a record of this level: the delete record, a head for each level, and the header
abbrev pub delete_writes : ℕ → ℕ
delete_writes level = 24 + 272 * level + 64

-- by a commit: the commit record and the header
abbrev pub commit_writes : ℕ
commit_writes = 24 + 64
