-- Where a key stands among live records, or would stand, and what a search for it finds.
use Rattle.std.specs.Prelude.{◌≡◌, ◌≢◌, ◌⊎◌, ◌↔◌, ℕ, ◌≤◌, List, [], ◌∷◌, ◌++◌, Bool, IsTrue, Option, Some, None, slice_index}
use Rattle.std.specs.List.{AllByRecursion}
use Rattle.base_bytes.specs.OrderedMap.{IsBelow, BeginsAbove}
use Rattle.skip_spec.specs.Chain.{Entry, pairs}
use Rattle.skip_spec.specs.Change.{first_at, last_at}
use Rattle.skip_spec.specs.Opens.{on_level}

-- A key stands after the records of the front, which are below it, and before those of the rest, which are above
-- it; between them is none, or the one record of this key.
pub record Place (es : List Entry) (key : List ℕ) : Type 0 where
  pub front : List Entry
  pub dropped : List Entry
  pub rest : List Entry
  pub split : es ≡ front ++ (dropped ++ rest)
  pub below : AllByRecursion (λ e. IsBelow e.key key) front
  pub above : BeginsAbove key (pairs rest)
  pub same_key : (dropped ≡ []) ⊎ ((e : Entry) × (dropped ≡ e ∷ []) × (e.key ≡ key))

-- the last of these records on a level, or the dummy
abbrev pub last_on : ℕ → List Entry → ℕ
last_on level es = last_at 64 (on_level level es)

-- by levels, the last of these records on each
abbrev pub AreLast : List ℕ → List Entry → Type 0
AreLast before es = (level : ℕ) → level ≤ 30 → slice_index before level ≡ last_on level es

-- the level of the first of these records, or 0
abbrev pub height : List Entry → ℕ
height [] = 0
height (e ∷ es) = e.level

-- the value of the first of these records
abbrev pub first_value : List Entry → Option (List ℕ)
first_value [] = None
first_value (e ∷ es) = Some e.value

-- the pair of the first of these records
abbrev pub first_pair : List Entry → Option (List ℕ × List ℕ)
first_pair [] = None
first_pair (e ∷ es) = Some (e.key, e.value)

-- What a search for a key finds: the first record not below it or 0, on each level the last record below it, and
-- whether the first has this very key.
pub record IsFound (es : List Entry) (key : List ℕ) (here : ℕ) (before : List ℕ) (exact : Bool) : Type 0 where
  pub place : Place es key
  pub first : here ≡ first_at (place.dropped ++ place.rest)
  pub last : AreLast before place.front
  pub has_key : IsTrue exact ↔ (place.dropped ≢ [])
