-- Walks over the live records, from one to the next.
use Rattle.std.specs.Prelude.{◌≡◌, ℕ, List, [], ◌∷◌, ◌++◌, Option, None, Some}
use Rattle.base_bytes.specs.OrderedMap.{Map}
use Rattle.skip_spec.specs.Chain.{Entry, pairs}
use Rattle.skip_spec.specs.Change.{first_at}
use Rattle.skip_seek.specs.Searches.{live_of}
use Rattle.skip_seek.specs.declared.cursor.Passed.{Passed}

-- the last of the live records are these, and the first of them stands at the offset, or none is left and it is 0
pub record IsFrom (bytes : List ℕ) (at : ℕ) (es : List Entry) : Type 0 where
  pub passed : List Entry
  pub parts : live_of bytes ≡ passed ++ es
  pub first : at ≡ first_at es

-- at this place of a walk these pairs of the map are left
pub record Leaves (bytes : List ℕ) (at : ℕ) (left : Map) : Type 0 where
  pub records : List Entry
  pub from : IsFrom bytes at records
  pub pairs_are : pairs records ≡ left

-- Of the pairs that were left the first one is handed out, with the place of the others; or none was left.
abbrev pub StepsOver : List ℕ → Map → Option Passed → Type 0
StepsOver bytes left None = left ≡ []
StepsOver bytes left (Some p) = (rest : Map) × (left ≡ (p.pair.key.now, p.pair.value.now) ∷ rest) × Leaves bytes p.next rest
