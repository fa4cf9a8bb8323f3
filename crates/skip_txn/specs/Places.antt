-- What a search found, as the spot of a change.
use Rattle.std.specs.Prelude.{◌≡◌, ℕ, true, false, List, length, if◌then◌else◌}
use Rattle.skip_spec.specs.Place.{IsFound}
use Rattle.skip_spec.specs.Successor.{successor_under}
use Rattle.skip_seek.specs.Searches.{live_of}
use Rattle.skip_seek.specs.declared.search.Found.{Found}

-- the search found this among the live records
abbrev pub IsFoundAt : List ℕ → List ℕ → Found → Type 0
IsFoundAt bytes key found = IsFound (live_of bytes) key found.here found.before found.exact

-- the record of the key, or 0
abbrev pub same_of : Found → ℕ
same_of found = if found.exact then found.here else 0

-- the first record past the key, or 0
pub record IsNextOf (bytes : List ℕ) (found : Found) (next : ℕ) : Type 0 where
  pub past : found.exact ≡ true → next ≡ successor_under bytes (length bytes) found.here
  pub here : found.exact ≡ false → next ≡ found.here
