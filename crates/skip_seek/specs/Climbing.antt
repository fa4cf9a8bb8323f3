-- Where a search stands among the records before the key's place, and what it has still to read.
use Rattle.std.specs.Prelude.{◌≡◌, ℕ, zero, suc, ◌+◌, ◌-◌, ◌*◌, ◌<◌, ◌≤◌, List, ◌++◌, slice_index, Bool, if◌then◌else◌}
use Rattle.std.specs.Ordering.{is_lt}
use Rattle.base_bytes.specs.OrderedMap.{key_order}
use Rattle.skip_spec.specs.Chain.{Entry}
use Rattle.skip_spec.specs.Change.{first_at}
use Rattle.skip_spec.specs.Place.{Place, last_on}
use Rattle.skip_spec.specs.SearchBound.{count_above, after_last}
use Rattle.skip_seek.specs.Searches.{levels_of}

-- What is left of a search on a level and those below it, where these are the levels of the records still to come
-- before the key.
abbrev pub left : ℕ → List ℕ → ℕ
left zero rest = 2 * (count_above 0 rest + 1)
left (suc i) rest = count_above (suc i) rest + 1 + left i (after_last (suc i) rest)

-- The search stands at a record among those before the place, and it is the last one so far on this level and on
-- each below it; so many steps are due.
pub record Standing (ahead : List Entry) (level at due : ℕ) : Type 0 where
  pub front : List Entry
  pub mid : List Entry
  pub parts : ahead ≡ front ++ mid
  pub last : (lower : ℕ) → lower ≤ level → at ≡ last_on lower front
  pub cost : due ≡ left level (levels_of mid)

-- it stands there, and the steps that are due are left of those that it may take
pub record StandsWithin (ahead : List Entry) (level at spent allowed : ℕ) : Type 0 where
  pub due : ℕ
  pub standing : Standing ahead level at due
  pub within : spent + due ≤ allowed

-- The search is done with a level: it stands at the last record on it before the place.
pub record Arrives (ahead : List Entry) (level at spent allowed : ℕ) : Type 0 where
  pub last : at ≡ last_on level ahead
  pub stands : StandsWithin ahead (level - 1) at spent allowed

-- on each level above one, the last record before the place
abbrev pub AreLastAbove : ℕ → List ℕ → List Entry → Type 0
AreLastAbove level before ahead = (upper : ℕ) → level < upper → upper ≤ 30 → slice_index before upper ≡ last_on upper ahead

-- The search is done: it stands at the last record before the place, and this one comes next.
pub record Reaches {es : List Entry} {key : List ℕ} (place : Place es key) (last next spent allowed : ℕ) : Type 0 where
  pub last_is : last ≡ last_on 0 place.front
  pub next_is : next ≡ first_at (place.dropped ++ place.rest)
  pub within : spent ≤ allowed

-- one key comes before another
abbrev pub comes_before : List ℕ → List ℕ → Bool
comes_before key other = is_lt (key_order key other)

-- how many numbers below n pass a test
abbrev pub tally : (ℕ → Bool) → ℕ → ℕ
tally test zero = 0
tally test (suc n) = (if test n then 1 else 0) + tally test n
