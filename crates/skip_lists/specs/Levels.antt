-- The upper levels while one record is put in place of another, or taken out.
use Rattle.std.specs.Prelude.{◌≡◌, ℕ, ◌+◌, ◌<◌, ◌≤◌, List, [], ◌∷◌, ◌++◌, slice_index}
use Rattle.skip_form.specs.Fields.{pointer_in}
use Rattle.skip_spec.specs.Chain.{Entry}
use Rattle.skip_spec.specs.Change.{first_at}
use Rattle.skip_spec.specs.Opens.{Links, on_level}
use Rattle.skip_spec.specs.Live.{Listed}
use Rattle.skip_spec.specs.Place.{Place, AreLast, last_on}

-- ---- parts of a level

-- from the record at an offset on, the pointers of a level lead up to the last of these records
abbrev pub LinksTo : List ℕ → ℕ → ℕ → List Entry → Type 0
LinksTo file level at [] = Unit {0}
LinksTo file level at (e ∷ es) = (pointer_in file at (level + 1) ≡ e.at) × LinksTo file level e.at es

-- from the first of these records on the pointers of a level lead through them, and then end
abbrev pub LinksOn : List ℕ → ℕ → List Entry → Type 0
LinksOn file level [] = Unit {0}
LinksOn file level (e ∷ es) = Links file level e.at es

-- ---- a change under way

-- A level is linked but for the pointer from the front on, which still leads past the front as before.
pub record Pending (file : List ℕ) (front dropped added rest : List Entry) (level : ℕ) : Type 0 where
  pub front_links : LinksTo file level 64 (on_level level front)
  pub last : pointer_in file (last_on level front) (level + 1) ≡ first_at (on_level level (dropped ++ rest))
  pub rest_links : LinksOn file level (on_level level (added ++ rest))

-- In place of some records others are listed; the levels below one link the new list, and the others are pending.
pub record Relinking (file starts : List ℕ) (front dropped added rest : List Entry) (done : ℕ) : Type 0 where
  pub listed : Listed file starts (front ++ (added ++ rest))
  pub linked : (level : ℕ) → 1 ≤ level → level < done → level ≤ 30 → Links file level 64 (on_level level (front ++ (added ++ rest)))
  pub pending : (level : ℕ) → done ≤ level → level ≤ 30 → Pending file front dropped added rest level

-- ---- what the code holds

-- On each level the head to change, and, by slots, where it is to lead.
pub record Leads (before leads : List ℕ) (front added rest : List Entry) (height : ℕ) : Type 0 where
  pub last : AreLast before front
  pub to : (level : ℕ) → 1 ≤ level → level < height → slice_index leads (level + 1) ≡ first_at (on_level level (added ++ rest))

-- What a search found: on each level the last record before the key's place, the record of the key or 0, and the
-- first record after it or 0.
pub record IsSpot (es : List Entry) (key before : List ℕ) (same_at next : ℕ) : Type 0 where
  pub place : Place es key
  pub last : AreLast before place.front
  pub same_is : same_at ≡ first_at place.dropped
  pub next_is : next ≡ first_at place.rest

-- By slots, the first record after the place on each level below a height; slot 1 is 0.
pub record ArePast (pointers : List ℕ) (rest : List Entry) (height : ℕ) : Type 0 where
  pub zero_is : slice_index pointers 0 ≡ first_at rest
  pub one_is : slice_index pointers 1 ≡ 0
  pub upper : (level : ℕ) → 1 ≤ level → level < height → slice_index pointers (level + 1) ≡ first_at (on_level level rest)
