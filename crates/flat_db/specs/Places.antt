-- Where a key stands, or would stand, among the pairs of a map.
use Rattle.std.specs.Prelude.{◌≡◌, ℕ, ◌+◌, ◌≤◌, List, ◌∷◌, take, drop, length}
use Rattle.std.specs.List.{All}
use Rattle.base_bytes.specs.OrderedMap.{Map, IsBelow, BeginsAbove}

-- those before the place have lower keys, and those behind it do not
pub record IsPlaceOf (key : List ℕ) (m : Map) (place : ℕ) : Type 0 where
  pub within : place ≤ length m
  pub lower : All (λ p. IsBelow p.0 key) (take place m)
  pub others : All (λ p. ¬ IsBelow p.0 key) (drop place m)

-- the key's own pair stands at the place
pub record HasKeyAt (key : List ℕ) (m : Map) (place : ℕ) : Type 0 where
  pub at : IsPlaceOf key m place
  pub value : List ℕ
  pub here : drop place m ≡ (key, value) ∷ drop (place + 1) m

-- the key has no pair, and those behind the place have greater keys
pub record LacksKeyAt (key : List ℕ) (m : Map) (place : ℕ) : Type 0 where
  pub at : IsPlaceOf key m place
  pub above : BeginsAbove key (drop place m)
