-- Walks over the pairs whose key has a prefix.
use Rattle.std.specs.Prelude.{◌≡◌, ℕ, List, [], ◌∷◌, Option, None, Some}
use Rattle.base_bytes.specs.OrderedMap.{Map, IsBelow, IsOrderedMap, with_prefix}
use Rattle.base_bytes.specs.declared.pair.Pair.{Pair}
use Rattle.skip_seek.specs.Searches.{IsLive}
use Rattle.skip_seek.specs.Walks.{Leaves}
use Rattle.skip_seek.specs.declared.prefixed.Walk.{Walk}

-- the first key, if there is one, is not below this one
abbrev pub BeginsFrom : List ℕ → Map → Type 0
BeginsFrom key [] = Unit {0}
BeginsFrom key (p ∷ m) = ¬ IsBelow p.0 key

-- These pairs are left of a walk: those with its prefix among the pairs at its place, which rise from the prefix on.
pub record Remains (walk : Walk) (left : Map) : Type 0 where
  pub live : IsLive walk.image.now.bytes
  pub all : Map
  pub at : Leaves walk.image.now.bytes walk.place all
  pub rise : IsOrderedMap all
  pub begins : BeginsFrom walk.prefix.now all
  pub left_is : with_prefix all walk.prefix.now ≡ left

-- The first of the pairs that were left is given, and the others are left; or none was left, and none is.
abbrev pub Gives : Map → Option Pair → Walk → Type 0
Gives left None new = (left ≡ []) × Remains new []
Gives left (Some pair) new = (rest : Map) × (left ≡ (pair.key.now, pair.value.now) ∷ rest) × Remains new rest
