-- A database's contents: pairs of a key and a value, by strictly rising key.
use Rattle.std.specs.Prelude.{◌≡◌, ◌≢◌, ℕ, not, List, [], ◌∷◌, Option, filter, nat_eq}
use Rattle.std.specs.declared.cmp.Ordering.{Ordering}
use Rattle.std.specs.declared.cmp.Ordering.TheVariants.{Less}
use Rattle.std.specs.Ordering.{nat_cmp, is_lt}
use Rattle.std.specs.Cmp.Lexicographic.{slice_cmp}
use Rattle.std.specs.List.{All, find, starts_with}
use Rattle.std.specs.Map.{lookup, remove_entry}
use Rattle.std.specs.BTreeMap.{insert_entry, is_at}

-- the order of keys: by their bytes, a proper prefix first
abbrev pub key_order : List ℕ → List ℕ → Ordering
key_order = slice_cmp nat_cmp

abbrev pub IsBelow : List ℕ → List ℕ → Type 0
IsBelow a b = key_order a b ≡ Less

abbrev pub Map : Type 0
Map = List (List ℕ × List ℕ)

-- the first key, if there is one, is above this one
abbrev pub BeginsAbove : List ℕ → Map → Type 0
BeginsAbove key [] = Unit {0}
BeginsAbove key (p ∷ m) = IsBelow key p.0

-- the keys rise strictly
abbrev pub IsOrderedMap : Map → Type 0
IsOrderedMap [] = Unit {0}
IsOrderedMap (p ∷ m) = BeginsAbove p.0 m × IsOrderedMap m

-- the map of a database: its keys rise strictly, and none is empty
pub record IsDbMap (m : Map) : Type 0 where
  pub ordered : IsOrderedMap m
  pub some : All (λ p. p.0 ≢ []) m

-- ---- what is read

-- the value at a key
unfoldable pub value_at : Map → List ℕ → Option (List ℕ)
value_at m key = lookup (is_at (key_order key)) m

-- the first pair whose key is not below this one, and the first whose key is above it
abbrev pub first_from : Map → List ℕ → Option (List ℕ × List ℕ)
first_from m key = find (λ p. not (is_lt (key_order p.0 key))) m

abbrev pub first_above : Map → List ℕ → Option (List ℕ × List ℕ)
first_above m key = find (λ p. is_lt (key_order key p.0)) m

-- the pairs whose key is not below this one
unfoldable pub pairs_from : Map → List ℕ → Map
pairs_from m key = filter (λ p. not (is_lt (key_order p.0 key))) m

-- the pairs whose key begins with the prefix
unfoldable pub with_prefix : Map → List ℕ → Map
with_prefix m prefix = filter (λ p. starts_with nat_eq p.0 prefix) m

-- ---- what is changed

-- the map with this value at this key, and all else as it was
unfoldable pub put : Map → List ℕ → List ℕ → Map
put m key value = insert_entry key_order m key value

-- the map without this key, and all else as it was
unfoldable pub without : Map → List ℕ → Map
without m key = remove_entry (is_at (key_order key)) m
