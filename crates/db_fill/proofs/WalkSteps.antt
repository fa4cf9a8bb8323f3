-- A walk over all pairs of a map, from one to the next.
use Rattle.std.proofs.Common.{◌≡◌, ℕ, ◌+◌, ◌<◌, ◌≤◌, List, [], ◌∷◌, ◌++◌, length, get_or, take, drop, refl, sym, ap, ◌∙◌, append_assoc, arith}
use Rattle.std.proofs.lemmas.List.{append-nil}
use Rattle.base_bytes.specs.OrderedMap.{Map, IsBelow, pairs_from}
use Rattle.base_bytes.proofs.OrderedMaps.{pairs_from_place}

-- no key is below that of no byte
none_below : (key : List ℕ) → ¬ IsBelow key []
none_below [] below = absurd (cc below)
none_below (byte ∷ key) below = absurd (cc below)

-- so a walk from there goes over all pairs
pub from_first : (m : Map) → pairs_from m [] ≡ m
from_first m = pairs_from_place m [] 0 (omega arith) (λ k d below. absurd (omega (arith, below))) (λ k d below. none_below (get_or m k d).0)

-- The pairs so far, and those that are left.
pub record Walks (m done left : Map) : Type 0 where
  pub all : m ≡ done ++ left

pub walks_from : (m : Map) → Walks m [] (pairs_from m [])
walks_from m = record { all = sym (from_first m) }

pub walks_on : (m done left rest : Map) (p : List ℕ × List ℕ) → Walks m done left → left ≡ p ∷ rest → Walks m (done ++ p ∷ []) rest
walks_on m done left rest p walks is = record { all = walks.all ∙ ap (λ (l : Map). done ++ l) is ∙ sym (append_assoc done (p ∷ []) rest) }

-- at its end these are all
pub walks_out : (m done left : Map) → Walks m done left → left ≡ [] → done ≡ m
walks_out m done left walks is = sym (walks.all ∙ ap (λ (l : Map). done ++ l) is ∙ append-nil done)

pub none_left : (m left : Map) (n total : ℕ) → length left + n ≤ total → total ≤ n → left ≡ []
none_left m [] n total few all = refl
none_left m (p ∷ left) n total few all = absurd (omega (arith, few, all))

pub fewer : (m : Map) → length (pairs_from m []) ≤ length m
fewer m = omega (arith, ap length (from_first m))
