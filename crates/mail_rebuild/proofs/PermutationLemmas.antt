-- A list and its permutation, filtered.
use Rattle.std.proofs.Common.{◌≡◌, ◌<◌, ℕ, zero, suc, Bool, true, false, List, [], ◌∷◌, length, get_or, Option, Some, None, refl, ap, arith}
use Rattle.std.specs.Prelude.{if◌then◌else◌, slice_set}
use Rattle.std.specs.List.{filter, filter_map, cons_option, swap}
use Rattle.std.specs.List.Sorted.{IsPermutation}
use Rattle.std.proofs.lemmas.List.Sorted.{IsPermutation-refl, IsPermutation-trans, IsPermutation-cons, IsPermutation-middle, IsPermutation-keeps}

module _ {X Y : Type 0} (f : X → Option Y) where
  -- one element before both lists
  before_both : (x : X) (xs ys : List X) → IsPermutation (filter_map f xs) (filter_map f ys) → IsPermutation (filter_map f (x ∷ xs)) (filter_map f (x ∷ ys))
  before_both x xs ys same = go (f x)
    where
      go : (r : Option Y) → IsPermutation (cons_option r (filter_map f xs)) (cons_option r (filter_map f ys))
      go None = same
      go (Some y) = IsPermutation-cons y _ _ same

  -- the first two elements change places
  first_two : (x y : X) (xs : List X) → IsPermutation (filter_map f (x ∷ y ∷ xs)) (filter_map f (y ∷ x ∷ xs))
  first_two x y xs = go (f x) (f y)
    where
      go : (r s : Option Y) → IsPermutation (cons_option r (cons_option s (filter_map f xs))) (cons_option s (cons_option r (filter_map f xs)))
      go None s = IsPermutation-refl _
      go (Some a) None = IsPermutation-refl _
      go (Some a) (Some b) = IsPermutation-middle (a ∷ []) b (filter_map f xs)

  -- the first element changes places with another
  first_with : (x d : X) (xs : List X) (j : ℕ) → j < length xs → IsPermutation (filter_map f (x ∷ xs)) (filter_map f (get_or xs j d ∷ slice_set xs j x))
  first_with x d [] j within = absurd (omega (arith, within))
  first_with x d (y ∷ xs) zero within = first_two x y xs
  first_with x d (z ∷ xs) (suc j) within =
      IsPermutation-trans _ _ _ (first_two x z xs)
      (IsPermutation-trans _ _ _ (before_both z (x ∷ xs) (get_or xs j d ∷ slice_set xs j x) (first_with x d xs j (omega (arith, within)))) (first_two z (get_or xs j d) (slice_set xs j x)))

  same_set : (d : X) (xs : List X) (i : ℕ) → i < length xs → slice_set xs i (get_or xs i d) ≡ xs
  same_set d [] i within = absurd (omega (arith, within))
  same_set d (x ∷ xs) zero within = refl
  same_set d (x ∷ xs) (suc i) within = ap (λ l. x ∷ l) (same_set d xs i (omega (arith, within)))

  two_places : (d : X) (xs : List X) (i j : ℕ) → i < length xs → j < length xs → IsPermutation (filter_map f xs) (filter_map f (slice_set (slice_set xs i (get_or xs j d)) j (get_or xs i d)))
  two_places d [] i j within other = absurd (omega (arith, within))
  two_places d (x ∷ xs) zero zero within other = IsPermutation-refl _
  two_places d (x ∷ xs) zero (suc j) within other = first_with x d xs j (omega (arith, other))
  two_places d (x ∷ xs) (suc i) zero within other = first_with x d xs i (omega (arith, within))
  two_places d (x ∷ xs) (suc i) (suc j) within other = before_both x xs (slice_set (slice_set xs i (get_or xs j d)) j (get_or xs i d)) (two_places d xs i j (omega (arith, within)) (omega (arith, other)))

  exchanged : (xs : List X) (i j : ℕ) → i < length xs → j < length xs → IsPermutation (filter_map f xs) (filter_map f (swap xs i j))
  exchanged [] i j within other = absurd (omega (arith, within))
  exchanged (d ∷ xs) i j within other = two_places d (d ∷ xs) i j within other

  pub IsPermutation-filter_map : (xs ys : List X) → IsPermutation xs ys → IsPermutation (filter_map f xs) (filter_map f ys)
  IsPermutation-filter_map xs = IsPermutation-keeps xs (λ l. IsPermutation (filter_map f xs) (filter_map f l)) (IsPermutation-refl _)
      (λ l i j p q so_far. IsPermutation-trans _ _ _ so_far (exchanged l i j p q))

-- a filter as a map that leaves out
abbrev pub where_true : {X : Type 0} → (X → Bool) → X → Option X
where_true p x = if p x then Some x else None

pub filter_as_map : {X : Type 0} (p : X → Bool) (xs : List X) → filter_map (where_true p) xs ≡ filter p xs
filter_as_map p [] = refl
filter_as_map {X} p (x ∷ xs) = go (filter_as_map p xs) (p x)
  where
    go : filter_map (where_true p) xs ≡ filter p xs → (b : Bool) → cons_option (if b then Some x else None) (filter_map (where_true p) xs) ≡ (if b then x ∷ filter p xs else filter p xs)
    go others true = ap (λ l. x ∷ l) others
    go others false = others

pub IsPermutation-filter : {X : Type 0} (p : X → Bool) (xs ys : List X) → IsPermutation xs ys → IsPermutation (filter p xs) (filter p ys)
IsPermutation-filter p xs ys same =
    let kept = IsPermutation-filter_map (where_true p) xs ys same in
    rw (filter_as_map p xs, filter_as_map p ys) at kept
