-- Pairs that are turned round, sorted by key and rid of all but the first of each key are the map where a later pair wins.
use Rattle.std.proofs.Common.{◌≡◌, ℕ, suc, ◌+◌, Bool, true, false, cond, List, [], ◌∷◌, Option, Some, None, get_or, map, refl, sym, ◌∙◌, ap, subst, arith}
use Rattle.std.specs.declared.cmp.Ordering.{Ordering}
use Rattle.std.specs.declared.cmp.Ordering.TheVariants.{Less, Equal, Greater}
use Rattle.std.specs.Ordering.{ordering_reverse, is_eq, is_lt}
use Rattle.std.specs.Prelude.{fold, reverse, not, ◌&&◌}
use Rattle.std.specs.List.{dedup, dedup_from, filter}
use Rattle.std.specs.List.Sorted.{ties, IsSortedBy, IsStableBy}
use Rattle.std.specs.BTreeMap.{is_at}
use Rattle.std.specs.Cmp.Lexicographic.{nat_list_cmp_total}
use Rattle.base_bytes.specs.OrderedMap.{Map, IsBelow, IsOrderedMap, BeginsAbove, key_order, put, value_at}
use Rattle.base_bytes.proofs.OrderedMaps.{value_put, is_at_key, above_turned, chosen_twice, no_value_before, same_map, value_first}
use Rattle.flat_db.specs.FlatText.{put_all}
use Rattle.flat_db.specs.Entries.{part_of, pair_of, pairs_of}
use Rattle.flat_db.specs.declared.pairs.Entry.{Entry}
use Rattle.flat_db.proofs.Canonical.{put_pair, puts_ordered}

-- ---- a later pair wins

-- the list is turned round onto another
abbrev onto : {A : Type 0} → List A → List A → List A
onto {A} done left = fold (λ (r : List A) (x : A). x ∷ r) done left

turned : (pairs done m : Map) (key : List ℕ) → value_at m key ≡ value_at done key → value_at (fold put_pair m pairs) key ≡ value_at (onto done pairs) key
turned [] done m key same = same
turned (p ∷ pairs) done m key same =
    turned pairs (p ∷ done) (put m p.0 p.1) key
    (value_put m p.0 p.1 key ∙ ap (λ (v : Option (List ℕ)). cond (is_at (key_order key) p.0) (Some p.1) v) same ∙ sym (value_first p done key))

-- the last of the pairs put is the first of them turned round
last_put : (pairs : Map) (key : List ℕ) → value_at (put_all pairs) key ≡ value_at (reverse pairs) key
last_put pairs key = turned pairs [] [] key refl

map_onto : {A B : Type 0} (f : A → B) (left done : List A) → map f (onto done left) ≡ onto (map f done) (map f left)
map_onto f [] done = refl
map_onto f (x ∷ left) done = map_onto f left (x ∷ done)

module _ (bytes : List ℕ) where
  abbrev key : Entry → List ℕ
  key entry = part_of bytes entry.key

  abbrev pub lt : Entry → Entry → Bool
  lt x y = is_lt (key_order (key x) (key y))

  abbrev pub same : Entry → Entry → Bool
  same x y = is_eq (key_order (key x) (key y))

  -- ---- sorted, and rid of all but the first of each key

  abbrev RisesFrom : Entry → List Entry → Type 0
  RisesFrom x [] = Unit {0}
  RisesFrom x (y ∷ ys) = (lt y x ≡ false) × RisesFrom y ys

  rises_from : (x : Entry) (xs : List Entry) → IsSortedBy lt (x ∷ xs) → RisesFrom x xs
  rises_from x [] sorted = tt
  rises_from x (y ∷ ys) sorted = (sorted 0 x (omega arith) (omega arith), rises_from y ys (λ k d low below. let step : suc k + 1 ≡ suc (k + 1) = omega arith in subst (λ (n : ℕ). lt (get_or (x ∷ y ∷ ys) n d) (get_or (x ∷ y ∷ ys) (suc k) d) ≡ false) step (sorted (suc k) d (omega arith) (omega (arith, below)))))

  -- not less and not the same is greater
  above_other : (x y : Entry) → lt y x ≡ false → same y x ≡ false → IsBelow (key x) (key y)
  above_other x y not_less differs = by (key_order (key y) (key x)) refl
    where
      by : (o : Ordering) → key_order (key y) (key x) ≡ o → IsBelow (key x) (key y)
      by Less is = absurd (cc (sym not_less ∙ ap is_lt is))
      by Equal is = absurd (cc (sym differs ∙ ap is_eq is))
      by Greater is = above_turned (key y) (key x) is

  same_is : (x y : Entry) → same x y ≡ true → key x ≡ key y
  same_is x y is = is_at_key (key x) (key y) is

  first_stays : (k : Entry) (xs : List Entry) (below : List ℕ) → IsBelow below (key k) → BeginsAbove below (pairs_of bytes (dedup_from same k xs))
  first_stays k [] below is = is
  first_stays k (x ∷ xs) below is = by (same x k) (first_stays k xs below is)
    where
      by : (b : Bool) → BeginsAbove below (pairs_of bytes (dedup_from same k xs)) → BeginsAbove below (pairs_of bytes (cond b (dedup_from same k xs) (k ∷ dedup_from same x xs)))
      by true later = later
      by false later = is

  dedup_ordered : (k : Entry) (xs : List Entry) → RisesFrom k xs → IsOrderedMap (pairs_of bytes (dedup_from same k xs))
  dedup_ordered k [] rises = (tt, tt)
  dedup_ordered k (x ∷ xs) rises = by (same x k) refl (λ is. dedup_ordered k xs (onward xs is rises.1)) (dedup_ordered x xs rises.1)
    where
      onward : (ys : List Entry) → same x k ≡ true → RisesFrom x ys → RisesFrom k ys
      onward [] is later = tt
      onward (y ∷ ys) is later = (ap (λ (l : List ℕ). is_lt (key_order (key y) l)) (sym (same_is x k is)) ∙ later.0, later.1)

      by : (b : Bool) → same x k ≡ b → (same x k ≡ true → IsOrderedMap (pairs_of bytes (dedup_from same k xs))) → IsOrderedMap (pairs_of bytes (dedup_from same x xs))
          → IsOrderedMap (pairs_of bytes (cond b (dedup_from same k xs) (k ∷ dedup_from same x xs)))
      by true is on later = on is
      by false is on later = (first_stays x xs (key k) (above_other k x rises.0 is), later)

  all_ordered : (xs : List Entry) → IsSortedBy lt xs → IsOrderedMap (pairs_of bytes (dedup same xs))
  all_ordered [] sorted = tt
  all_ordered (x ∷ xs) sorted = dedup_ordered x xs (rises_from x xs sorted)

  value_dedup : (k : Entry) (xs : List Entry) (other : List ℕ) → value_at (pairs_of bytes (dedup_from same k xs)) other ≡ value_at (pairs_of bytes (k ∷ xs)) other
  value_dedup k [] other = refl
  value_dedup k (x ∷ xs) other = by (same x k) refl (value_dedup k xs other) (value_dedup x xs other)
    where
      by : (b : Bool) → same x k ≡ b → value_at (pairs_of bytes (dedup_from same k xs)) other ≡ value_at (pairs_of bytes (k ∷ xs)) other
          → value_at (pairs_of bytes (dedup_from same x xs)) other ≡ value_at (pairs_of bytes (x ∷ xs)) other
          → value_at (pairs_of bytes (cond b (dedup_from same k xs) (k ∷ dedup_from same x xs))) other ≡ value_at (pairs_of bytes (k ∷ x ∷ xs)) other
      by true is on later =
          on ∙ value_first (pair_of bytes k) (pairs_of bytes xs) other
          ∙ chosen_twice (is_at (key_order other) (key k)) (Some (pair_of bytes k).1) (Some (pair_of bytes x).1) (value_at (pairs_of bytes xs) other)
          ∙ ap (λ (l : List ℕ). cond (is_at (key_order other) (key k)) (Some (pair_of bytes k).1) (cond (is_at (key_order other) l) (Some (pair_of bytes x).1) (value_at (pairs_of bytes xs) other))) (sym (same_is x k is))
          ∙ ap (λ (v : Option (List ℕ)). cond (is_at (key_order other) (key k)) (Some (pair_of bytes k).1) v) (sym (value_first (pair_of bytes x) (pairs_of bytes xs) other))
          ∙ sym (value_first (pair_of bytes k) (pairs_of bytes (x ∷ xs)) other)
      by false is on later =
          value_first (pair_of bytes k) (pairs_of bytes (dedup_from same x xs)) other
          ∙ ap (λ (v : Option (List ℕ)). cond (is_at (key_order other) (key k)) (Some (pair_of bytes k).1) v) later
          ∙ sym (value_first (pair_of bytes k) (pairs_of bytes (x ∷ xs)) other)

  all_dedup : (xs : List Entry) (other : List ℕ) → value_at (pairs_of bytes (dedup same xs)) other ≡ value_at (pairs_of bytes xs) other
  all_dedup [] other = refl
  all_dedup (x ∷ xs) other = value_dedup x xs other

  -- ---- a stable sort keeps the first of each key

  tie_is : (x y : Entry) → ties lt x y ≡ is_at (key_order (key x)) (key y)
  tie_is x y = by (key_order (key x) (key y)) refl (key_order (key y) (key x)) refl
    where
      turned_is : (o : Ordering) → key_order (key x) (key y) ≡ o → key_order (key y) (key x) ≡ ordering_reverse o
      turned_is o is = nat_list_cmp_total.antisymm (key y) (key x) ∙ ap ordering_reverse is

      by : (o : Ordering) → key_order (key x) (key y) ≡ o → (u : Ordering) → key_order (key y) (key x) ≡ u → (not (is_lt o) && not (is_lt u)) ≡ is_eq o
      by Less is u are = refl
      by Equal is u are = ap (λ (w : Ordering). not (is_lt w)) (sym are ∙ turned_is Equal is)
      by Greater is u are = ap (λ (w : Ordering). not (is_lt w)) (sym are ∙ turned_is Greater is)

  abbrev first : List Entry → Option (List ℕ)
  first [] = None
  first (x ∷ xs) = Some (pair_of bytes x).1

  value_filter : (x : Entry) (xs : List Entry) → value_at (pairs_of bytes xs) (key x) ≡ first (filter (ties lt x) xs)
  value_filter x [] = refl_none
    where
      refl_none : value_at [] (key x) ≡ None
      refl_none = no_value_before (key x) [] tt tt
  value_filter x (y ∷ xs) =
      value_first (pair_of bytes y) (pairs_of bytes xs) (key x)
      ∙ ap (λ (b : Bool). cond b (Some (pair_of bytes y).1) (value_at (pairs_of bytes xs) (key x))) (sym (tie_is x y))
      ∙ by (ties lt x y) (value_filter x xs)
    where
      by : (b : Bool) → value_at (pairs_of bytes xs) (key x) ≡ first (filter (ties lt x) xs) → cond b (Some (pair_of bytes y).1) (value_at (pairs_of bytes xs) (key x)) ≡ first (cond b (y ∷ filter (ties lt x) xs) (filter (ties lt x) xs))
      by true later = refl
      by false later = later

  -- a key that has a value is that of an entry
  entry_of_value : (xs : List Entry) (other value : List ℕ) → value_at (pairs_of bytes xs) other ≡ Some value → (x : Entry) × (other ≡ key x)
  entry_of_value [] other value is = absurd (cc (sym (no_value_before other [] tt tt) ∙ is))
  entry_of_value (x ∷ xs) other value is = by (is_at (key_order other) (key x)) refl (λ later. entry_of_value xs other value later)
    where
      by : (b : Bool) → is_at (key_order other) (key x) ≡ b → (value_at (pairs_of bytes xs) other ≡ Some value → (x : Entry) × (other ≡ key x)) → (x : Entry) × (other ≡ key x)
      by true here on = (x, is_at_key other (key x) here)
      by false here on = on (sym (ap (λ (b : Bool). cond b (Some (pair_of bytes x).1) (value_at (pairs_of bytes xs) other)) here) ∙ sym (value_first (pair_of bytes x) (pairs_of bytes xs) other) ∙ is)

  stable_at : (xs ys : List Entry) (x : Entry) → IsStableBy lt xs ys → value_at (pairs_of bytes ys) (key x) ≡ value_at (pairs_of bytes xs) (key x)
  stable_at xs ys x stable = value_filter x ys ∙ ap first (stable x) ∙ sym (value_filter x xs)

  stable_value : (xs ys : List Entry) (other : List ℕ) → IsStableBy lt xs ys → value_at (pairs_of bytes ys) other ≡ value_at (pairs_of bytes xs) other
  stable_value xs ys other stable = by (value_at (pairs_of bytes ys) other) refl (value_at (pairs_of bytes xs) other) refl
    where
      at : (x : Entry) → other ≡ key x → value_at (pairs_of bytes ys) other ≡ value_at (pairs_of bytes xs) other
      at x is = subst (λ (k : List ℕ). value_at (pairs_of bytes ys) k ≡ value_at (pairs_of bytes xs) k) (sym is) (stable_at xs ys x stable)

      by : (v : Option (List ℕ)) → value_at (pairs_of bytes ys) other ≡ v → (w : Option (List ℕ)) → value_at (pairs_of bytes xs) other ≡ w → value_at (pairs_of bytes ys) other ≡ value_at (pairs_of bytes xs) other
      by None is None are = is ∙ sym are
      by None is (Some w) are = let found = entry_of_value xs other w are in at found.0 found.1
      by (Some v) is w are = let found = entry_of_value ys other v is in at found.0 found.1

  -- ---- all of it

  pub later_wins : (entries sorted : List Entry) → IsSortedBy lt sorted → IsStableBy lt (reverse entries) sorted → pairs_of bytes (dedup same sorted) ≡ put_all (pairs_of bytes entries)
  later_wins entries sorted rises stable =
      same_map (pairs_of bytes (dedup same sorted)) (put_all (pairs_of bytes entries)) (all_ordered sorted rises) (puts_ordered (pairs_of bytes entries) [] tt)
      (λ other.
      all_dedup sorted other ∙ stable_value (reverse entries) sorted other stable
      ∙ ap (λ (m : Map). value_at m other) (map_onto (pair_of bytes) entries [])
      ∙ sym (last_put (pairs_of bytes entries) other))
