-- Each key has a place among live records, and a change there is one of the map.
use Rattle.std.proofs.Common.{◌≡◌, ◌≢◌, ℕ, Bool, true, false, List, [], ◌∷◌, ◌++◌, length, Some, None, refl, sym, ap, subst, ◌∙◌, inl, inr}
use Rattle.std.specs.Prelude.{is_some, find, not}
use Rattle.std.specs.Ordering.{is_lt}
use Rattle.skip_spec.proofs.Successors.{chosen_first, chosen_second}
use Rattle.std.specs.List.{AllByRecursion}
use Rattle.std.specs.declared.cmp.Ordering.{Ordering}
use Rattle.std.specs.declared.cmp.Ordering.TheVariants.{Less, Equal, Greater}
use Rattle.std.proofs.lemmas.List.{map-append}
use Rattle.base_bytes.specs.OrderedMap.{Map, IsBelow, BeginsAbove, IsOrderedMap, key_order, put, without, value_at, first_from, first_above}
use Rattle.base_bytes.proofs.OrderedMaps.{EndsBelow, same_key, key_itself, below_turned, above_turned, some_above, no_value_before, value_behind, value_here, put_behind, put_over, put_before, without_behind, without_here, without_absent}
use Rattle.skip_spec.specs.Chain.{Entry, pairs}
use Rattle.skip_spec.specs.Change.{last_key}
use Rattle.skip_spec.specs.Place.{Place, first_value, first_pair}
use Rattle.skip_spec.specs.Live.{Live}
use Rattle.skip_spec.proofs.Meanings.{chain_rises}

-- ---- a place

pub place_of : (es : List Entry) (key : List ℕ) → IsOrderedMap (pairs es) → Place es key
place_of [] key ordered = record { front = []; dropped = []; rest = []; split = refl; below = tt; above = tt; same_key = inl refl }
place_of (e ∷ es) key ordered = by (key_order e.key key) refl (place_of es key ordered.1)
  where
    by : (o : Ordering) → key_order e.key key ≡ o → Place es key → Place (e ∷ es) key
    by Less is place =
        record {
          front = e ∷ place.front;
          dropped = place.dropped;
          rest = place.rest;
          split = ap (λ (fs : List Entry). e ∷ fs) place.split;
          below = (is, place.below);
          above = place.above;
          same_key = place.same_key;
        }
    by Equal is later =
        let same = same_key e.key key is in
        record { front = []; dropped = e ∷ []; rest = es; split = refl; below = tt; above = subst (λ (k : List ℕ). BeginsAbove k (pairs es)) same ordered.0; same_key = inr (e, refl, same) }
    by Greater is later = record { front = []; dropped = []; rest = e ∷ es; split = refl; below = tt; above = above_turned e.key key is; same_key = inl refl }

-- the last of the front is below the key, where this is not empty
last_below : (first key : List ℕ) (front : List Entry) → IsBelow first key → AllByRecursion (λ e. IsBelow e.key key) front → IsBelow (last_key first front) key
last_below first key [] below all = below
last_below first key (e ∷ front) below all = last_below e.key key front all.0 all.1

pub front_below : (es : List Entry) (key : List ℕ) (place : Place es key) → key ≢ [] → IsBelow (last_key [] place.front) key
front_below es key place some = last_below [] key place.front (some_above key some) place.below

-- ---- the map

pairs-append : (es fs : List Entry) → pairs (es ++ fs) ≡ pairs es ++ pairs fs
pairs-append es fs = map-append (λ e. (e.key, e.value)) es fs

ends_below : (key : List ℕ) (front : List Entry) → AllByRecursion (λ e. IsBelow e.key key) front → EndsBelow (pairs front) key
ends_below key [] all = tt
ends_below key (e ∷ front) all = (all.0, ends_below key front all.1)

ordered_back : (m n : Map) → IsOrderedMap (m ++ n) → IsOrderedMap n
ordered_back [] n ordered = ordered
ordered_back (p ∷ m) n ordered = ordered_back m n ordered.1

module _ (es : List Entry) (key : List ℕ) (place : Place es key) (ordered : IsOrderedMap (pairs es)) where
  whole : pairs es ≡ pairs place.front ++ pairs (place.dropped ++ place.rest)
  whole = ap pairs place.split ∙ pairs-append place.front (place.dropped ++ place.rest)

  below : EndsBelow (pairs place.front) key
  below = ends_below key place.front place.below

  back_ordered : IsOrderedMap (pairs (place.dropped ++ place.rest))
  back_ordered = ordered_back (pairs place.front) (pairs (place.dropped ++ place.rest)) (subst IsOrderedMap whole ordered)

  at_front : (value : List ℕ) → put (pairs (place.dropped ++ place.rest)) key value ≡ (key, value) ∷ pairs place.rest
  at_front value = elim place.same_key [
    | inl none ↦ ap (λ (fs : List Entry). put (pairs (fs ++ place.rest)) key value) none ∙ put_before key value (pairs place.rest) place.above
    | inr one ↦
        ap (λ (fs : List Entry). put (pairs (fs ++ place.rest)) key value) one.1
        ∙ ap (λ (k : List ℕ). put ((k, one.0.value) ∷ pairs place.rest) key value) one.2
        ∙ put_over key value one.0.value (pairs place.rest)
  ]

  pub pairs_put : (e : Entry) → e.key ≡ key → pairs (place.front ++ e ∷ place.rest) ≡ put (pairs es) key e.value
  pairs_put e is =
      pairs-append place.front (e ∷ place.rest)
      ∙ ap (λ (k : List ℕ). pairs place.front ++ (k, e.value) ∷ pairs place.rest) is
      ∙ ap (λ (m : Map). pairs place.front ++ m) (sym (at_front e.value))
      ∙ sym (put_behind (pairs place.front) (pairs (place.dropped ++ place.rest)) key e.value below)
      ∙ ap (λ (m : Map). put m key e.value) (sym whole)

  gone_front : without (pairs (place.dropped ++ place.rest)) key ≡ pairs place.rest
  gone_front = elim place.same_key [
    | inl none ↦
        let ordered = subst (λ (fs : List Entry). IsOrderedMap (pairs (fs ++ place.rest))) none back_ordered in
        ap (λ (fs : List Entry). without (pairs (fs ++ place.rest)) key) none
        ∙ without_absent (pairs place.rest) key (ap is_some (no_value_before key (pairs place.rest) place.above ordered))
    | inr one ↦
        ap (λ (fs : List Entry). without (pairs (fs ++ place.rest)) key) one.1
        ∙ ap (λ (k : List ℕ). without ((k, one.0.value) ∷ pairs place.rest) key) one.2
        ∙ without_here key one.0.value (pairs place.rest)
  ]

  pub pairs_without : pairs (place.front ++ place.rest) ≡ without (pairs es) key
  pairs_without =
      pairs-append place.front place.rest
      ∙ ap (λ (m : Map). pairs place.front ++ m) (sym gone_front)
      ∙ sym (without_behind (pairs place.front) (pairs (place.dropped ++ place.rest)) key below)
      ∙ ap (λ (m : Map). without m key) (sym whole)

  pub no_value : place.dropped ≡ [] → value_at (pairs es) key ≡ None
  no_value none =
      let ordered = subst (λ (fs : List Entry). IsOrderedMap (pairs (fs ++ place.rest))) none back_ordered in
      ap (λ (m : Map). value_at m key) whole
      ∙ value_behind (pairs place.front) (pairs (place.dropped ++ place.rest)) key below
      ∙ ap (λ (fs : List Entry). value_at (pairs (fs ++ place.rest)) key) none
      ∙ no_value_before key (pairs place.rest) place.above ordered

  pub its_value : (e : Entry) → place.dropped ≡ e ∷ [] → value_at (pairs es) key ≡ Some e.value
  its_value e one =
      let same : e.key ≡ key = elim place.same_key [
        | inl none ↦ absurd (let h : e ∷ [] ≡ [] = sym one ∙ none in cc)
        | inr other ↦ (let is : e ∷ [] ≡ other.0 ∷ [] = sym one ∙ other.1 in let k : e.key ≡ other.0.key = first_key e other.0 is in k ∙ other.2)
      ] in
      ap (λ (m : Map). value_at m key) whole
      ∙ value_behind (pairs place.front) (pairs (place.dropped ++ place.rest)) key below
      ∙ ap (λ (fs : List Entry). value_at (pairs (fs ++ place.rest)) key) one
      ∙ ap (λ (k : List ℕ). value_at ((k, e.value) ∷ pairs place.rest) key) same
      ∙ value_here key e.value (pairs place.rest)
    where
      keys : List Entry → List ℕ
      keys [] = []
      keys (d ∷ ds) = d.key

      first_key : (d f : Entry) → d ∷ [] ≡ f ∷ [] → d.key ≡ f.key
      first_key d f is = ap keys is

pub place_value : (es : List Entry) (key : List ℕ) (place : Place es key) → IsOrderedMap (pairs es) → value_at (pairs es) key ≡ first_value place.dropped
place_value es key place ordered = elim place.same_key [
  | inl none ↦ no_value es key place ordered none ∙ sym (ap first_value none)
  | inr one ↦ its_value es key place ordered one.0 one.1 ∙ sym (ap first_value one.1)
]

pub live_rises : (bytes starts : List ℕ) (es : List Entry) → Live bytes starts es → IsOrderedMap (pairs es)
live_rises bytes starts es l = (chain_rises bytes (length bytes) starts 64 [] es l.listed.log.chain).1

-- ---- the first pair from a key, and above it

-- records whose pairs are not looked for
skipped : (P : List ℕ × List ℕ → Bool) (front : List Entry) (m : Map) → AllByRecursion (λ e. P (e.key, e.value) ≡ false) front → find P (pairs front ++ m) ≡ find P m
skipped P [] m all = refl
skipped P (e ∷ front) m all = chosen_second (P (e.key, e.value)) (Some (e.key, e.value)) (find P (pairs front ++ m)) all.0 ∙ skipped P front m all.1

-- a record whose pair is looked for
met : (P : List ℕ × List ℕ → Bool) (e : Entry) (es : List Entry) → P (e.key, e.value) ≡ true → find P (pairs (e ∷ es)) ≡ Some (e.key, e.value)
met P e es is = chosen_first (P (e.key, e.value)) (Some (e.key, e.value)) (find P (pairs es)) is

module _ (es : List Entry) (key : List ℕ) (place : Place es key) where
  abbrev From : List ℕ × List ℕ → Bool
  From p = not (is_lt (key_order p.0 key))

  abbrev Above : List ℕ × List ℕ → Bool
  Above p = is_lt (key_order key p.0)

  front_before : (front : List Entry) → AllByRecursion (λ e. IsBelow e.key key) front → AllByRecursion (λ e. From (e.key, e.value) ≡ false) front
  front_before [] all = tt
  front_before (e ∷ front) all = (ap (λ (o : Ordering). not (is_lt o)) all.0, front_before front all.1)

  front_not_above : (front : List Entry) → AllByRecursion (λ e. IsBelow e.key key) front → AllByRecursion (λ e. Above (e.key, e.value) ≡ false) front
  front_not_above [] all = tt
  front_not_above (e ∷ front) all = (ap is_lt (below_turned e.key key all.0), front_not_above front all.1)

  rest_from : (rest : List Entry) → BeginsAbove key (pairs rest) → find From (pairs rest) ≡ first_pair rest
  rest_from [] above = refl
  rest_from (e ∷ rest) above = met From e rest (ap (λ (o : Ordering). not (is_lt o)) (below_turned key e.key above))

  rest_above : (rest : List Entry) → BeginsAbove key (pairs rest) → find Above (pairs rest) ≡ first_pair rest
  rest_above [] above = refl
  rest_above (e ∷ rest) above = met Above e rest (ap is_lt above)

  back_from : find From (pairs (place.dropped ++ place.rest)) ≡ first_pair (place.dropped ++ place.rest)
  back_from = elim place.same_key [
    | inl none ↦ subst (λ (ds : List Entry). find From (pairs (ds ++ place.rest)) ≡ first_pair (ds ++ place.rest)) (sym none) (rest_from place.rest place.above)
    | inr one ↦ subst (λ (ds : List Entry). find From (pairs (ds ++ place.rest)) ≡ first_pair (ds ++ place.rest)) (sym one.1) (met From one.0 place.rest (ap (λ (k : List ℕ). not (is_lt (key_order k key))) one.2 ∙ ap (λ (o : Ordering). not (is_lt o)) (key_itself key)))
  ]

  back_above : find Above (pairs (place.dropped ++ place.rest)) ≡ first_pair place.rest
  back_above = elim place.same_key [
    | inl none ↦ subst (λ (ds : List Entry). find Above (pairs (ds ++ place.rest)) ≡ first_pair place.rest) (sym none) (rest_above place.rest place.above)
    | inr one ↦ subst (λ (ds : List Entry). find Above (pairs (ds ++ place.rest)) ≡ first_pair place.rest) (sym one.1)
        (chosen_second (Above (one.0.key, one.0.value)) (Some (one.0.key, one.0.value)) (find Above (pairs place.rest)) (ap (λ (k : List ℕ). is_lt (key_order key k)) one.2 ∙ ap is_lt (key_itself key)) ∙ rest_above place.rest place.above)
  ]

  whole_pairs : pairs es ≡ pairs place.front ++ pairs (place.dropped ++ place.rest)
  whole_pairs = ap pairs place.split ∙ pairs-append place.front (place.dropped ++ place.rest)

  pub place_from : first_from (pairs es) key ≡ first_pair (place.dropped ++ place.rest)
  place_from = ap (find From) whole_pairs ∙ skipped From place.front (pairs (place.dropped ++ place.rest)) (front_before place.front place.below) ∙ back_from

  pub place_above : first_above (pairs es) key ≡ first_pair place.rest
  place_above = ap (find Above) whole_pairs ∙ skipped Above place.front (pairs (place.dropped ++ place.rest)) (front_not_above place.front place.below) ∙ back_above
