-- The place of a key among entries, and what stands there.
use Rattle.std.proofs.Common.{◌≡◌, ◌≢◌, ◌⊎◌, inl, inr, ℕ, zero, suc, ◌+◌, ◌<◌, ◌≤◌, Bool, true, false, cond, List, [], ◌∷◌, ◌++◌, Some, None, length, get_or, set, take, drop, refl, sym, ◌∙◌, ap, subst, arith}
use Rattle.std.proofs.lemmas.List.{take-map, drop-map, drop_more, drop_all, take-append-drop, get_or-map, get_or-take, length-map, length-take-le, length-drop, get_or-drop, set_split, map-append}
use Rattle.std.proofs.Math.Numerals.{add-one}
use Rattle.std.specs.declared.cmp.Ordering.{Ordering}
use Rattle.std.specs.declared.cmp.Ordering.TheVariants.{Less, Equal, Greater}
use Rattle.std.specs.Ordering.{is_lt, is_eq}
use Rattle.std.specs.List.{All, insert, remove, find}
use Rattle.std.specs.Prelude.{not, slice_get}
use Rattle.std.proofs.Math.Nat.{eq-or-lt_of_le}
use Rattle.std.specs.List.Sorted.{IsPartitionedBy, IsPartitionPoint}
use Rattle.base_bytes.specs.OrderedMap.{Map, IsBelow, IsOrderedMap, BeginsAbove, key_order, first_from, first_above, put, value_at, without}
use Rattle.base_bytes.proofs.OrderedMaps.{EndsBelow, below_then, below_turned, without_behind, without_here, above_turned, begins_above_then, no_value_before, value_behind, value_here, put_behind, put_over, put_before, same_key, is_at_key, key_itself}
use Rattle.flat_db.specs.Entries.{part_of, pair_of, pairs_of}
use Rattle.flat_db.specs.Places.{IsPlaceOf, HasKeyAt, LacksKeyAt}
use Rattle.flat_db.specs.declared.pairs.Entry.{Entry}

pub is_below : (o : Ordering) → is_lt o ≡ true → o ≡ Less
is_below Less is = refl
is_below Equal is = absurd (cc is)
is_below Greater is = absurd (cc is)

not_below : (o : Ordering) → is_lt o ≡ false → o ≡ Less → ⊥
not_below o is less = absurd (cc (sym is ∙ ap is_lt less))

above_all : (m : Map) (key : List ℕ) (j : ℕ) (d : List ℕ × List ℕ) → BeginsAbove key m → IsOrderedMap m → j < length m → IsBelow key (get_or m j d).0
above_all [] key j d begins ordered below = absurd (omega (arith, below))
above_all (p ∷ m) key zero d begins ordered below = begins
above_all (p ∷ m) key (suc j) d begins ordered below = above_all m key j d (begins_above_then key p.0 m begins ordered.0) ordered.1 (omega (arith, below))

ends_below : (m : Map) (key : List ℕ) → All (λ (p : List ℕ × List ℕ). IsBelow p.0 key) m → EndsBelow m key
ends_below [] key all = tt
ends_below (p ∷ m) key all = (all 0 p (omega arith), ends_below m key (λ k d below. all (suc k) d (omega (arith, below))))

module _ (bytes key : List ℕ) where
  abbrev pub goes_before : Entry → Bool
  goes_before entry = is_lt (key_order (part_of bytes entry.key) key)

  pub parted : (entries : List Entry) → IsOrderedMap (pairs_of bytes entries) → IsPartitionedBy goes_before entries
  parted [] ordered i j d le below is = absurd (omega (arith, below))
  parted (x ∷ entries) ordered zero zero d le below is = is
  parted (x ∷ entries) ordered (suc i) zero d le below is = absurd (omega (arith, le))
  parted (x ∷ entries) ordered (suc i) (suc j) d le below is = parted entries ordered.1 i j d (omega (arith, le)) (omega (arith, below)) is
  parted (x ∷ entries) ordered zero (suc j) d le below is =
      let within : j < length entries = omega (arith, below) in
      let lower : IsBelow (part_of bytes x.key) (get_or (pairs_of bytes entries) j (pair_of bytes d)).0 = above_all (pairs_of bytes entries) (part_of bytes x.key) j (pair_of bytes d) ordered.0 ordered.1 (omega (arith, within, length-map entries (pair_of bytes))) in
      let at : IsBelow (part_of bytes x.key) (part_of bytes (get_or entries j d).key) = subst (λ (p : List ℕ × List ℕ). IsBelow (part_of bytes x.key) p.0) (get_or-map (pair_of bytes) entries j d (pair_of bytes d) within) lower in
      ap is_lt (below_then (part_of bytes x.key) (part_of bytes (get_or entries j d).key) key at (is_below _ is))

  pub place_of_point : (entries : List Entry) (place : ℕ) → place ≤ length entries → IsPartitionPoint (λ y. goes_before y ≡ true) (λ y. goes_before y ≡ false) entries place → IsPlaceOf key (pairs_of bytes entries) place
  place_of_point entries place fits point = record {
    within = omega (arith, fits, length-map entries (pair_of bytes));
    lower = λ k d below. lower k d (omega (arith, below, length-take-le place (pairs_of bytes entries) (omega (arith, fits, length-map entries (pair_of bytes)))));
    others = λ k d below. upper k d (omega (arith, below, length-drop place (pairs_of bytes entries), length-map entries (pair_of bytes)));
  }
    where
      -- the entry at a place, at a default that stands in the list
      entry_at : (k : ℕ) (d : List ℕ × List ℕ) → k < length entries → (e : Entry) × (get_or (pairs_of bytes entries) k d ≡ pair_of bytes (get_or entries k e))
      entry_at k d below = from entries refl
        where
          from : (es : List Entry) → es ≡ entries → (e : Entry) × (get_or (pairs_of bytes entries) k d ≡ pair_of bytes (get_or entries k e))
          from [] is = absurd (omega (arith, below, ap length is))
          from (e ∷ es) is = (e, get_or-map (pair_of bytes) entries k e d below)

      lower : (k : ℕ) (d : List ℕ × List ℕ) → k < place → IsBelow (get_or (take place (pairs_of bytes entries)) k d).0 key
      lower k d below =
          let at = entry_at k d (omega (arith, below, fits)) in
          subst (λ (p : List ℕ × List ℕ). IsBelow p.0 key) (sym (get_or-take place (pairs_of bytes entries) k d below ∙ at.1)) (is_below _ (point.0 k at.0 (omega arith) below))

      upper : (k : ℕ) (d : List ℕ × List ℕ) → place + k < length entries → IsBelow (get_or (drop place (pairs_of bytes entries)) k d).0 key → ⊥
      upper k d below is =
          let at = entry_at (place + k) d below in
          not_below _ (point.1 (place + k) at.0 (omega arith) below) (subst (λ (p : List ℕ × List ℕ). IsBelow p.0 key) (get_or-drop place (pairs_of bytes entries) k d ∙ at.1) is)

-- ---- what stands at the place

module _ (key : List ℕ) (m : Map) (place : ℕ) where
  parts : m ≡ take place m ++ drop place m
  parts = sym (take-append-drop place m)

  front_below : IsPlaceOf key m place → EndsBelow (take place m) key
  front_below at = ends_below (take place m) key at.lower

  rest_ordered : IsOrderedMap m → IsOrderedMap (drop place m)
  rest_ordered ordered = from place m ordered
    where
      from : (n : ℕ) (l : Map) → IsOrderedMap l → IsOrderedMap (drop n l)
      from zero l is = is
      from (suc n) [] is = tt
      from (suc n) (p ∷ l) is = from n l is.1

  -- the value at the key
  pub value_own : (has : HasKeyAt key m place) → value_at m key ≡ Some has.value
  value_own has =
      ap (λ (l : Map). value_at l key) parts ∙ value_behind (take place m) (drop place m) key (front_below has.at)
      ∙ ap (λ (l : Map). value_at l key) has.here ∙ value_here key has.value (drop (place + 1) m)

  pub value_lacks : LacksKeyAt key m place → IsOrderedMap m → value_at m key ≡ None
  value_lacks lacks ordered =
      ap (λ (l : Map). value_at l key) parts ∙ value_behind (take place m) (drop place m) key (front_below lacks.at)
      ∙ no_value_before key (drop place m) lacks.above (rest_ordered ordered)

  -- the map with a pair put, and without the key's own
  pub put_own : (value : List ℕ) → HasKeyAt key m place → put m key value ≡ take place m ++ ((key, value) ∷ drop (place + 1) m)
  put_own value has =
      ap (λ (l : Map). put l key value) parts ∙ put_behind (take place m) (drop place m) key value (front_below has.at)
      ∙ ap (λ (l : Map). take place m ++ put l key value) has.here ∙ ap (λ (l : Map). take place m ++ l) (put_over key value has.value (drop (place + 1) m))

  pub put_between : (value : List ℕ) → LacksKeyAt key m place → put m key value ≡ take place m ++ ((key, value) ∷ drop place m)
  put_between value lacks =
      ap (λ (l : Map). put l key value) parts ∙ put_behind (take place m) (drop place m) key value (front_below lacks.at)
      ∙ ap (λ (l : Map). take place m ++ l) (put_before key value (drop place m) lacks.above)

  pub without_own : HasKeyAt key m place → without m key ≡ take place m ++ drop (place + 1) m
  without_own has =
      ap (λ (l : Map). without l key) parts ∙ without_behind (take place m) (drop place m) key (front_below has.at)
      ∙ ap (λ (l : Map). take place m ++ without l key) has.here ∙ ap (λ (l : Map). take place m ++ l) (without_here key has.value (drop (place + 1) m))

-- ---- the first pair from a key on

-- what is looked for stands behind those that do not pass
find_behind : (test : List ℕ × List ℕ → Bool) (n : ℕ) (m : Map) → n ≤ length m → All (λ (p : List ℕ × List ℕ). test p ≡ false) (take n m) → ((p : List ℕ × List ℕ) (rest : Map) → drop n m ≡ p ∷ rest → test p ≡ true) → find test m ≡ slice_get m n
find_behind test zero [] within fails passes = refl
find_behind test zero (p ∷ m) within fails passes = ap (λ (b : Bool). cond b (Some p) (find test m)) (passes p m refl)
find_behind test (suc n) [] within fails passes = absurd (omega (arith, within))
find_behind test (suc n) (p ∷ m) within fails passes =
    ap (λ (b : Bool). cond b (Some p) (find test m)) (fails 0 p (omega arith))
    ∙ find_behind test n m (omega (arith, within)) (λ k d below. fails (suc k) d (omega (arith, below))) passes

first_of : (P : List ℕ × List ℕ → Type 0) (m : Map) (n : ℕ) (p : List ℕ × List ℕ) (rest : Map) → drop n m ≡ p ∷ rest → All P (drop n m) → P p
first_of P m n p rest is all = subst (λ (l : Map). All P l → P p) (sym is) (λ here. here 0 p (omega arith)) all

is_lt_below : (a b : List ℕ) → IsBelow a b → is_lt (key_order a b) ≡ true
is_lt_below a b below = ap is_lt below

isnt_lt : (a b : List ℕ) → ¬ IsBelow a b → is_lt (key_order a b) ≡ false
isnt_lt a b isnt = by (key_order a b) refl
  where
    by : (o : Ordering) → key_order a b ≡ o → is_lt o ≡ false
    by Less is = absurd (isnt is)
    by Equal is = refl
    by Greater is = refl

pub first_from_place : (key : List ℕ) (m : Map) (place : ℕ) → IsPlaceOf key m place → first_from m key ≡ slice_get m place
first_from_place key m place at = find_behind (λ p. not (is_lt (key_order p.0 key))) place m at.within
    (λ k d below. ap not (is_lt_below (get_or (take place m) k d).0 key (at.lower k d below)))
    (λ p rest is. ap not (isnt_lt p.0 key (first_of (λ q. ¬ IsBelow q.0 key) m place p rest is at.others)))

-- no lower key, and not the key itself, is above it
not_above : (a key : List ℕ) → IsBelow a key → is_lt (key_order key a) ≡ false
not_above a key below = ap is_lt (below_turned a key below)

pub first_above_between : (key : List ℕ) (m : Map) (place : ℕ) → LacksKeyAt key m place → first_above m key ≡ slice_get m place
first_above_between key m place lacks = find_behind (λ p. is_lt (key_order key p.0)) place m lacks.at.within
    (λ k d below. not_above (get_or (take place m) k d).0 key (lacks.at.lower k d below))
    (λ p rest is. is_lt_below key p.0 (subst (BeginsAbove key) is lacks.above))

pub first_above_own : (key : List ℕ) (m : Map) (place : ℕ) → HasKeyAt key m place → IsOrderedMap m → first_above m key ≡ slice_get m (place + 1)
first_above_own key m place has ordered =
    let rest : IsOrderedMap ((key, has.value) ∷ drop (place + 1) m) = subst IsOrderedMap has.here (rest_ordered key m place ordered) in
    find_behind (λ p. is_lt (key_order key p.0)) (place + 1) m (there has.here)
    fails
    (λ p l is. is_lt_below key p.0 (subst (BeginsAbove key) is rest.0))
  where
    there : drop place m ≡ (key, has.value) ∷ drop (place + 1) m → place + 1 ≤ length m
    there is = omega (arith, ap length is, length-drop place m)

    fails : All (λ (p : List ℕ × List ℕ). is_lt (key_order key p.0) ≡ false) (take (place + 1) m)
    fails k d below = by (eq-or-lt_of_le (omega (arith, in_front)))
      where
        in_front : k < place + 1
        in_front = omega (arith, below, length-take-le (place + 1) m (there has.here))

        by : (k ≡ place) ⊎ (k < place) → is_lt (key_order key (get_or (take (place + 1) m) k d).0) ≡ false
        by (inl own) =
            ap (λ (p : List ℕ × List ℕ). is_lt (key_order key p.0))
            (get_or-take (place + 1) m k d in_front ∙ ap (λ (i : ℕ). get_or m i d) (omega (arith, own)) ∙ sym (get_or-drop place m 0 d) ∙ ap (λ (l : Map). get_or l 0 d) has.here)
            ∙ ap is_lt (key_itself key)
        by (inr lower) =
            ap (λ (p : List ℕ × List ℕ). is_lt (key_order key p.0)) (get_or-take (place + 1) m k d in_front ∙ sym (get_or-take place m k d lower))
            ∙ not_above (get_or (take place m) k d).0 key (has.at.lower k d (omega (arith, lower, length-take-le place m has.at.within)))

-- ---- entries for pairs

module _ (bytes : List ℕ) (entries : List Entry) (place : ℕ) where
  -- the pair of the entry at the place
  pub entry_pair : (entry : Entry) → place < length entries → entry ≡ get_or entries place entry → drop place (pairs_of bytes entries) ≡ pair_of bytes entry ∷ drop (place + 1) (pairs_of bytes entries)
  entry_pair entry below is =
      drop_more (pairs_of bytes entries) place (pair_of bytes entry) (omega (arith, below, length-map entries (pair_of bytes)))
      ∙ ap (λ (p : List ℕ × List ℕ). p ∷ drop (place + 1) (pairs_of bytes entries)) (get_or-map (pair_of bytes) entries place entry (pair_of bytes entry) below ∙ ap (pair_of bytes) (sym is))

  behind : (n : ℕ) → pairs_of bytes (drop n entries) ≡ drop n (pairs_of bytes entries)
  behind n = sym (drop-map (pair_of bytes) n entries)

  in_front : pairs_of bytes (take place entries) ≡ take place (pairs_of bytes entries)
  in_front = sym (take-map (pair_of bytes) place entries)

  one_behind : pairs_of bytes (drop (suc place) entries) ≡ drop (place + 1) (pairs_of bytes entries)
  one_behind = behind (suc place) ∙ ap (λ (n : ℕ). drop n (pairs_of bytes entries)) (sym (add-one place))

  pub set_pairs : (new : Entry) → place < length entries → pairs_of bytes (set entries place new) ≡ take place (pairs_of bytes entries) ++ (pair_of bytes new ∷ drop (place + 1) (pairs_of bytes entries))
  set_pairs new below =
      ap (pairs_of bytes) (set_split entries place new below) ∙ map-append (pair_of bytes) (take place entries) (new ∷ drop (suc place) entries)
      ∙ ap (λ (l : Map). l ++ (pair_of bytes new ∷ pairs_of bytes (drop (suc place) entries))) in_front
      ∙ ap (λ (l : Map). take place (pairs_of bytes entries) ++ (pair_of bytes new ∷ l)) one_behind

  pub insert_pairs : (new : Entry) → pairs_of bytes (insert entries place new) ≡ take place (pairs_of bytes entries) ++ (pair_of bytes new ∷ drop place (pairs_of bytes entries))
  insert_pairs new =
      map-append (pair_of bytes) (take place entries) (new ∷ drop place entries)
      ∙ ap (λ (l : Map). l ++ (pair_of bytes new ∷ pairs_of bytes (drop place entries))) in_front
      ∙ ap (λ (l : Map). take place (pairs_of bytes entries) ++ (pair_of bytes new ∷ l)) (behind place)

  pub remove_pairs : pairs_of bytes (remove entries place) ≡ take place (pairs_of bytes entries) ++ drop (place + 1) (pairs_of bytes entries)
  remove_pairs =
      map-append (pair_of bytes) (take place entries) (drop (suc place) entries)
      ∙ ap (λ (l : Map). l ++ pairs_of bytes (drop (suc place) entries)) in_front
      ∙ ap (λ (l : Map). take place (pairs_of bytes entries) ++ l) one_behind

-- the place that was found is the key's own, or lies between others
pub own_place : (bytes key : List ℕ) (entries : List Entry) (place : ℕ) (entry : Entry) → IsPlaceOf key (pairs_of bytes entries) place → place < length entries → entry ≡ get_or entries place entry → part_of bytes entry.key ≡ key → HasKeyAt key (pairs_of bytes entries) place
own_place bytes key entries place entry at below is own = record {
  at = at;
  value = part_of bytes entry.value;
  here = entry_pair bytes entries place entry below is ∙ ap (λ (k : List ℕ). (k, part_of bytes entry.value) ∷ drop (place + 1) (pairs_of bytes entries)) own;
}

pub end_place : (bytes key : List ℕ) (entries : List Entry) (place : ℕ) → IsPlaceOf key (pairs_of bytes entries) place → length entries ≤ place → LacksKeyAt key (pairs_of bytes entries) place
end_place bytes key entries place at over = record {
  at = at;
  above = subst (BeginsAbove key) (sym (drop_all place (pairs_of bytes entries) (omega (arith, over, length-map entries (pair_of bytes))))) tt;
}

pub other_place : (bytes key : List ℕ) (entries : List Entry) (place : ℕ) (entry : Entry) → IsPlaceOf key (pairs_of bytes entries) place → place < length entries → entry ≡ get_or entries place entry → part_of bytes entry.key ≢ key → LacksKeyAt key (pairs_of bytes entries) place
other_place bytes key entries place entry at below is differs =
    let stands = entry_pair bytes entries place entry below is in
    record { at = at; above = subst (BeginsAbove key) (sym stands) (by (key_order key (part_of bytes entry.key)) refl (first_of (λ q. ¬ IsBelow q.0 key) (pairs_of bytes entries) place (pair_of bytes entry) (drop (place + 1) (pairs_of bytes entries)) stands at.others)) }
  where
    by : (o : Ordering) → key_order key (part_of bytes entry.key) ≡ o → ¬ IsBelow (part_of bytes entry.key) key → IsBelow key (part_of bytes entry.key)
    by Less o isnt = o
    by Equal o isnt = absurd (differs (sym (same_key key (part_of bytes entry.key) o)))
    by Greater o isnt = absurd (isnt (above_turned key (part_of bytes entry.key) o))

-- what a comparison with `Equal` says
pub same_part : (a b c : List ℕ) (o : Ordering) (r : Bool) → a ≡ c → o ≡ key_order a b → r ≡ is_eq o → r ≡ true → c ≡ b
same_part a b c o r part is eq holds = sym part ∙ is_at_key a b (sym (eq ∙ ap is_eq is) ∙ holds)

pub other_part : (a b c : List ℕ) (o : Ordering) (r : Bool) → a ≡ c → o ≡ key_order a b → r ≡ is_eq o → r ≡ false → c ≢ b
other_part a b c o r part is eq fails same = cc (sym fails ∙ eq ∙ ap is_eq (is ∙ ap (λ (k : List ℕ). key_order k b) (part ∙ same) ∙ key_itself b))
