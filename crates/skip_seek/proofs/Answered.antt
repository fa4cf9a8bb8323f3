-- What a search tells of the record that it finds.
use Rattle.std.proofs.Common.{◌≡◌, ◌≢◌, ℕ, Bool, true, false, List, [], ◌∷◌, ◌++◌, length, Some, refl, sym, ap, subst, ◌∙◌, inl, inr, ◌⊎◌, arith, append_assoc}
use Rattle.base_bytes.specs.OrderedMap.{BeginsAbove}
use Rattle.skip_spec.specs.Records.{key_in, value_in}
use Rattle.skip_spec.specs.Successor.{successor_under}
use Rattle.skip_spec.specs.Chain.{Entry, Chain, StandsAsEntry, pairs}
use Rattle.skip_spec.specs.Change.{first_at, last_at}
use Rattle.skip_spec.specs.Live.{Live}
use Rattle.skip_spec.specs.Place.{Place, first_value, first_pair}
use Rattle.skip_spec.proofs.Lists.{last_more}
use Rattle.skip_spec.proofs.SameLog.{high_in_log}
use Rattle.skip_spec.proofs.Splice.{below_not_same}
use Rattle.skip_lists.proofs.Walks.{next_is}
use Rattle.skip_image.specs.Image.{HasRecord, CanStep}
use Rattle.skip_seek.proofs.Reading.{first_stands, can_step}
use Rattle.skip_seek.proofs.Walking.{entry_of}

module _ (b starts : List ℕ) (es : List Entry) (live : Live b starts es) where
  pub entry_there : (front : List Entry) (e : Entry) (back : List Entry) → es ≡ front ++ e ∷ back → StandsAsEntry b starts e
  entry_there front e back split = entry_of b (length b) starts 64 [] front e back (subst (λ (l : List Entry). Chain b (length b) starts 64 [] l) split live.listed.log.chain)

  pub some_offset : (front : List Entry) (e : Entry) (back : List Entry) → es ≡ front ++ e ∷ back → e.at ≢ 0
  some_offset front e back split z = let high = high_in_log b starts es (length b) live.listed.log e.at (entry_there front e back split).start in omega (arith, high, z)

  -- ---- the first of the records that are left

  pub record_or_none : (front back : List Entry) (at : ℕ) → es ≡ front ++ back → at ≡ first_at back → (at ≡ 0) ⊎ HasRecord b at
  record_or_none front [] at split is = inl is
  record_or_none front (e ∷ back) at split is = inr (subst (λ (v : ℕ). HasRecord b v) (sym is) (first_stands b starts es live front e back split))

  pub record_there : (front back : List Entry) (at : ℕ) → es ≡ front ++ back → at ≡ first_at back → at ≢ 0 → HasRecord b at
  record_there front back at split is some = elim (record_or_none front back at split is) [ inl z ↦ absurd (some z) | inr there ↦ there ]

  pub none_at_end : (front back : List Entry) (at : ℕ) → es ≡ front ++ back → at ≡ first_at back → at ≡ 0 → back ≡ []
  none_at_end front [] at split is z = refl
  none_at_end front (e ∷ back) at split is z = absurd (some_offset front e back split (sym is ∙ z))

  pub pair_there : (front back : List Entry) (at : ℕ) → es ≡ front ++ back → at ≡ first_at back → at ≢ 0 → first_pair back ≡ Some (key_in b at, value_in b at)
  pair_there front [] at split is some = absurd (some is)
  pair_there front (e ∷ back) at split is some =
      let there = entry_there front e back split in
      let key : key_in b at ≡ e.key = ap (key_in b) is ∙ there.key in
      let value : value_in b at ≡ e.value = ap (value_in b) is ∙ there.value in
      λ i. Some (sym key i, sym value i)

  -- ---- from a record to the next one

  pub record Onward (at : ℕ) (back : List Entry) : Type 0 where
    pub passed : List Entry
    pub parts : es ≡ passed ++ back
    pub step : CanStep b (length b) at
    pub next : successor_under b (length b) at ≡ first_at back

  onward : (front : List Entry) (e : Entry) (back : List Entry) → es ≡ front ++ e ∷ back → (at : ℕ) → at ≡ e.at → Onward at back
  onward front e back split at is =
      let more : es ≡ (front ++ e ∷ []) ++ back = split ∙ sym (append_assoc front (e ∷ []) back) in
      let last : last_at 64 (front ++ e ∷ []) ≡ at = last_more 64 front e ∙ sym is in
      record {
        passed = front ++ e ∷ [];
        parts = more;
        step = subst (λ (v : ℕ). CanStep b (length b) v) last (can_step b starts es live (front ++ e ∷ []) back more);
        next = ap (successor_under b (length b)) (sym last) ∙ next_is b starts es (length b) live.listed.log (front ++ e ∷ []) back more;
      }

  -- the first of the records that are left, and the way on from it
  pub record Leading (at : ℕ) (records : List Entry) : Type 0 where
    pub back : List Entry
    pub pairs_are : pairs records ≡ (key_in b at, value_in b at) ∷ pairs back
    pub on : Onward at back

  pub leading : (front records : List Entry) (at : ℕ) → es ≡ front ++ records → at ≡ first_at records → at ≢ 0 → Leading at records
  leading front [] at split is some = absurd (some is)
  leading front (e ∷ back) at split is some =
      let there = entry_there front e back split in
      let key : key_in b at ≡ e.key = ap (key_in b) is ∙ there.key in
      let value : value_in b at ≡ e.value = ap (value_in b) is ∙ there.value in
      record { back = back; pairs_are = λ i. (sym key i, sym value i) ∷ pairs back; on = onward front e back split at is }

  -- ---- at the place of a key

  module _ (key : List ℕ) (place : Place es key) (here : ℕ) (is : here ≡ first_at (place.dropped ++ place.rest)) where
    one_split : (e : Entry) → place.dropped ≡ e ∷ [] → es ≡ place.front ++ e ∷ place.rest
    one_split e one = place.split ∙ ap (λ (ds : List Entry). place.front ++ (ds ++ place.rest)) one

    one_here : (e : Entry) → place.dropped ≡ e ∷ [] → here ≡ e.at
    one_here e one = is ∙ ap (λ (ds : List Entry). first_at (ds ++ place.rest)) one

    -- the first record past the place has another key
    other_key : (rest : List Entry) → BeginsAbove key (pairs rest) → es ≡ place.front ++ rest → here ≡ first_at rest → here ≢ 0 → key_in b here ≢ key
    other_key [] above split first some same = some first
    other_key (e ∷ rest) above split first some same =
        below_not_same key e.key above (sym same ∙ ap (key_in b) first ∙ (entry_there place.front e rest split).key)

    pub found_dropped : here ≢ 0 → key_in b here ≡ key → place.dropped ≢ []
    found_dropped some same none =
        other_key place.rest place.above (place.split ∙ ap (λ (ds : List Entry). place.front ++ (ds ++ place.rest)) none) (is ∙ ap (λ (ds : List Entry). first_at (ds ++ place.rest)) none) some same

    pub dropped_found : place.dropped ≢ [] → (here ≢ 0) × (key_in b here ≡ key)
    dropped_found some = elim place.same_key [
      | inl none ↦ absurd (some none)
      | inr one ↦
          let at = one_here one.0 one.1 in
          let split = one_split one.0 one.1 in
          ((λ z. some_offset place.front one.0 place.rest split (sym at ∙ z)), ap (key_in b) at ∙ (entry_there place.front one.0 place.rest split).key ∙ one.2)
    ]

    pub its_value : place.dropped ≢ [] → first_value place.dropped ≡ Some (value_in b here)
    its_value some = elim place.same_key [
      | inl none ↦ absurd (some none)
      | inr one ↦
          let value : value_in b here ≡ one.0.value = ap (value_in b) (one_here one.0 one.1) ∙ (entry_there place.front one.0 place.rest (one_split one.0 one.1)).value in
          ap first_value one.1 ∙ (λ i. Some (sym value i))
    ]

    -- from the record of the key to the next one
    pub past_found : place.dropped ≢ [] → Onward here place.rest
    past_found some = elim place.same_key [
      | inl none ↦ absurd (some none)
      | inr one ↦ onward place.front one.0 place.rest (one_split one.0 one.1) here (one_here one.0 one.1)
    ]

-- where the key was not found, no record has it
pub none_dropped : (es : List Entry) (key : List ℕ) (place : Place es key) (exact : Bool) → (place.dropped ≢ [] → exact ≡ true) → exact ≡ false → place.dropped ≡ []
none_dropped es key place exact there isnt = elim place.same_key [
  | inl none ↦ none
  | inr one ↦ absurd (let yes = there (λ none. let h : one.0 ∷ [] ≡ [] = sym one.1 ∙ none in cc) in cc)
]
