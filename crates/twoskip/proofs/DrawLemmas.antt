-- Pairs with the levels of random words.
use Rattle.std.proofs.Common.{◌≡◌, ℕ, zero, suc, ◌+◌, ◌≤◌, Bool, true, false, cond, List, [], ◌∷◌, ◌++◌, Some, None, length, refl, sym, ap, ◌∙◌, append_assoc, arith}
use Rattle.std.proofs.lemmas.List.{map-append}
use Rattle.std.specs.Prelude.{Option, nat_lt, ◌==◌}
use Rattle.std.specs.List.{AllByRecursion}
use Rattle.std.specs.Option.{option_or}
use Rattle.base_bytes.specs.OrderedMap.{Map}
use Rattle.base_bytes.specs.declared.limits.TheConstants.{KEY_LIMIT, VALUE_LIMIT}
use Rattle.db_core.specs.declared.fault.DbFault.{DbFault}
use Rattle.db_core.specs.declared.fault.DbFault.TheVariants.{KeyEmpty, KeyTooLong, ValueTooLong}
use Rattle.db_fill.specs.Filling.{first_words, left_after, pairs_refusal}
use Rattle.rand_core.specs.Stream.{Stream, next_u32}
use Rattle.skip_spec.specs.Layout.{Item, level_for}
use Rattle.skip_layout.specs.declared.item.LayoutItem.{LayoutItem}
use Rattle.skip_layout.specs.Items.{FitsRecord, item_of, items_in}
use Rattle.twoskip.specs.Filling.{items_by}

-- one word more is drawn
left_suc : (count : ℕ) (words : Stream) → left_after (suc count) words ≡ (next_u32 (left_after count words)).1
left_suc zero words = refl
left_suc (suc count) words = left_suc count (next_u32 words).1

pub left_more : (count : ℕ) (words : Stream) → left_after (count + 1) words ≡ (next_u32 (left_after count words)).1
left_more count words = let e : count + 1 ≡ suc count = omega arith in ap (λ (n : ℕ). left_after n words) e ∙ left_suc count words

-- the first of some pairs, with the level of the next word
pub first_item : (m : Map) (key value : List ℕ) (rest : Map) (words next : Stream) (word level : ℕ) → m ≡ (key, value) ∷ rest → (word, next) ≡ next_u32 words → level ≡ level_for word
    → items_by m words ≡ record { level = level; key = key; value = value } ∷ items_by rest next
first_item m key value rest words next word level is drawn is_level =
    ap (λ (n : Map). items_by n words) is
    ∙ ap (λ (q : ℕ × Stream). record { level = level_for q.0; key = key; value = value } ∷ items_by rest q.1) (sym drawn)
    ∙ ap (λ (n : ℕ). record { level = n; key = key; value = value } ∷ items_by rest next) (sym is_level)

-- one item more
pub items_more : (items : List LayoutItem) (item : LayoutItem) (whole rest : List Item) → items_in items ++ item_of item ∷ rest ≡ whole → items_in (items ++ item ∷ []) ++ rest ≡ whole
items_more items item whole rest is = ap (λ (l : List Item). l ++ rest) (map-append item_of items (item ∷ [])) ∙ append_assoc (items_in items) (item_of item ∷ []) rest ∙ is

pub length-words : (count : ℕ) (words : Stream) → length (first_words count words) ≡ count
length-words zero words = refl
length-words (suc count) words = omega (arith, length-words count (next_u32 words).1)

-- ---- pairs that may be stored fit records

record NoFault (b c : Bool) (later : Option DbFault) : Type 0 where
  key : b ≡ false
  value : c ≡ false
  rest : later ≡ None

no_fault : (a b c : Bool) (key value : ℕ) (rest : Option DbFault) → option_or (cond a (Some KeyEmpty) (cond b (Some (KeyTooLong key)) (cond c (Some (ValueTooLong value)) None))) rest ≡ None → NoFault b c rest
no_fault true b c key value rest is = absurd (cc is)
no_fault false true c key value rest is = absurd (cc is)
no_fault false false true key value rest is = absurd (cc is)
no_fault false false false key value rest is = record { key = refl; value = refl; rest = is }

-- a level is from 1 to 31
fits : (word : ℕ) (key value : List ℕ) → length key ≤ KEY_LIMIT → length value ≤ VALUE_LIMIT → FitsRecord (record { level = level_for word; key = key; value = value })
fits word key value short small = record {
  low = omega arith;
  high = omega arith;
  key_fits = omega (arith, short);
  value_fits = omega (arith, small);
}

within : (n limit : ℕ) → nat_lt limit n ≡ false → n ≤ limit
within n limit is = grind (arith, is)

pub items_fit : (m : Map) (words : Stream) → pairs_refusal m ≡ None → AllByRecursion FitsRecord (items_by m words)
items_fit [] words none = tt
items_fit (p ∷ m) words none =
    let may = no_fault (length p.0 == 0) (nat_lt KEY_LIMIT (length p.0)) (nat_lt VALUE_LIMIT (length p.1)) (length p.0) (length p.1) (pairs_refusal m) none in
    (fits (next_u32 words).0 p.0 p.1 (within (length p.0) KEY_LIMIT may.key) (within (length p.1) VALUE_LIMIT may.value), items_fit m (next_u32 words).1 may.rest)
