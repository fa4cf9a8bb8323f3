-- Conversion and repack keep the map.
use Rattle.std.proofs.Common.{◌≡◌, ℕ, ◌+◌, ◌*◌, ◌/◌, ◌^◌, ◌<◌, List, [], ◌∷◌, length, refl, sym, ap, subst, ◌∙◌, inr, arith}
use Rattle.std.specs.List.{AllByRecursion}
use Rattle.base_bytes.specs.Fields.{AreBytes}
use Rattle.base_bytes.specs.OrderedMap.{Map, BeginsAbove, IsOrderedMap}
use Rattle.base_bytes.proofs.Parts.{AreBytes-part, length-part}
use Rattle.skip_form.specs.declared.head.Kind as kinds
use Rattle.skip_form.specs.Flaws.{head_in}
use Rattle.skip_form.specs.Spelling.{IsLevelOf, AreLengthsOf}
use Rattle.skip_spec.specs.Records.{head_size_of}
use Rattle.skip_spec.specs.Chain.{Entry, Chain, StandsAsEntry, pairs}
use Rattle.skip_spec.specs.Opens.{Contents, Reads, Opens}
use Rattle.skip_spec.specs.Layout.{Item, IsItem, IsPair, FitsLayout, fresh_layout, fresh_size, fresh_contents, pairs_of, items_of, with_words, next_generation, Converted, Repacked}
use Rattle.skip_spec.proofs.Kept.{row_at}
use Rattle.skip_spec.proofs.LayoutLemmas.{fresh}
use Rattle.skip_spec.proofs.Meanings.{chain_rises}
use Rattle.skip_spec.proofs.Places.{within, laid-rows}
use Rattle.skip_spec.proofs.Unique.{reads_same}

-- a layout opens to its pairs
layout_opens : (generation flags : ℕ) (items : List Item) (m : Map) (file : List ℕ) → FitsLayout generation flags items → pairs_of items ≡ m → file ≡ fresh_layout generation flags items → Opens file m
layout_opens generation flags items m file fits is e =
    let f = fresh generation flags items fits in
    subst (λ (b : List ℕ). Opens b m) (sym e) (record { says = fresh_contents generation flags items; reads = f.reads; map = f.map ∙ is; sound = inr f.tidy })

-- ---- conversion

words_pairs : (m : Map) (words : List ℕ) → length words ≡ length m → pairs_of (with_words m words) ≡ m
words_pairs [] words e = refl
words_pairs (p ∷ m) [] e = absurd (omega (arith, e))
words_pairs (p ∷ m) (w ∷ words) e = ap (λ (n : Map). p ∷ n) (words_pairs m words (omega (arith, e)))

words_items : (m : Map) (words : List ℕ) → AllByRecursion (λ p. IsPair p.0 p.1) m → AllByRecursion IsItem (with_words m words)
words_items [] words all = tt
words_items (p ∷ m) [] all = tt
words_items (p ∷ m) (w ∷ words) all =
    let is = all.0 in
    (record { low = omega arith; high = omega arith; key = is.key_bytes; value = is.value_bytes; key_fits = is.key_fits; value_fits = is.value_fits }, words_items m words all.1)

pub converted_opens : (m : Map) (words file : List ℕ) → Converted m words file → IsOrderedMap m → BeginsAbove [] m → AllByRecursion (λ p. IsPair p.0 p.1) m → fresh_size (with_words m words) < 2 ^ 64 → Opens file m
converted_opens m words file is ordered some each small =
    let same = words_pairs m words is.0 in
    layout_opens 1 0 (with_words m words) m file
    (record {
      each = words_items m words each;
      some_keys = subst (BeginsAbove []) (sym same) some;
      ordered = subst IsOrderedMap (sym same) ordered;
      size = small;
      generation_fits = omega arith;
      flags_fit = omega arith;
      clean = refl;
    })
    same is.1

-- ---- repack

chain_pairs : (es : List Entry) → pairs_of (items_of es) ≡ pairs es
chain_pairs [] = refl
chain_pairs (e ∷ es) = ap (λ (m : Map). (e.key, e.value) ∷ m) (chain_pairs es)

module _ (old : List ℕ) (says : Contents) (bytes : AreBytes old) (r : Reads old says) where
  item_of : (e : Entry) → StandsAsEntry old says.starts e → (let i : Item = record { level = e.level; key = e.key; value = e.value } in IsItem i)
  item_of e is =
      let stands = row_at old 336 says.starts says.header.current_size e.at r.rows is.start in
      let span = within old 336 says.starts says.header.current_size e.at (laid-rows old 336 says.starts says.header.current_size r.rows) is.start in
      let level = subst (λ (k : kinds.Kind). IsLevelOf k (head_in old e.at).level) is.kind stands.head.level in
      let lengths = subst (λ (k : kinds.Kind). AreLengthsOf k (head_in old e.at).key_len (head_in old e.at).value_len) is.kind stands.head.lengths in
      let inside = r.inside in
      let key_long = length-part old (e.at + head_size_of (head_in old e.at)) (head_in old e.at).key_len (omega (arith, span.high, inside)) in
      let value_long = length-part old (e.at + head_size_of (head_in old e.at) + (head_in old e.at).key_len) (head_in old e.at).value_len (omega (arith, span.high, inside)) in
      record {
        low = omega (arith, level.0, is.level);
        high = omega (arith, level.1, is.level);
        key = λ i. subst (λ (k : List ℕ). AreBytes k) is.key (AreBytes-part old _ _ bytes) i;
        value = λ i. subst (λ (v : List ℕ). AreBytes v) is.value (AreBytes-part old _ _ bytes) i;
        key_fits = omega (arith, sym (ap length is.key) ∙ key_long, lengths.0);
        value_fits = omega (arith, sym (ap length is.value) ∙ value_long, lengths.1);
      }

  chain_items : (at : ℕ) (key : List ℕ) (es : List Entry) → Chain old says.header.current_size says.starts at key es → AllByRecursion IsItem (items_of es)
  chain_items at key [] c = tt
  chain_items at key (e ∷ es) c = (item_of e c.1, chain_items e.at e.key es c.3)

pub repacked_opens : (old file : List ℕ) (m : Map) → AreBytes old → Opens old m → Repacked old file → ((says : Contents) → Reads old says → fresh_size (items_of says.chain) < 2 ^ 64) → Opens file m
repacked_opens old file m bytes o is size =
    let says = is.0 in
    let r = is.1 in
    let same = reads_same old o.says says o.reads r in
    let rises = chain_rises old says.header.current_size says.starts 64 [] says.chain r.chain in
    let map_is : pairs_of (items_of says.chain) ≡ m = chain_pairs says.chain ∙ ap (λ (s : Contents). pairs s.chain) (sym same) ∙ o.map in
    layout_opens (next_generation says.header.generation) (says.header.flags / 2 * 2) (items_of says.chain) m file
    (record {
      each = chain_items old says bytes r 64 [] says.chain r.chain;
      some_keys = subst (BeginsAbove []) (sym (chain_pairs says.chain)) rises.0;
      ordered = subst IsOrderedMap (sym (chain_pairs says.chain)) rises.1;
      size = size says r;
      generation_fits = omega arith;
      flags_fit = omega (arith, r.fields.flags);
      clean = omega arith;
    })
    map_is is.2
