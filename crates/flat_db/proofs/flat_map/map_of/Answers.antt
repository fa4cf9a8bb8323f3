use Rattle.std.proofs.Common.{◌≡◌, ◌≤◌, ◌*◌, ℕ, List, length, drop, refl, sym, ◌∙◌, ap, subst, arith}
use Rattle.std.proofs.lemmas.List.{take_at}
use Rattle.flat_db.specs.FlatText.{canonical_text, FlatTextOf}
use Rattle.flat_db.specs.Entries.{pairs_of}
use Rattle.flat_db.specs.Kept.{IsKept}
use Rattle.flat_db.specs.declared.pairs.Entry.{Entry}
use Rattle.flat_db.proofs.Canonical.{text_is_ordered}
use Rattle.flat_db.proofs.KeptLemmas.{read_map}
use Rattle.flat_db.proofs.Sizes.{text_bound}
use Rattle.flat_db.proofs.flat_map.map_of.Goals as goal

-- the text of what was read is not too long to be counted
size_bound : (text bytes slice : List ℕ) (entries lent : List Entry) → slice ≡ bytes → lent ≡ entries → FlatTextOf text (pairs_of bytes entries) → length (canonical_text (pairs_of slice lent)) ≤ 2 * length text
size_bound text bytes slice entries lent same is of =
    omega (arith, ap (λ (l : List ℕ). length (canonical_text (pairs_of l lent))) same, ap (λ (e : List Entry). length (canonical_text (pairs_of bytes e))) is, text_bound text (pairs_of bytes entries) of)

pub text_size-size-requires-clause-counted : goal.text_size-size-requires-clause-counted
text_size-size-requires-clause-counted c =
    let read = c.read_lines.new.text in
    let long : length read ≡ c.args.text.len = omega arith in
    let whole = take_at read (drop (length read) c.args.text.items) c.args.text.len long in
    let of = read_map c.args.text.items read c.deref_mut.result.now c.deref-2.result.now c.read_lines.new.entries.items c.in_order.new.entries.items c.deref_mut.ensures.value (c.deref-2.ensures.value ∙ whole) c.in_ok-is_plain.ensures.pairs c.in-Ok-in_order.ensures.pairs in
    omega (arith, size_bound c.args.text.items read c.deref-3.result.now c.in_order.new.entries.items c.deref-4.result.now (c.deref-3.ensures.value ∙ whole) c.deref-4.ensures.value of)

pub invariant_of-result : goal.invariant_of-result
invariant_of-result c =
    let read = c.read_lines.new.text in
    let sorted = c.in_order.new.entries.items in
    let long : length read ≡ c.args.text.len = omega arith in
    let whole = take_at read (drop (length read) c.args.text.items) c.args.text.len long in
    let of = read_map c.args.text.items read c.deref_mut.result.now c.deref-2.result.now c.read_lines.new.entries.items sorted c.deref_mut.ensures.value (c.deref-2.ensures.value ∙ whole) c.in_ok-is_plain.ensures.pairs c.in-Ok-in_order.ensures.pairs in
    let counted : c.text_size-size.result ≡ length (canonical_text (pairs_of read sorted)) =
    c.text_size-size.ensures ∙ ap (λ (l : List ℕ). length (canonical_text (pairs_of l c.deref-4.result.now))) (c.deref-3.ensures.value ∙ whole) ∙ ap (λ (e : List Entry). length (canonical_text (pairs_of read e))) c.deref-4.ensures.value in
    subst (λ (l : List ℕ). IsKept l (record { entries = c.in_order.new.entries; size = c.text_size-size.result })) (sym whole) (record {
      sound = text_is_ordered c.args.text.items (pairs_of read sorted) of;
      ends = c.in-Ok-in_order.ensures.ends (length read) c.in_ok-is_plain.ensures.ends;
      counted = counted;
      short = omega arith;
      small = omega (arith, counted, size_bound c.args.text.items read read sorted sorted refl refl of);
    })
