use Rattle.std.proofs.Common.{◌≡◌, ◌<◌, ◌≤◌, ◌++◌, ℕ, List, length, drop, sym, ◌∙◌, ap, subst, arith, length-append}
use Rattle.std.proofs.lemmas.List.{length-drop}
use Rattle.std.specs.declared.cmp.Ordering.TheVariants.{Less}
use Rattle.base_bytes.specs.OrderedMap.{key_order}
use Rattle.flat_db.specs.Entries.{part_of}
use Rattle.flat_db.specs.FlatText.{pair_line}
use Rattle.flat_db.proofs.PlaceLemmas.{is_below}
use Rattle.flat_db.proofs.ShowingLemmas.{said_none, said_more, said_all}
use Rattle.flat_db.proofs.Sizes.{line_length}
use Rattle.flat_db.proofs.showing.is_bare.Goals as goal

-- a line ends behind its begin
later : (text key value : List ℕ) (at next : ℕ) → next ≤ length text → drop at text ≡ pair_line key value ++ drop next text → at < next
later text key value at next within is = omega (arith, within, ap length is, length-append (pair_line key value) (drop next text), line_length key value, length-drop at text, length-drop next text)

pub loop-at-init : goal.loop-at-init
loop-at-init c = record {
  within = omega arith;
  known = omega arith;
  plain = λ k from below is. omega (arith, below);
  said = said_none c.args.text.now _;
}

pub loop-at-smaller : goal.loop-at-smaller
loop-at-smaller c =
    let has = c.in-Some.ensures.written in
    omega (arith, has.within, later c.args.text.now _ _ c.loop-at.at c.in-Some.line.next has.within has.written)

pub loop-at-preserved : goal.loop-at-preserved
loop-at-preserved c =
    let text = c.args.text.now in
    let at = c.loop-at.at in
    let line = c.in-Some.line in
    let last = part_of text c.loop-at.last in
    let has = c.in-Some.ensures.written in
    let after = later text _ _ at line.next has.within has.written in
    let less : c.compare_keys.result ≡ Less = is_below c.compare_keys.result (sym c.is_lt.ensures ∙ c.if-not-is_lt.false) in
    let below : key_order last (part_of text line.entry.key) ≡ Less =
    subst (λ (k : List ℕ). key_order last k ≡ Less) c.part-in-loop-at.ensures (subst (λ (k : List ℕ). key_order k c.part-in-loop-at.result.now ≡ Less) c.part.ensures (sym c.compare_keys.ensures ∙ less)) in
    record {
      within = has.within;
      known = omega (arith, c.plain_end-known.ensures.within);
      plain = λ k from below is. c.plain_end-known.ensures.plain k (omega (arith, from, after)) below is;
      said = said_more text last at line.next line.entry c.loop-at.invariant.said below has.some has.written has.key_stands has.value_stands;
    }

pub returns : goal.returns
returns c = λ _. said_all c.args.text.now (part_of c.args.text.now c.loop-at.last) c.loop-at.at (omega arith) c.loop-at.invariant.said
