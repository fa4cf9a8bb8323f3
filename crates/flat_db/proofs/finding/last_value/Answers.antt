use Rattle.std.proofs.Common.{◌≡◌, ◌++◌, ◌∷◌, ◌≤◌, [], cond, ℕ, List, Option, Some, None, length, take, refl, sym, ◌∙◌, ap, subst, arith}
use Rattle.std.specs.Option.{option_map}
use Rattle.std.specs.BTreeMap.{is_at}
use Rattle.std.proofs.lemmas.List.{drop_all}
use Rattle.std.proofs.lemmas.List.Sums.{fold-append}
use Rattle.base_bytes.specs.OrderedMap.{Map, key_order, value_at}
use Rattle.base_bytes.proofs.OrderedMaps.{value_put}
use Rattle.memchr.specs.Find.{is_byte}
use Rattle.flat_db.specs.FlatText.{SaysPairs, put_all}
use Rattle.flat_db.specs.Entries.{pair_of, part_of}
use Rattle.flat_db.specs.Finding.{IsSpanWithin}
use Rattle.flat_db.specs.declared.pairs.Span.{Span}
use Rattle.flat_db.proofs.Canonical.{put_pair}
use Rattle.flat_db.proofs.LineLemmas.{flawed_there, says_later, drop_later, part_below}
use Rattle.flat_db.proofs.PlainLemmas.{test_later}
use Rattle.flat_db.proofs.finding.last_value.Goals as goal

-- the value that was found is still there
still_found : (old new : List ℕ) (at : ℕ) (found : Option Span) → ◌≡◌ {A = List ℕ} (take at new) (take at old) → IsSpanWithin at found → option_map (part_of new) found ≡ option_map (part_of old) found
still_found old new at None same ends = refl
still_found old new at (Some span) same ends = ap Some (part_below old new at span same ends)

span_later : (at next : ℕ) (found : Option Span) → at ≤ next → IsSpanWithin at found → IsSpanWithin next found
span_later at next None later ends = tt
span_later at next (Some span) later ends = omega (arith, later, ends)

nothing : (key : List ℕ) → None ≡ value_at [] key
unfolding value_at
nothing key = refl

-- the value with one pair more
value_more : (pairs : Map) (p : List ℕ × List ℕ) (key : List ℕ) → value_at (put_all (pairs ++ (p ∷ []))) key ≡ cond (is_at (key_order key) p.0) (Some p.1) (value_at (put_all pairs) key)
value_more pairs p key =
    ap (λ (m : Map). value_at m key) (fold-append put_pair [] pairs (p ∷ []))
    ∙ value_put (put_all pairs) p.0 p.1 key

pub loop-at-init : goal.loop-at-init
loop-at-init c = record {
  within = omega arith;
  long = refl;
  rest = refl;
  said = ([], refl, nothing c.args.key.now);
  ends = tt;
  known = omega arith;
  unescaped = λ k from below is. omega (arith, below);
}

pub returns-in-Err-clause-fault : goal.returns-in-Err-clause-fault
returns-in-Err-clause-fault c =
    let inv = c.loop-at.invariant in
    flawed_there c.args.text.now c.loop-at.text c.loop-at.at inv.said.0 _ (omega arith) inv.rest inv.said.1 c.in-Err.ensures.flaw

pub loop-at-preserved : goal.loop-at-preserved
loop-at-preserved c =
    let text = c.args.text.now in
    let old = c.loop-at.text in
    let new = c.any_line.new.text in
    let at = c.loop-at.at in
    let line = c.in-Ok.line in
    let inv = c.loop-at.invariant in
    let next = c.in-Ok.ensures.next in
    let long : length new ≡ length old = omega arith in
    let pair = pair_of new line.entry in
    record {
      within = omega (arith, long, next.1);
      long = long ∙ inv.long;
      rest = c.in-Ok.ensures.after ∙ drop_later at line.next old text (omega (arith, next.0)) inv.rest;
      said = (
        inv.said.0 ++ (pair ∷ []),
        says_later text old at line.next inv.said.0 pair (omega (arith, next.0)) inv.rest inv.said.1 c.in-Ok.ensures.pair,
        c.later_value-found.ensures.value
            ∙ ap (λ (v : Option (List ℕ)). cond (is_at (key_order c.args.key.now) pair.0) (Some pair.1) v) (still_found old new at c.loop-at.found c.in-Ok.ensures.before inv.ends ∙ inv.said.2)
            ∙ sym (value_more inv.said.0 pair c.args.key.now),
      );
      ends = c.later_value-found.ensures.ends line.next c.in-Ok.ensures.ends (span_later at line.next c.loop-at.found (omega (arith, next.0)) inv.ends);
      known = omega (arith, long, c.unescaped_end-known.ensures.within);
      unescaped = test_later (is_byte 255) old new at line.next c.unescaped_end-known.result (omega (arith, next.0)) c.in-Ok.ensures.after c.unescaped_end-known.ensures.unescaped;
    }

pub returns-clause-found : goal.returns-clause-found
returns-clause-found c =
    let said = c.loop-at.invariant.said in
    record {
      map = put_all said.0;
      reads = record { pairs = said.0; lines = subst (λ (l : List ℕ). SaysPairs c.args.text.now said.0 l) (drop_all c.loop-at.at c.args.text.now (omega arith)) said.1; later_wins = refl };
      found = said.2;
    }
