use Rattle.std.proofs.Common.{◌≡◌, ◌∷◌, ◌++◌, [], ℕ, List, length, drop, sym, ◌∙◌, ap, subst, arith}
use Rattle.std.specs.List.{All}
use Rattle.std.proofs.lemmas.List.{map_push, drop_all, append-nil}
use Rattle.std.proofs.lemmas.Grind.{common_steps}
use Rattle.base_bytes.specs.OrderedMap.{Map}
use Rattle.memchr.specs.Find.{is_byte3}
use Rattle.flat_db.specs.FlatText.{SaysPairs, canonical_text}
use Rattle.flat_db.specs.Entries.{pair_of, pairs_of, EndsBy}
use Rattle.flat_db.specs.declared.pairs.Entry.{Entry}
use Rattle.flat_db.proofs.FieldLemmas.{first_of_both, second_of_both}
use Rattle.flat_db.proofs.PlainLemmas.{test_later, written_more}
use Rattle.flat_db.proofs.LineLemmas.{pairs_below, ends_later, says_later, flawed_there, all_push, drop_later}
use Rattle.flat_db.proofs.reading.read_lines.Goals as goal

pub returns-in-Err-clause-fault : goal.returns-in-Err-clause-fault
returns-in-Err-clause-fault c =
    let inv = c.loop-at.invariant in
    flawed_there c.args.text.now c.loop-at.text c.loop-at.at (pairs_of c.loop-at.text c.loop-at.entries.items) _ (omega arith) inv.rest inv.pairs c.in-Err.ensures.flaw

pub loop-at-preserved : goal.loop-at-preserved
loop-at-preserved c =
    let old = c.loop-at.text in
    let text = c.next_line.new.text in
    let entries = c.loop-at.entries.items in
    let line = c.in-Ok.line in
    let inv = c.loop-at.invariant in
    let next = c.in-Ok.ensures.next in
    let long : length text ≡ length old = omega arith in
    let items : c.push.new.self.items ≡ entries ++ (line.entry ∷ []) = grind (arith, common_steps) in
    let same = pairs_below old text c.loop-at.at entries c.in-Ok.ensures.before inv.ends in
    record {
      within = omega (arith, long, next.1);
      long = long ∙ inv.long;
      rest = c.in-Ok.ensures.after ∙ drop_later c.loop-at.at line.next old c.args.text.now (omega (arith, next.0)) inv.rest;
      pairs = subst (λ (m : Map). SaysPairs c.args.text.now m (drop line.next c.args.text.now)) (ap (λ (m : Map). m ++ (pair_of text line.entry ∷ [])) (sym same) ∙ sym (map_push (pair_of text) entries line.entry) ∙ ap (pairs_of text) (sym items))
          (says_later c.args.text.now old c.loop-at.at line.next (pairs_of old entries) (pair_of text line.entry) (omega (arith, next.0)) inv.rest inv.pairs c.in-Ok.ensures.pair);
      ends = subst (λ (l : List Entry). All (EndsBy line.next) l) (sym items) (all_push line.next entries line.entry (ends_later c.loop-at.at line.next entries (omega (arith, next.0)) inv.ends) c.in-Ok.ensures.ends);
      known = omega (arith, long, c.plain_end-known.ensures.within);
      plain = test_later (is_byte3 255 0 13) old text c.loop-at.at line.next c.plain_end-known.result (omega (arith, next.0)) c.in-Ok.ensures.after c.plain_end-known.ensures.plain;
      written = λ is.
          let plain = second_of_both c.loop-at.is_plain line.is_plain is in
          subst (λ (l : List Entry). text ≡ canonical_text (pairs_of text l) ++ drop line.next text) (sym items)
          (written_more old text c.loop-at.at line.next entries line.entry (c.in-Ok.ensures.same plain) (inv.written (first_of_both c.loop-at.is_plain line.is_plain is)) (c.in-Ok.ensures.written plain).written);
    }

pub returns-clause-plain : goal.returns-clause-plain
returns-clause-plain c is =
    let text = c.loop-at.text in
    let whole = canonical_text (pairs_of text c.loop-at.entries.items) in
    sym (c.loop-at.invariant.written is ∙ ap (λ (l : List ℕ). whole ++ l) (drop_all c.loop-at.at text (omega arith)) ∙ append-nil whole)
