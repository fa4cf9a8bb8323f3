use Rattle.std.proofs.Common.{◌≡◌, ◌+◌, ◌-◌, ℕ, List, length, take, drop, refl, sym, ◌∙◌, ap, subst, arith}
use Rattle.std.specs.Prelude.{min}
use borrow.Rule.Slice.PartMut.{put_mid}
use Rattle.std.proofs.lemmas.Slice.{drop-put_mid}
use Rattle.flat_db.specs.FlatText.{SaysPair}
use Rattle.flat_db.proofs.LineLemmas.{line_of, has_line_at, front_part, later_part}
use Rattle.flat_db.proofs.lines.line_at.Goals as goal

pub returns-in-Ok-clause-after : goal.returns-in-Ok-clause-after
returns-in-Ok-clause-after c =
    let long : length c.read_line.new.line ≡ c.line_end-end.result - c.args.at = omega arith in
    drop-put_mid c.args.at (c.line_end-end.result - c.args.at) c.args.text.now c.read_line.new.line c.min.result (omega arith) (omega arith) long

pub returns-in-Ok-clause-pair : goal.returns-in-Ok-clause-pair
returns-in-Ok-clause-pair c =
    let text = c.args.text.now in
    let at = c.args.at in
    let end = c.line_end-end.result in
    let new = c.read_line.new.line in
    let fields = c.in-Ok.fields in
    let within = c.in-Ok.ensures.within in
    let next : c.min.result ≡ min (end + 1) (length text) = omega arith in (
      line_of text at end,
      has_line_at text at end c.min.result c.requires.some c.line_end-end.ensures.ordered c.line_end-end.ensures.within c.line_end-end.ensures.free c.line_end-end.ensures.ends next,
      subst (λ (k : List ℕ). SaysPair (line_of text at end) (k, take fields.value (drop (at + fields.tab + 1) (put_mid at (end - at) text new)))) (sym (front_part at (end - at) fields.key text new (omega arith) (omega (arith, within.0, within.1))))
          (subst (λ (v : List ℕ). SaysPair (line_of text at end) (take fields.key new, v))
          (sym (ap (λ (n : ℕ). take fields.value (drop n (put_mid at (end - at) text new))) (omega arith) ∙ later_part at (end - at) (fields.tab + 1) fields.value text new (omega arith) within.1)) c.in-Ok.ensures.pair),
    )

pub returns-in-Err-clause-flaw : goal.returns-in-Err-clause-flaw
returns-in-Err-clause-flaw c =
    let text = c.args.text.now in
    let end = c.line_end-end.result in
    record {
      line = line_of text c.args.at end;
      later = drop (min (end + 1) (length text)) text;
      offset = c.in-Err.flaw.at;
      first = has_line_at text c.args.at end (min (end + 1) (length text)) c.requires.some c.line_end-end.ensures.ordered c.line_end-end.ensures.within c.line_end-end.ensures.free c.line_end-end.ensures.ends refl;
      flaw = c.in-Err.ensures.flaw;
      place = refl;
    }
