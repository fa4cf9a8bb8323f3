use Rattle.std.proofs.Common.{◌≡◌, ◌<◌, ◌+◌, ◌-◌, ◌∷◌, ℕ, List, true, length, take, drop, get_or, refl, sym, ◌∙◌, ap, subst, arith}
use Rattle.std.specs.Prelude.{◌==◌}
use Rattle.std.proofs.lemmas.List.{take_rest, take_all, drop_more, get_or-drop, length-take-le, length-drop}
use Rattle.base_bytes.specs.Escapes.{Spells}
use Rattle.base_bytes.proofs.EscapeLemmas.{HasNoEscape, read_plain, read_escape, split_at}
use Rattle.base_bytes.proofs.escapes.bad_escape.Goals as goal

byte_is : (a b : ℕ) → (a == b) ≡ true → a ≡ b
byte_is a b is = grind (arith)

-- what was found from an offset on stands in the field
found_at : (field : List ℕ) (at plain : ℕ) → (get_or (take (length field - at) (drop at field)) plain 0 == 255) ≡ true → get_or field (at + plain) 0 ≡ 255
found_at field at plain is =
    sym (get_or-drop at field plain 0) ∙ ap (λ (l : List ℕ). get_or l plain 0) (sym (take_rest field at)) ∙ byte_is _ _ is

pub returns-then-not-ends_escape-clause-some : goal.returns-then-not-ends_escape-clause-some
returns-then-not-ends_escape-clause-some c =
    let field = c.args.field.now in
    let at = c.loop-plain.at in
    let plain = c.in-Some.plain in
    let found = c.in-Some.ensures in
    let none : HasNoEscape plain (drop at field) = subst (λ (l : List ℕ). HasNoEscape plain l) (take_rest field at) (λ i below is. found.0.before i (omega arith) below is) in
    let read = read_plain field at plain none c.loop-plain.invariant.read in
    let below : at + plain < length field = omega (arith, found.0.high, ap length (take_rest field at), length-drop at field) in
    record {
      bytes = read.0;
      front = take (at + plain) field;
      rest = drop (at + plain + 1) field;
      read = read.1;
      split = split_at field (at + plain) below (found_at field at plain found.1);
      place = sym (length-take-le (at + plain) field (omega arith));
      bad = λ byte after line. c.if-not-ends_escape.ensures.no refl byte after (ap (λ (l : List ℕ). 255 ∷ l) (take_rest field (at + plain + 1)) ∙ line);
    }

pub loop-plain-preserved : goal.loop-plain-preserved
loop-plain-preserved c =
    let field = c.args.field.now in
    let at = c.loop-plain.at in
    let plain = c.in-Some.plain in
    let found = c.in-Some.ensures in
    let none : HasNoEscape plain (drop at field) = subst (λ (l : List ℕ). HasNoEscape plain l) (take_rest field at) (λ i below is. found.0.before i (omega arith) below is) in
    let read = read_plain field at plain none c.loop-plain.invariant.read in
    let below : at + plain < length field = omega (arith, found.0.high, ap length (take_rest field at), length-drop at field) in
    let escape = c.if-not-ends_escape.ensures.yes refl in
    let here : drop (at + plain) field ≡ 255 ∷ escape.1 ∷ escape.2 =
    drop_more field (at + plain) 0 below ∙ ap (λ (b : ℕ). b ∷ drop (at + plain + 1) field) (found_at field at plain found.1)
    ∙ ap (λ (l : List ℕ). 255 ∷ l) (sym (take_rest field (at + plain + 1)) ∙ escape.3) in
    record {
      within = omega (arith, ap length here, length-drop (at + plain) field);
      read = read_escape field escape.2 (at + plain) escape.0 escape.1 here escape.4 read;
    }

pub returns-clause-none : goal.returns-clause-none
returns-clause-none c is =
    let field = c.args.field.now in
    let at = c.loop-plain.at in
    let left = length field - at in
    let long : length (take left (drop at field)) ≡ left = ap length (take_rest field at) ∙ length-drop at field in
    let nowhere = c.in_default.ensures in
    let none : HasNoEscape left (drop at field) = subst (λ (l : List ℕ). HasNoEscape left l) (take_rest field at) (λ i below is. nowhere i (omega arith) (omega (arith, long, below)) is) in
    let read = read_plain field at left none c.loop-plain.invariant.read in
    (read.0, subst (λ (l : List ℕ). Spells read.0 l) (take_all (at + left) field (omega arith)) read.1)
