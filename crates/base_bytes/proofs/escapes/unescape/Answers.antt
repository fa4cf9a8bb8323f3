use Rattle.std.proofs.Common.{◌≡◌, ◌≤◌, ◌-◌, ◌++◌, ◌∷◌, [], ℕ, List, length, take, drop, refl, sym, ◌∙◌, ap, subst, arith}
use Rattle.std.proofs.lemmas.List.{take_all, drop_all, length-set, length-drop, take_rest, take-append-drop, append-nil}
use Rattle.base_bytes.specs.Escapes.{Spells}
use Rattle.base_bytes.proofs.EscapeLemmas.{spells_once, spells_itself, front_itself, next_byte}
use Rattle.base_bytes.proofs.escapes.unescape.Goals as goal

pub returns-in_default-clause-bytes : goal.returns-in_default-clause-bytes
returns-in_default-clause-bytes c bytes spelled =
    let field = c.args.field.now in
    let nowhere = c.in_default.ensures in
    spells_once (take (length field) field) bytes field
    (subst (λ (l : List ℕ). Spells (take (length field) field) l) (take_all (length field) field (omega arith)) (spells_itself (length field) field (λ i below is. nowhere i (omega arith) below is)))
    spelled

pub loop-from-init : goal.loop-from-init
loop-from-init c =
    let found = c.in-Some.ensures in
    record {
      long = refl;
      ordered = omega arith;
      within = omega (arith, found.0.high);
      bytes = λ bytes spelled. front_itself c.in-Some.plain bytes c.args.field.now (omega (arith, found.0.high)) (λ i below is. found.0.before i (omega arith) below is) spelled;
    }

pub loop-from-preserved : goal.loop-from-preserved
loop-from-preserved c =
    let field = c.loop-from.field in
    let from = c.loop-from.from in
    let to = c.loop-from.to in
    let read = c.first_spelled-spelled.result in
    let size = c.first_spelled-spelled.ensures.size in
    let rest = take_rest field from in
    let room : read.size ≤ length field - from = omega (arith, size.1, ap length rest, length-drop from field) in
    record {
      long = length-set field to read.byte ∙ c.loop-from.invariant.long;
      ordered = omega (arith, size.0);
      within = omega (arith, size.1, room, length-set field to read.byte);
      bytes = λ bytes spelled.
          next_byte bytes field to from read.size read.byte (omega arith) (omega arith) size.0
          (λ b later left.
          let first = c.first_spelled-spelled.ensures.first b later (subst (λ (l : List ℕ). Spells (b ∷ later) l) (sym rest) left) in
          (first.0, subst (λ (l : List ℕ). Spells later (drop read.size l)) rest first.1))
          (c.loop-from.invariant.bytes bytes spelled);
    }

pub returns-clause-bytes : goal.returns-clause-bytes
returns-clause-bytes c bytes spelled =
    let to = c.loop-from.to in
    let known = c.loop-from.invariant.bytes bytes spelled in
    let rest : drop to bytes ≡ [] = spells_once (drop to bytes) [] [] (subst (λ (l : List ℕ). Spells (drop to bytes) l) (drop_all c.loop-from.from c.loop-from.field (omega arith)) known.1) refl in
    sym known.0 ∙ sym (append-nil (take to bytes)) ∙ ap (λ (l : List ℕ). take to bytes ++ l) (sym rest) ∙ take-append-drop to bytes
