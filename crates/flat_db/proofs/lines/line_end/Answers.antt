use Rattle.std.proofs.Common.{◌≡◌, ◌-◌, ◌<◌, ℕ, true, List, length, get_or, take, drop, ap, subst, arith}
use Rattle.std.proofs.lemmas.List.{take_rest, length-drop}
use Rattle.std.specs.Prelude.{◌==◌}
use Rattle.flat_db.specs.FlatText.{IsFree}
use Rattle.flat_db.proofs.FieldLemmas.{free_take}
use Rattle.flat_db.proofs.lines.line_end.Goals as goal

pub returns-in-Some-clause-free : goal.returns-in-Some-clause-free
returns-in-Some-clause-free c =
    let text = c.args.text.now in
    let at = c.args.at in
    let found = c.in-Some.ensures in
    let rest = take_rest text at in
    subst (λ (n : ℕ). IsFree 10 (take n (drop at text))) (omega arith)
    (free_take 10 c.in-Some.size (drop at text) (omega (arith, found.0.high, ap length rest))
    (subst (λ (l : List ℕ). (i : ℕ) → i < c.in-Some.size → (get_or l i 0 == 10) ≡ true → ⊥) rest (λ i below is. found.0.before i (omega arith) below is)))

pub returns-in-None-clause-free : goal.returns-in-None-clause-free
returns-in-None-clause-free c =
    let text = c.args.text.now in
    let at = c.args.at in
    let left = length text - at in
    let rest = take_rest text at in
    let nowhere = c.in-None.ensures in
    free_take 10 left (drop at text) (omega (arith, length-drop at text))
    (subst (λ (l : List ℕ). (i : ℕ) → i < left → (get_or l i 0 == 10) ≡ true → ⊥) rest (λ i below is. nowhere i (omega arith) (omega (arith, below, ap length rest, length-drop at text)) is))
