use Rattle.std.proofs.Common.{◌≡◌, ◌<◌, ◌+◌, ◌∷◌, ◌++◌, ℕ, true, List, length, get_or, take, drop, inl, inr, refl, sym, ◌∙◌, ap, subst, arith}
use Rattle.std.specs.Prelude.{◌==◌}
use Rattle.std.proofs.lemmas.List.{take_all, take_rest, take-append-drop, drop_more, length-take-le}
use Rattle.base_bytes.specs.Escapes.{Spells, IsBadEscape}
use Rattle.flat_db.specs.FlatText.{IsFree, HasFields, without_tab, with_bad_escape, with_empty_key}
use Rattle.flat_db.proofs.FieldLemmas.{free_take, byte_is}
use Rattle.flat_db.proofs.lines.tab_of.Goals as goal

-- the fields that a first TAB ends
fields_at : (line : List ℕ) (tab : ℕ) → tab < length line → get_or line tab 0 ≡ 9 → ((i : ℕ) → i < tab → (get_or line i 0 == 9) ≡ true → ⊥) → HasFields line (take tab line) (drop (tab + 1) line)
fields_at line tab below is before = record {
  split = sym (take-append-drop tab line) ∙ ap (λ (l : List ℕ). take tab line ++ l) (drop_more line tab 0 below ∙ ap (λ (b : ℕ). b ∷ drop (tab + 1) line) is);
  first = free_take 9 tab line (omega arith) before;
}

pub returns-in_default-clause-flaw : goal.returns-in_default-clause-flaw
returns-in_default-clause-flaw c =
    let line = c.args.line.now in
    let nowhere = c.in_default.ensures in
    without_tab (subst (IsFree 9) (take_all (length line) line (omega arith)) (free_take 9 (length line) line (omega arith) (λ i below is. nowhere i (omega arith) below is))) refl refl

pub returns-in-Some-bad_escape-clause-flaw : goal.returns-in-Some-bad_escape-clause-flaw
returns-in-Some-bad_escape-clause-flaw c =
    let line = c.args.line.now in
    let found = c.in-Some.ensures in
    let tab = c.in-Some.tab in
    with_bad_escape (take tab line) (drop (tab + 1) line) (fields_at line tab found.0.high (byte_is _ _ found.1) (λ i below is. found.0.before i (omega arith) below is)) (inl c.in-Some-bad_escape.ensures.some) refl

pub returns-in-Some-bad_escape-2-clause-flaw : goal.returns-in-Some-bad_escape-2-clause-flaw
returns-in-Some-bad_escape-2-clause-flaw c =
    let line = c.args.line.now in
    let found = c.in-Some.ensures in
    let tab = c.in-Some.tab in
    let key = c.in_default-bad_escape.ensures.none refl in
    let long : length (take tab line) ≡ tab = length-take-le tab line (omega (arith, found.0.high)) in
    with_bad_escape (take tab line) (drop (tab + 1) line) (fields_at line tab found.0.high (byte_is _ _ found.1) (λ i below is. found.0.before i (omega arith) below is))
    (inr (key.0, key.1, c.in-Some-bad_escape-2.offset, subst (λ (l : List ℕ). IsBadEscape l c.in-Some-bad_escape-2.offset) (take_rest line (tab + 1)) c.in-Some-bad_escape-2.ensures.some, omega (arith, long))) refl

pub returns-then-tab-eq0-clause-flaw : goal.returns-then-tab-eq0-clause-flaw
returns-then-tab-eq0-clause-flaw c =
    let line = c.args.line.now in
    let found = c.in-Some.ensures in
    let tab = c.in-Some.tab in
    let none : tab ≡ 0 = omega arith in
    let value = c.in_default-bad_escape-2.ensures.none refl in
    with_empty_key (drop (tab + 1) line) value.0
    (subst (λ (l : List ℕ). HasFields line l (drop (tab + 1) line)) (ap (λ (n : ℕ). take n line) none) (fields_at line tab found.0.high (byte_is _ _ found.1) (λ i below is. found.0.before i (omega arith) below is)))
    (subst (λ (l : List ℕ). Spells value.0 l) (take_rest line (tab + 1)) value.1) refl refl

pub returns-clause-tab : goal.returns-clause-tab
returns-clause-tab c =
    let line = c.args.line.now in
    let found = c.in-Some.ensures in
    let tab = c.in-Some.tab in
    let key = c.in_default-bad_escape.ensures.none refl in
    let value = c.in_default-bad_escape-2.ensures.none refl in
    record {
      within = found.0.high;
      some = omega arith;
      fields = fields_at line tab found.0.high (byte_is _ _ found.1) (λ i below is. found.0.before i (omega arith) below is);
      key = key.0;
      value = value.0;
      says_key = key.1;
      says_value = subst (λ (l : List ℕ). Spells value.0 l) (take_rest line (tab + 1)) value.1;
    }
