use Rattle.std.proofs.Common.{◌≡◌, ◌∙◌, ℕ, List, [], ◌∷◌, sym, ap, refl, length, arith}
use Rattle.std.specs.Prelude.{is_some, not}
use Rattle.db_script.proofs.FieldLemmas.{no_key, key_spelled}
use Rattle.db_script.proofs.form.is_key.Goals as goal

pub returns-then-not-is_empty : goal.returns-then-not-is_empty
returns-then-not-is_empty c = c.is_spelled.ensures ∙ sym (ap is_some (key_spelled c.args.field.now (grind (arith, c.is_empty.ensures, c.if-not-is_empty.true))))

none_of : (xs : List ℕ) → length xs ≡ 0 → xs ≡ []
none_of [] is = refl
none_of (x ∷ xs) is = absurd (omega (arith, is))

pub returns-else-not-is_empty : goal.returns-else-not-is_empty
returns-else-not-is_empty c =
    let short : length c.args.field.now ≡ 0 = grind (arith, c.is_empty.ensures, c.if-not-is_empty.false) in
    ap not c.if-not-is_empty.false ∙ sym (ap is_some (no_key c.args.field.now (none_of c.args.field.now short)))
