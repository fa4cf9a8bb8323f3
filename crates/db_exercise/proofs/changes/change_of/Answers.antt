use Rattle.std.proofs.Common.{List, ℕ, Bool, ap, sym, ◌∙◌}
use Rattle.std.specs.Prelude.{if◌then◌else◌, decimal}
use Rattle.base_bytes.specs.declared.change.Change.TheVariants.{Put, Del}
use Rattle.db_exercise.specs.Changes.{change_at, key_of}
use Rattle.db_exercise.proofs.changes.change_of.Goals as goal

pub returns-then-is_delete : goal.returns-then-is_delete
unfolding change_at
returns-then-is_delete c =
    let number = c.args.number in
    ap Del (c.in_ok-key.ensures ∙ c.key_at.ensures)
    ∙ ap (λ (b : Bool). if b then Del (key_of number) else Put c.args.word (key_of number) (decimal number)) (sym c.if-is_delete.true ∙ c.is_delete.ensures)

pub returns : goal.returns
unfolding change_at
returns c =
    let number = c.args.number in
    ap (λ (key : List ℕ). Put c.args.word key c.in_ok-value.value) (c.in_ok-key.ensures ∙ c.key_at.ensures)
    ∙ ap (λ (value : List ℕ). Put c.args.word (key_of number) value) (c.in_ok-value.ensures ∙ c.as_bytes.ensures.value ∙ c.format.ensures.text)
    ∙ ap (λ (b : Bool). if b then Del (key_of number) else Put c.args.word (key_of number) (decimal number)) (sym c.if-is_delete.false ∙ c.is_delete.ensures)
