use Rattle.std.proofs.Common.{ℕ, Bool, ◌≡◌, true, ap, sym, ◌∙◌}
use Rattle.std.specs.Prelude.{if◌then◌else◌, decimal}
use Rattle.base_bytes.specs.declared.change.Change.TheVariants.{Put, Del}
use Rattle.db_exercise.specs.Changes.{change_at, deletes, key_of, words_behind}
use Rattle.rand_core.specs.Stream.{Stream, next_u32}
use Rattle.db_exercise.proofs.changes.word_for.Goals as goal

pub returns-then-is_delete-clause-rest : goal.returns-then-is_delete-clause-rest
unfolding words_behind
returns-then-is_delete-clause-rest g c =
    let now = g.R.Rng.stream c.args.rng.now in
    ap (λ (b : Bool). if b then now else (next_u32 now).1) (sym c.if-is_delete.true ∙ c.is_delete.ensures)

pub returns-then-is_delete-clause-word : goal.returns-then-is_delete-clause-word
unfolding change_at
returns-then-is_delete-clause-word g c =
    let number = c.args.number in
    let is : true ≡ deletes number = sym c.if-is_delete.true ∙ c.is_delete.ensures in
    ap (λ (b : Bool). if b then Del (key_of number) else Put 0 (key_of number) (decimal number)) (sym is)
    ∙ ap (λ (b : Bool). if b then Del (key_of number) else Put (next_u32 (g.R.Rng.stream c.args.rng.now)).0 (key_of number) (decimal number)) is

pub returns-clause-rest : goal.returns-clause-rest
unfolding words_behind
returns-clause-rest g c =
    let now = g.R.Rng.stream c.args.rng.now in
    ap (λ (p : ℕ × Stream). p.1) c.next_u32.ensures ∙ ap (λ (b : Bool). if b then now else (next_u32 now).1) (sym c.if-is_delete.false ∙ c.is_delete.ensures)
