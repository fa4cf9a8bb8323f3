use Rattle.std.proofs.Common.{◌++◌, List, ℕ, sym, ◌∙◌, ap}
use Rattle.flat_db.proofs.PlainLemmas.{front_stands}
use Rattle.flat_db.proofs.writing.add_field.Goals as goal

pub returns-then-field_stands-clause-added : goal.returns-then-field_stands-clause-added
returns-then-field_stands-clause-added c =
    c.add.ensures.added ∙ ap (λ (l : List ℕ). c.args.piece.now ++ l) (sym (front_stands c.add.result c.args.field.now (c.field_stands.ensures c.if-field_stands.true)))
