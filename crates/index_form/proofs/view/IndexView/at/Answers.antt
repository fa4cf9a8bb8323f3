use Rattle.std.proofs.Common.{ℕ, List, Some, ap, sym, ◌∙◌}
use Rattle.index_form.specs.Reading.{stored_record}
use Rattle.index_form.proofs.IndexLemmas.{get-records_of}
use Rattle.index_form.proofs.view.IndexView.at.Goals as goal

pub returns-clause-record : goal.returns-clause-record
returns-clause-record c =
    get-records_of c.args.self.now.file.now c.args.place c.requires
    ∙ ap (λ (x : List ℕ). Some (stored_record x)) (sym (c.of.ensures ∙ c.part_at.ensures.bytes))
