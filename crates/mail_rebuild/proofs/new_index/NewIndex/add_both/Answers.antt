use Rattle.std.proofs.Common.{refl, sym, ◌∙◌, rules}
use Rattle.std.proofs.lemmas.Result.{on_ok_weaker}
use Rattle.index_form.specs.Views.{record_of}
use Rattle.mail_rebuild.proofs.IndexLemmas.{adds_unmatched}
use Rattle.mail_rebuild.proofs.new_index.NewIndex.add_both.Goals as goal

pub returns-else-is_match-clause-added : goal.returns-else-is_match-clause-added
returns-else-is_match-clause-added c =
    on_ok_weaker c.add_fresh.result
    (λ adds file is uid. adds_unmatched file (record_of c.args.old) c.args.self.now _ c.add_fresh.new.self
    (record { records = refl; totals = refl; tally = refl; lines = refl; modseq = refl; time = refl; greatest = search rules })
    (sym (c.is_match.ensures file is) ∙ c.if-is_match.false) (adds file is uid))
    c.add_fresh.ensures.added
