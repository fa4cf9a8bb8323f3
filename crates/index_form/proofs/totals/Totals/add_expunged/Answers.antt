use Rattle.std.proofs.Common.{◌≡◌, ℕ, ◌+◌, max, false, sym, ap, ◌∙◌}
use Rattle.std.proofs.lemmas.List.{length_push}
use Rattle.std.proofs.lemmas.List.Sums.{fold_push}
use Rattle.std.proofs.lemmas.Bool.{not_from_true}
use Rattle.index_form.specs.declared.record.IndexRecord.{IndexRecord}
use Rattle.index_form.specs.Totals.{stands, has_flag, expunged, deleted, answered, flagged}
use Rattle.index_form.proofs.TotalsLemmas.{count_push_no, flag_count-expunged, size_used-expunged, first_with-expunged}
use Rattle.index_form.proofs.totals.Totals.add_expunged.Goals as goal

pub returns-clause-totals : goal.returns-clause-totals
returns-clause-totals c rs is =
    let old = c.args.self.now in
    let r = c.args.item.now in
    let out : stands r ≡ false = not_from_true (has_flag expunged r) c.requires.expunged in
    record {
      num_records = ap (λ n. n + 1) is.num_records ∙ sym (length_push rs r);
      last_uid = c.max-self.ensures ∙ ap (λ n. max n r.uid) is.last_uid ∙ sym (fold_push (λ (n : ℕ) (y : IndexRecord). max n y.uid) 0 rs r);
      exists = is.exists ∙ sym (count_push_no stands rs r out);
      deleted = is.deleted ∙ sym (flag_count-expunged deleted rs r out);
      answered = is.answered ∙ sym (flag_count-expunged answered rs r out);
      flagged = is.flagged ∙ sym (flag_count-expunged flagged rs r out);
      used = is.used ∙ sym (size_used-expunged rs r out);
      first_expunged = first_with-expunged rs r old.exists old.num_records old.first_expunged _ out is.exists is.num_records is.first_expunged c.first_with-self.ensures.none c.first_with-self.ensures.some;
    }
