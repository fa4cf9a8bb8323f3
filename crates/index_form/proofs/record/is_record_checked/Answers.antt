use Rattle.std.proofs.Common.{◌≡◌, ap, arith, sym, ◌∙◌}
use Rattle.std.specs.Prelude.{nat_eq}
use Rattle.check_word.specs.CheckWord.{check_word}
use Rattle.index_form.specs.Reading.{ends_with_check}
use Rattle.index_form.proofs.RecordLemmas.{check_right-spelled}
use Rattle.index_form.proofs.record.is_record_checked.Goals as goal

pub returns-clause-spelled : goal.returns-clause-spelled
returns-clause-spelled c =
    let bytes = c.args.bytes.now in
    let spelled = check_right-spelled bytes (λ i. omega (arith, c.type_inv.bytes i)) c.requires in
    let value : nat_eq c.u32_at-word.result c.check.result ≡ ends_with_check bytes 96 = (λ i. nat_eq (c.u32_at-word.ensures i) ((c.check.ensures ∙ ap check_word c.part_at.ensures.bytes) i)) in
    (λ right. spelled.0 (sym value ∙ right), λ e. value ∙ spelled.1 e)
