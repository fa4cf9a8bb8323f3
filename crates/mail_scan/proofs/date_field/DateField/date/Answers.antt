use Rattle.std.proofs.Common.{◌≡◌, inl, inr, ◌++◌, ◌∷◌, [], Some, take, ap, sym, ◌∙◌}
use Rattle.std.specs.Option.{option_and_then}
use Rattle.mail_scan.specs.MessageText.{date_value}
use Rattle.mail_scan.specs.DateGrammar.{date_seconds_of}
use Rattle.mail_scan.proofs.FieldLemmas.{take_push, date_is, ends_in_name, ends_in_line, ends_in_value, ends_in_return, ends_behind_line, ends_behind_value}
use Rattle.mail_scan.proofs.date_field.DateField.date.Goals as goal

pub returns-in-Name : goal.returns-in-Name
returns-in-Name c header knows =
    elim c.in-Name.is [
      | inl name ↦
          let reads = rw name.1 at knows.reads_on in
          sym (ap (option_and_then (λ v. date_seconds_of (take 128 v))) (ends_in_name header reads.1.0 name.0 reads.1.1 reads.1.2))
      | inr line ↦
          let reads = rw line at knows.reads_on in
          sym (ap (option_and_then (λ v. date_seconds_of (take 128 v))) (ends_in_line header reads.1))
    ]

pub returns-in-ValueCr : goal.returns-in-ValueCr
returns-in-ValueCr c header knows =
    let reads = rw c.in-ValueCr.is at knows.reads_on in
    let kept = c.deref.ensures.0 ∙ c.keep.ensures.kept ∙ ap (λ l. take 128 (l ++ 13 ∷ [])) knows.kept ∙ take_push knows.value 13 128 in
    date_is c.date_seconds.result c.deref.result.now (knows.value ++ 13 ∷ []) header c.date_seconds.ensures kept (ends_in_return header knows.value reads)

pub returns-in-Value : goal.returns-in-Value
returns-in-Value c header knows =
    let there =
    elim c.in-Value.is as (λ _. date_value header ≡ Some knows.value) [
      | inl value ↦ ends_in_value header knows.value (rw value at knows.reads_on)
      | inr others ↦ elim others as (λ _. date_value header ≡ Some knows.value) [
        | inl line ↦ ends_behind_line header knows.value (rw line at knows.reads_on)
        | inr done ↦ ends_behind_value header knows.value (rw done at knows.reads_on)
      ]
    ] in
    date_is c.date_seconds-in-Value.result c.deref-in-Value.result.now knows.value header c.date_seconds-in-Value.ensures (c.deref-in-Value.ensures.0 ∙ knows.kept) there
