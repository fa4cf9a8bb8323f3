use Rattle.std.proofs.Common.{◌≡◌, Some, None, refl, ap}
use Rattle.std.specs.Fmt.{digits}
use Rattle.index_form.specs.declared.header.IndexHeader.{IndexHeader}
use Rattle.mail_rebuild.specs.Examples.{digest_of_abc, first_message, old_record, second_message, two_messages}
use Rattle.mail_rebuild.specs.Rebuilt.{kept, modseq_of, usable_in}
use Rattle.mail_rebuild.proofs.examples.five_files_are_rebuilt.Goals as goal

pub returns-clause-report : goal.returns-clause-report
unfolding digits
returns-clause-report c file digests is = rw (is.none, is.records, digests.abc, digests.fox) refl

pub returns-clause-records : goal.returns-clause-records
unfolding digits
returns-clause-records c file digests is =
    let before = ap (λ (h : IndexHeader). h.highestmodseq) is.header in
    let first : kept (usable_in (Some file)) first_message ≡ Some (old_record 1 3 digest_of_abc) = rw (is.none, is.records, digests.abc) refl in
    let second : kept (usable_in (Some file)) second_message ≡ None = rw (is.none, is.records, digests.fox) refl in
    let modseq : modseq_of (Some file) two_messages ≡ 10 = rw (is.none, is.records, digests.abc, digests.fox, before) refl in
    rw (first, second, modseq) refl

pub returns-clause-header : goal.returns-clause-header
unfolding digits
returns-clause-header c file digests is =
    let modseq = ap (λ (h : IndexHeader). h.highestmodseq) is.header in
    let last = ap (λ (h : IndexHeader). h.last_uid) is.header in
    let validity = ap (λ (h : IndexHeader). h.uidvalidity) is.header in
    (rw (is.none, is.records, digests.abc, digests.fox, last, validity) refl, rw (is.none, is.records, digests.abc, digests.fox, modseq) refl)
