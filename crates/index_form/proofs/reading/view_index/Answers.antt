use Rattle.std.proofs.Common.{◌≡◌, Option, Some, None, refl, sym, ◌∙◌, arith}
use Rattle.index_form.specs.declared.fault.IndexFault.{IndexFault}
use Rattle.base_bytes.specs.Fields.{part}
use Rattle.index_form.proofs.HeaderLemmas.{header_bytes-header_in}
use Rattle.index_form.proofs.IndexLemmas.{is_read}
use Rattle.index_form.proofs.reading.view_index.Goals as goal

pub returns-in-Some-clause-only : goal.returns-in-Some-clause-only
returns-in-Some-clause-only c = λ h rs rest is e.
    let clash : ◌≡◌ {A = Option IndexFault} (Some c.in-Some.fault) None = sym c.in-Some.is ∙ c.fault_of.ensures ∙ (is_read c.args.bytes.now h rs rest is e).0 in
    absurd cc

pub returns-in-None-clause-spelled : goal.returns-in-None-clause-spelled
unfolding part
returns-in-None-clause-spelled c = λ _.
    header_bytes-header_in c.args.bytes.now (λ i. omega (arith, c.type_inv.bytes i)) (sym c.fault_of.ensures ∙ c.in-None.is)

pub returns-in-None-clause-only : goal.returns-in-None-clause-only
returns-in-None-clause-only c = λ h rs rest is e.
    let read = is_read c.args.bytes.now h rs rest is e in
    (refl, read.1, read.2)
