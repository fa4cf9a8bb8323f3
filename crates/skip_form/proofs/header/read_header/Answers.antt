use Rattle.std.proofs.Common.{◌≡◌, sym, ap, ◌∙◌, arith, Result, Ok, Option, Some, None, subst, take}
use Rattle.base_bytes.specs.declared.flaw.Flaw.{Flaw}
use Rattle.skip_form.specs.declared.header.Header.{Header}
use Rattle.skip_form.specs.Spelling.{IsHeader, header_bytes}
use Rattle.skip_form.proofs.HeaderLemmas.{header_bytes-header_in, header_flaw-header_bytes}
use Rattle.skip_form.proofs.header.read_header.Goals as goal

pub returns-in-Some-clause-only : goal.returns-in-Some-clause-only
returns-in-Some-clause-only c = λ h is spelled.
    let none = (header_flaw-header_bytes c.args.bytes.now h (λ i. omega (arith, c.type_inv.bytes i)) is spelled).0 in
    let clash : ◌≡◌ {A = Option Flaw} (Some c.in-Some.flaw) None = sym c.in-Some.is ∙ c.flaw_of.ensures ∙ none in
    absurd cc

pub returns-in-None-clause-found : goal.returns-in-None-clause-found
returns-in-None-clause-found c =
    let none = sym c.flaw_of.ensures ∙ c.in-None.is in
    subst (λ (h : Header). IsHeader h × (take 64 c.args.bytes.now ≡ header_bytes h)) (sym c.fields_of.ensures) (header_bytes-header_in c.args.bytes.now (λ i. omega (arith, c.type_inv.bytes i)) none)

pub returns-in-None-clause-only : goal.returns-in-None-clause-only
returns-in-None-clause-only c = λ h is spelled.
    ap (λ (h : Header). let r : Result Header Flaw = Ok h in r) (c.fields_of.ensures ∙ (header_flaw-header_bytes c.args.bytes.now h (λ i. omega (arith, c.type_inv.bytes i)) is spelled).1)
