use Rattle.std.proofs.Common.{◌≡◌, sym, ap, ◌∙◌, arith, Result, Ok, Option, Some, None, subst}
use Rattle.base_bytes.specs.declared.flaw.Flaw.{Flaw}
use Rattle.skip_form.specs.declared.head.Head.{Head}
use Rattle.skip_form.specs.Spelling.{StandsAt}
use Rattle.skip_form.proofs.HeadLemmas.{StandsAt-head_in, head_flaw-StandsAt}
use Rattle.skip_form.proofs.head.head_at.Goals as goal

pub returns-in-Some-clause-only : goal.returns-in-Some-clause-only
returns-in-Some-clause-only c = λ h stands.
    let none = (head_flaw-StandsAt c.args.bytes.now c.args.at h stands).0 in
    let clash : ◌≡◌ {A = Option Flaw} (Some c.in-Some.flaw) None = sym c.in-Some.is ∙ c.flaw_at.ensures ∙ none in
    absurd cc

pub returns-in-None-clause-found : goal.returns-in-None-clause-found
returns-in-None-clause-found c =
    let none = sym c.flaw_at.ensures ∙ c.in-None.is in
    subst (λ (h : Head). StandsAt c.args.bytes.now c.args.at h) (sym c.fields_at.ensures) (StandsAt-head_in c.args.bytes.now c.args.at (λ i. omega (arith, c.type_inv.bytes i)) none)

pub returns-in-None-clause-only : goal.returns-in-None-clause-only
returns-in-None-clause-only c = λ h stands.
    ap (λ (h : Head). let r : Result Head Flaw = Ok h in r) (c.fields_at.ensures ∙ (head_flaw-StandsAt c.args.bytes.now c.args.at h stands).1)
