use Rattle.std.proofs.Common.{◌≡◌, ℕ, Result, Ok, Err, sym, subst, ◌∙◌, arith}
use Rattle.std.specs.Prelude.{IfOk}
use Rattle.std.proofs.lemmas.Bool.{eq-eqb, ne_eqb}
use Rattle.base_bytes.specs.declared.flaw.Damage.{Damage}
use Rattle.skip_spec.proofs.AnAnswer.{holds}
use Rattle.skip_image.proofs.Starts.{stands_there}
use Rattle.skip_image.proofs.Steps.{step_to_end, step_to_live, step_over_gone}
use Rattle.skip_image.proofs.way.led_to.Goals as goal

pub returns-then-to-eq0-clause-next : goal.returns-then-to-eq0-clause-next
returns-then-to-eq0-clause-next c = λ bound from is. step_to_end c.args.file.now bound from c.args.to is c.if-to-eq0.true

pub type_at-kind-requires : goal.type_at-kind-requires
type_at-kind-requires c =
    let file = c.args.file.now in
    let starts = c.requires.marked.0 in
    let start = sym (c.is_start.ensures file starts c.requires.log c.requires.marked.1) ∙ holds _ _ _ c.in_ok-unless.ensures in
    record { there = stands_there file c.args.marks.now starts c.requires.marked.1 (λ i. omega (arith, c.type_inv.file i)) c.args.to start }

pub returns-then-kind-ne45-clause-next : goal.returns-then-kind-ne45-clause-next
returns-then-kind-ne45-clause-next c = λ bound from is.
    step_to_live c.args.file.now bound from c.args.to is c.if-to-eq0.false (ne_eqb _ 45 (λ e. c.if-kind-ne45.true (c.type_at-kind.ensures ∙ e)))

pub past_delete-requires-clause-there : goal.past_delete-requires-clause-there
past_delete-requires-clause-there c =
    let file = c.args.file.now in
    let starts = c.requires.marked.0 in
    let start = sym (c.is_start.ensures file starts c.requires.log c.requires.marked.1) ∙ holds _ _ _ c.in_ok-unless.ensures in
    stands_there file c.args.marks.now starts c.requires.marked.1 (λ i. omega (arith, c.type_inv.file i)) c.args.to start

-- what a delete record leads to
handed : (r : Result ℕ Damage) (P : ℕ → Type 0) (v : ℕ) → IfOk r (λ next. next ≡ v) → P v → IfOk r P
handed (Ok next) P v is p = subst P (sym is) p
handed (Err d) P v is p = tt

pub returns-clause-next : goal.returns-clause-next
returns-clause-next c =
    let file = c.args.file.now in
    handed c.past_delete.result _ _ c.past_delete.ensures.next (λ bound from is.
    step_over_gone file bound from c.args.to is c.if-to-eq0.false (eq-eqb _ 45 (sym c.type_at-kind.ensures ∙ c.if-kind-ne45.false)))
