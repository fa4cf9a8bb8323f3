use Rattle.std.proofs.Common.{sym, ◌∙◌, refl}
use Rattle.mail_rebuild.proofs.PlanLemmas.{due_is, next_full, plan_is}
use Rattle.mail_rebuild.proofs.planning.conclude.Goals as goal

pub returns-in_default-clause-limit : goal.returns-in_default-clause-limit
returns-in_default-clause-limit c image now found is made =
    let whole = c.view.ensures.whole image is in
    let header = c.header-header.ensures image is in
    let due = due_is image now found c.args.made c.view.result made whole in
    let full = next_full _ _ (sym c.modseq_over.ensures ∙ c.in_default.is) in
    let due_too = full.1 in
    record {
      last = rw (← header) full.0;
      due = sym due ∙ rw (← c.is_some-whole.ensures) due_too;
    }

pub returns-clause-planned : goal.returns-clause-planned
returns-clause-planned c image now found is made =
    let whole = c.view.ensures.whole image is in
    let header = c.header-header.ensures image is in
    let next = sym c.modseq_over.ensures ∙ c.in-Some.is in
    plan_is c.args.options.now image now found c.args.made c.view.result c.header-header.result c.in-Some.modseq _ made whole header
    (rw c.is_some-whole.ensures at next) (c.in-Ok.ensures image is) c.header.ensures refl refl
