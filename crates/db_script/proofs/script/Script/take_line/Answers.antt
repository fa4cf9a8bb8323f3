use Rattle.std.proofs.Common.{◌∙◌, ℕ, ◌≤◌, List, take, length, sym, ap, subst, refl, arith}
use Rattle.std.proofs.lemmas.List.{length-drop}
use Rattle.db_script.specs.Buffers.{spelled_in}
use Rattle.db_script.specs.Fields.{IsExtent}
use Rattle.db_script.specs.Held.{held_in}
use Rattle.db_script.specs.Lines.{read_line}
use Rattle.db_script.specs.Reading.{script_state}
use Rattle.db_script.proofs.HeldLemmas.{length_between}
use Rattle.db_script.proofs.LineLemmas.{too_long, wrong, handed}
use Rattle.db_script.proofs.script.Script.take_line.Goals as goal

pub returns-then-self-extent-gt-SCRIPT_LIMIT-clause-answers : goal.returns-then-self-extent-gt-SCRIPT_LIMIT-clause-answers
returns-then-self-extent-gt-SCRIPT_LIMIT-clause-answers c left =
    let e = c.extent_of-extent.result in
    too_long (script_state c.args.self.now) left e.text e.size (subst (λ (l : List ℕ). IsExtent l e.text e.size) c.held.ensures c.extent_of-extent.ensures) (omega (arith, c.if-extent-eq0.false)) (omega (arith, c.if-self-extent-gt-SCRIPT_LIMIT.true))

pub returns-in_default-clause-answers : goal.returns-in_default-clause-answers
returns-in_default-clause-answers c left =
    let e = c.extent_of-extent.result in
    wrong (script_state c.args.self.now) left e.text e.size _ c.requires (subst (λ (l : List ℕ). IsExtent l e.text e.size) c.held.ensures c.extent_of-extent.ensures) (omega (arith, c.if-extent-eq0.false))
    (omega (arith, c.if-self-extent-gt-SCRIPT_LIMIT.false)) (ap (λ (l : List ℕ). read_line (take e.text l)) (sym c.held-2.ensures) ∙ c.in_default.ensures) refl

pub invariant_of-self : goal.invariant_of-self
invariant_of-self c =
    let old = c.args.self.now.buffer in
    let new = c.take_line-found.new.self in
    let e = c.extent_of-extent in
    let was = length_between old.at old.end old.bytes.items old.ordered (omega (arith, old.within, old.bytes.ok.0)) in
    let is = length_between new.at new.end new.bytes.items new.ordered (omega (arith, new.within, new.bytes.ok.0)) in
    let left = ap length c.take_line-found.ensures.held ∙ length-drop e.result.size (held_in old) in
    let within = subst (λ (l : List ℕ). e.result.size ≤ length l) c.held.ensures e.ensures.within in
    record {
      counted = omega (arith, c.args.self.now.counted, c.if-extent-eq0.false);
      short = omega (arith, c.if-self-extent-gt-SCRIPT_LIMIT.false);
      limited = omega (arith, c.args.self.now.limited, was, is, left, within);
    }

pub returns-clause-answers : goal.returns-clause-answers
returns-clause-answers c left =
    let e = c.extent_of-extent.result in
    handed (script_state c.args.self.now) _ left e.text e.size _ c.requires (subst (λ (l : List ℕ). IsExtent l e.text e.size) c.held.ensures c.extent_of-extent.ensures) (omega (arith, c.if-extent-eq0.false))
    (omega (arith, c.if-self-extent-gt-SCRIPT_LIMIT.false))
    (ap (λ (l : List ℕ). read_line (take e.text l)) (sym c.held-2.ensures) ∙ c.in-Some.ensures.0 ∙ ap (λ (l : List ℕ). spelled_in (take e.text l) c.in-Some.form) c.held-2.ensures ∙ c.take_line-found.ensures.command)
    c.take_line-found.ensures.held refl refl refl
