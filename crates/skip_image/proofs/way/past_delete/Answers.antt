use Rattle.std.proofs.Common.{◌≡◌, ℕ, Bool, eqb, List, ◌∷◌, Option, None, refl, ap, sym, ◌∙◌, arith}
use Rattle.std.proofs.lemmas.Bool.{eq-eqb, ne_eqb}
use Rattle.std.proofs.lemmas.Result.{err_from_is_err_and}
use Rattle.base_bytes.specs.declared.flaw.Flaw.TheVariants.{Check, Tail, Place, Kind}
use Rattle.base_bytes.specs.declared.flaw.Damage.{Damage}
use Rattle.skip_form.specs.declared.head.Kind.TheVariants.{Put}
use Rattle.skip_form.specs.Fields.{pointer_in}
use Rattle.skip_form.specs.Flaws.{head_in}
use Rattle.skip_form.specs.Spelling.{type_byte}
use Rattle.skip_form.proofs.HeadLemmas.{head_flaw-StandsAt}
use Rattle.skip_spec.specs.Successor.{is_of}
use Rattle.skip_spec.specs.FirstFlaw.{unless, first_some, is_among, is_head_right, is_tail_right, delete_flaw}
use Rattle.skip_spec.proofs.AnAnswer.{holds}
use Rattle.skip_image.proofs.Exits.{step_over, stop_at, found}
use Rattle.skip_image.proofs.Starts.{past_checks, ends_there, goes_on, stands_there}
use Rattle.skip_image.proofs.way.past_delete.Goals as goal

module _ (file starts : List ℕ) (at : ℕ) where
  delete_is : delete_flaw file starts at ≡ first_some (unless (is_head_right file at) at Check ∷ unless (is_tail_right file at) at Tail
      ∷ past_checks (eqb (pointer_in file at 0) 0) (is_among starts (pointer_in file at 0)) (is_of file (pointer_in file at 0) Put) at (pointer_in file at 0))
  unfolding delete_flaw
  delete_is = refl

  -- past the check words
  past_words : (h : Bool) (x : Option Damage) → h ≡ is_head_right file at → unless h at Check ≡ None → unless (is_tail_right file at) at Tail ≡ None
      → first_some (past_checks (eqb (pointer_in file at 0) 0) (is_among starts (pointer_in file at 0)) (is_of file (pointer_in file at 0) Put) at (pointer_in file at 0)) ≡ x
      → delete_flaw file starts at ≡ x
  past_words h x is head tail rest = delete_is ∙ step_over _ _ (ap (λ (b : Bool). unless b at Check) (sym is) ∙ head) ∙ step_over _ _ tail ∙ rest

pub returns-in_err-unless-clause-finds : goal.returns-in_err-unless-clause-finds
returns-in_err-unless-clause-finds c = λ starts marked.
    let exit = err_from_is_err_and c.from_residual.result c.from_residual.ensures.1 in
    found _ _ _ _ exit.1 exit.2 (delete_is c.args.file.now starts c.args.at ∙ stop_at _ _ _ (ap (λ (b : Bool). unless b c.args.at Check) (sym c.is_head_right.ensures) ∙ c.in_err-unless.ensures))

pub returns-in_err-check_tail-clause-finds : goal.returns-in_err-check_tail-clause-finds
returns-in_err-check_tail-clause-finds c = λ starts marked.
    let exit = err_from_is_err_and c.from_residual-in_err-check_tail.result c.from_residual-in_err-check_tail.ensures.1 in
    found _ _ _ _ exit.1 exit.2 (delete_is c.args.file.now starts c.args.at ∙ step_over _ _ (ap (λ (b : Bool). unless b c.args.at Check) (sym c.is_head_right.ensures) ∙ c.in_ok-unless.ensures) ∙ stop_at _ _ _ c.in_err-check_tail.ensures)

pub pointer-next-requires-clause-head : goal.pointer-next-requires-clause-head
pointer-next-requires-clause-head c = (head_flaw-StandsAt c.args.file.now c.args.at _ c.requires.there).0

pub returns-then-next-eq0-clause-finds : goal.returns-then-next-eq0-clause-finds
returns-then-next-eq0-clause-finds c = λ starts marked.
    past_words c.args.file.now starts c.args.at c.is_head_right.result None c.is_head_right.ensures c.in_ok-unless.ensures c.in_ok-check_tail.ensures
    (ends_there _ _ _ _ _ (eq-eqb _ 0 (sym c.pointer-next.ensures.value ∙ c.if-next-eq0.true)))

pub returns-in_err-unless-2-clause-finds : goal.returns-in_err-unless-2-clause-finds
returns-in_err-unless-2-clause-finds c = λ starts marked.
    let file = c.args.file.now in
    let value = c.pointer-next.ensures.value in
    let exit = err_from_is_err_and c.from_residual-in_err-unless-2.result c.from_residual-in_err-unless-2.ensures.1 in
    let start = ap (is_among starts) (sym value) ∙ sym (c.is_start.ensures file starts c.requires.log marked) in
    found _ _ _ _ exit.1 exit.2 (past_words file starts c.args.at c.is_head_right.result _ c.is_head_right.ensures c.in_ok-unless.ensures c.in_ok-check_tail.ensures
    (goes_on _ _ _ _ _ _ (ne_eqb _ 0 (λ e. c.if-next-eq0.false (value ∙ e))) (stop_at _ _ _ (ap (λ (b : Bool). unless b c.args.at Place) start ∙ c.in_err-unless-2.ensures))))

pub type_at-requires : goal.type_at-requires
type_at-requires c =
    let file = c.args.file.now in
    let starts = c.requires.marked.0 in
    let start = sym (c.is_start.ensures file starts c.requires.log c.requires.marked.1) ∙ holds _ _ _ c.in_ok-unless-2.ensures in
    record { there = stands_there file c.args.marks.now starts c.requires.marked.1 (λ i. omega (arith, c.type_inv.file i)) c.pointer-next.result start }

-- the record of the pointer is a put record
is_put : (file : List ℕ) (v to : ℕ) (byte : ℕ) → to ≡ v → byte ≡ type_byte (head_in file to).kind → is_of file v Put ≡ eqb byte 43
is_put file v to byte same is = ap (λ (w : ℕ). is_of file w Put) (sym same) ∙ ap (λ (b : ℕ). eqb b 43) (sym is)

pub returns-in_err-unless-3-clause-finds : goal.returns-in_err-unless-3-clause-finds
returns-in_err-unless-3-clause-finds c = λ starts marked.
    let file = c.args.file.now in
    let value = c.pointer-next.ensures.value in
    let exit = err_from_is_err_and c.from_residual-in_err-unless-3.result c.from_residual-in_err-unless-3.ensures.1 in
    let start = ap (is_among starts) (sym value) ∙ sym (c.is_start.ensures file starts c.requires.log marked) in
    let put = ap (λ (b : Bool). unless b (pointer_in file c.args.at 0) Kind) (is_put file _ _ c.type_at.result value c.type_at.ensures) ∙ ap (λ (n : ℕ). unless (eqb c.type_at.result 43) n Kind) (sym value) in
    found _ _ _ _ exit.1 exit.2 (past_words file starts c.args.at c.is_head_right.result _ c.is_head_right.ensures c.in_ok-unless.ensures c.in_ok-check_tail.ensures
    (goes_on _ _ _ _ _ _ (ne_eqb _ 0 (λ e. c.if-next-eq0.false (value ∙ e))) (step_over _ _ (ap (λ (b : Bool). unless b c.args.at Place) start ∙ c.in_ok-unless-2.ensures) ∙ stop_at _ _ _ (put ∙ c.in_err-unless-3.ensures))))

pub returns-clause-finds : goal.returns-clause-finds
returns-clause-finds c = λ starts marked.
    let file = c.args.file.now in
    let value = c.pointer-next.ensures.value in
    let start = ap (is_among starts) (sym value) ∙ sym (c.is_start.ensures file starts c.requires.log marked) in
    let put = ap (λ (b : Bool). unless b (pointer_in file c.args.at 0) Kind) (is_put file _ _ c.type_at.result value c.type_at.ensures) ∙ ap (λ (n : ℕ). unless (eqb c.type_at.result 43) n Kind) (sym value) in
    past_words file starts c.args.at c.is_head_right.result None c.is_head_right.ensures c.in_ok-unless.ensures c.in_ok-check_tail.ensures
    (goes_on _ _ _ _ _ _ (ne_eqb _ 0 (λ e. c.if-next-eq0.false (value ∙ e))) (step_over _ _ (ap (λ (b : Bool). unless b c.args.at Place) start ∙ c.in_ok-unless-2.ensures) ∙ step_over _ _ (put ∙ c.in_ok-unless-3.ensures)))
