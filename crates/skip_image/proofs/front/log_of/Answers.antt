use Rattle.std.proofs.Common.{◌≡◌, ◌%◌, ℕ, List, ◌∷◌, [], leb, eqb, Bool, Option, None, refl, ap, sym, ◌∙◌}
use Rattle.std.proofs.lemmas.Result.{err_from_is_err_and}
use Rattle.base_bytes.specs.declared.flaw.Damage.{Damage}
use Rattle.base_bytes.specs.declared.flaw.Flaw.TheVariants.{Size}
use Rattle.skip_form.specs.declared.header.Header.{Header}
use Rattle.skip_form.specs.Flaws.{header_flaw, header_in}
use Rattle.skip_spec.specs.FirstFlaw.{unless, first_some, at_header_place, end_of, is_dirty, is_end_right, row_flaw, front_flaw}
use Rattle.skip_image.proofs.Exits.{step_over, stop_at, last_check, found}
use Rattle.skip_image.proofs.front.log_of.Goals as goal

abbrev checks : List ℕ → List (Option Damage)
checks file =
    at_header_place (header_flaw file) ∷ unless (leb 336 (end_of file)) 48 Size ∷ unless (eqb (end_of file % 8) 0) 48 Size
    ∷ unless (is_end_right file) 48 Size ∷ row_flaw file 64 ∷ []

front_is : (file : List ℕ) → front_flaw file ≡ first_some (checks file)
unfolding front_flaw
front_is file = refl

-- the sizes by the header that was read
module _ (file : List ℕ) (h : Header) (is : h ≡ header_in file) where
  least : unless (leb 336 (end_of file)) 48 Size ≡ unless (leb 336 h.current_size) 48 Size
  least = ap (λ (k : Header). unless (leb 336 k.current_size) 48 Size) (sym is)

  aligned : unless (eqb (end_of file % 8) 0) 48 Size ≡ unless (eqb (h.current_size % 8) 0) 48 Size
  aligned = ap (λ (k : Header). unless (eqb (k.current_size % 8) 0) 48 Size) (sym is)

  log_is : (h.current_size ≡ end_of file) × (eqb (h.flags % 2) 1 ≡ is_dirty file)
  log_is = (ap (λ (k : Header). k.current_size) is, ap (λ (k : Header). eqb (k.flags % 2) 1) is)

  past_header : (x : Option Damage) → at_header_place (header_flaw file) ≡ None
      → first_some (unless (leb 336 (end_of file)) 48 Size ∷ unless (eqb (end_of file % 8) 0) 48 Size ∷ unless (is_end_right file) 48 Size ∷ row_flaw file 64 ∷ []) ≡ x → front_flaw file ≡ x
  past_header x none e = front_is file ∙ step_over _ _ none ∙ e

pub returns-in_err-header-clause-finds : goal.returns-in_err-header-clause-finds
returns-in_err-header-clause-finds c =
    let exit = err_from_is_err_and c.from_residual.result c.from_residual.ensures.1 in
    found _ _ _ _ exit.1 exit.2 (front_is c.args.file.now ∙ stop_at _ _ _ c.in_err-header.ensures.finds)

pub returns-in_err-unless-clause-finds : goal.returns-in_err-unless-clause-finds
returns-in_err-unless-clause-finds c =
    let file = c.args.file.now in
    let h = c.in_ok-header.header in
    let is = c.in_ok-header.ensures.fields in
    let exit = err_from_is_err_and c.from_residual-in_err-unless.result c.from_residual-in_err-unless.ensures.1 in
    found _ _ _ _ exit.1 exit.2 (past_header file h is _ c.in_ok-header.ensures.finds (stop_at _ _ _ (least file h is ∙ c.in_err-unless.ensures)))

pub returns-in_err-unless-2-clause-finds : goal.returns-in_err-unless-2-clause-finds
returns-in_err-unless-2-clause-finds c =
    let file = c.args.file.now in
    let h = c.in_ok-header.header in
    let is = c.in_ok-header.ensures.fields in
    let exit = err_from_is_err_and c.from_residual-in_err-unless-2.result c.from_residual-in_err-unless-2.ensures.1 in
    found _ _ _ _ exit.1 exit.2 (past_header file h is _ c.in_ok-header.ensures.finds (step_over _ _ (least file h is ∙ c.in_ok-unless.ensures) ∙ stop_at _ _ _ (aligned file h is ∙ c.in_err-unless-2.ensures)))

pub returns-in_err-unless-3-clause-finds : goal.returns-in_err-unless-3-clause-finds
returns-in_err-unless-3-clause-finds c =
    let file = c.args.file.now in
    let h = c.in_ok-header.header in
    let is = c.in_ok-header.ensures.fields in
    let exit = err_from_is_err_and c.from_residual-in_err-unless-3.result c.from_residual-in_err-unless-3.ensures.1 in
    let end = ap (λ (b : Bool). unless b 48 Size) (sym (c.is_end_right.ensures file (log_is file h is).0 (log_is file h is).1 refl)) in
    found _ _ _ _ exit.1 exit.2 (past_header file h is _ c.in_ok-header.ensures.finds (step_over _ _ (least file h is ∙ c.in_ok-unless.ensures) ∙ step_over _ _ (aligned file h is ∙ c.in_ok-unless-2.ensures) ∙ stop_at _ _ _ (end ∙ c.in_err-unless-3.ensures)))

pub returns-in_err-row-clause-finds : goal.returns-in_err-row-clause-finds
returns-in_err-row-clause-finds c =
    let file = c.args.file.now in
    let h = c.in_ok-header.header in
    let is = c.in_ok-header.ensures.fields in
    let exit = err_from_is_err_and c.from_residual-in_err-row.result c.from_residual-in_err-row.ensures.1 in
    let end = ap (λ (b : Bool). unless b 48 Size) (sym (c.is_end_right.ensures file (log_is file h is).0 (log_is file h is).1 refl)) in
    found _ _ _ _ exit.1 exit.2 (past_header file h is _ c.in_ok-header.ensures.finds (step_over _ _ (least file h is ∙ c.in_ok-unless.ensures) ∙ step_over _ _ (aligned file h is ∙ c.in_ok-unless-2.ensures) ∙ step_over _ _ (end ∙ c.in_ok-unless-3.ensures) ∙ stop_at _ _ _ c.in_err-row.ensures.finds))

pub returns-clause-finds : goal.returns-clause-finds
returns-clause-finds c =
    let file = c.args.file.now in
    let h = c.in_ok-header.header in
    let is = c.in_ok-header.ensures.fields in
    let end = ap (λ (b : Bool). unless b 48 Size) (sym (c.is_end_right.ensures file (log_is file h is).0 (log_is file h is).1 refl)) in
    past_header file h is _ c.in_ok-header.ensures.finds (step_over _ _ (least file h is ∙ c.in_ok-unless.ensures) ∙ step_over _ _ (aligned file h is ∙ c.in_ok-unless-2.ensures) ∙ step_over _ _ (end ∙ c.in_ok-unless-3.ensures) ∙ last_check _ ∙ c.in_ok-row.ensures.finds)
