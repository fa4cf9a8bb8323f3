use Rattle.std.proofs.Common.{◌≡◌, ℕ, ◌-◌, List, ◌∷◌, [], Option, None, refl, ap, sym, ◌∙◌}
use Rattle.std.specs.Prelude.{◌||◌}
use Rattle.std.proofs.lemmas.Result.{err_from_is_err_and}
use Rattle.base_bytes.specs.declared.flaw.Damage.{Damage}
use Rattle.base_bytes.specs.declared.flaw.Flaw.TheVariants.{Check, Tail, Padding, Order, Link}
use Rattle.skip_form.specs.Flaws.{head_in}
use Rattle.skip_spec.specs.Records.{key_in}
use Rattle.skip_spec.specs.Chain.{Entry}
use Rattle.skip_spec.specs.FirstFlaw.{unless, first_some, is_dirty, is_head_right, is_tail_right, is_padding_right, is_below, latest_key, lead_to, live_flaw}
use Rattle.skip_image.proofs.Exits.{step_over, stop_at, last_check, found, found_as}
use Rattle.skip_image.proofs.live.check_live.Goals as goal

module _ (file : List ℕ) (passed : List Entry) (at : ℕ) where
  live_is : live_flaw file passed at ≡ first_some (unless (is_dirty file || is_head_right file at) at Check ∷ unless (is_tail_right file at) at Tail ∷ unless (is_padding_right file at) at Padding
      ∷ unless (is_below (latest_key passed) (key_in file at)) at Order ∷ unless (is_dirty file || lead_to file passed at ((head_in file at).level - 1)) at Link ∷ [])
  unfolding live_flaw
  live_is = refl

  past_padding : (x : Option Damage) → unless (is_dirty file || is_head_right file at) at Check ≡ None → unless (is_tail_right file at) at Tail ≡ None → unless (is_padding_right file at) at Padding ≡ None
      → first_some (unless (is_below (latest_key passed) (key_in file at)) at Order ∷ unless (is_dirty file || lead_to file passed at ((head_in file at).level - 1)) at Link ∷ []) ≡ x → live_flaw file passed at ≡ x
  past_padding x head tail padding rest = live_is ∙ step_over _ _ head ∙ step_over _ _ tail ∙ step_over _ _ padding ∙ rest

  order_is : (before : List ℕ) → latest_key passed ≡ before → unless (is_below (latest_key passed) (key_in file at)) at Order ≡ unless (is_below before (key_in file at)) at Order
  order_is before key = ap (λ (k : List ℕ). unless (is_below k (key_in file at)) at Order) key

pub returns-in_err-check_head : goal.returns-in_err-check_head
returns-in_err-check_head c = λ passed are key.
    let exit = err_from_is_err_and c.from_residual.result c.from_residual.ensures.1 in
    found _ _ _ _ exit.1 exit.2 (live_is c.args.file.now passed c.args.at ∙ stop_at _ _ _ c.in_err-check_head.ensures)

pub returns-in_err-check_tail : goal.returns-in_err-check_tail
returns-in_err-check_tail c = λ passed are key.
    let exit = err_from_is_err_and c.from_residual-in_err-check_tail.result c.from_residual-in_err-check_tail.ensures.1 in
    found _ _ _ _ exit.1 exit.2 (live_is c.args.file.now passed c.args.at ∙ step_over _ _ c.in_ok-check_head.ensures ∙ stop_at _ _ _ c.in_err-check_tail.ensures)

pub returns-in_err-check_padding : goal.returns-in_err-check_padding
returns-in_err-check_padding c = λ passed are key.
    let exit = err_from_is_err_and c.from_residual-in_err-check_padding.result c.from_residual-in_err-check_padding.ensures.1 in
    found _ _ _ _ exit.1 exit.2 (live_is c.args.file.now passed c.args.at ∙ step_over _ _ c.in_ok-check_head.ensures ∙ step_over _ _ c.in_ok-check_tail.ensures ∙ stop_at _ _ _ c.in_err-check_padding.ensures)

pub returns-in_err-check_order : goal.returns-in_err-check_order
returns-in_err-check_order c = λ passed are key.
    let file = c.args.file.now in
    let exit = err_from_is_err_and c.from_residual-in_err-check_order.result c.from_residual-in_err-check_order.ensures.1 in
    found _ _ _ _ exit.1 exit.2 (past_padding file passed c.args.at _ c.in_ok-check_head.ensures c.in_ok-check_tail.ensures c.in_ok-check_padding.ensures (stop_at _ _ _ (order_is file passed c.args.at _ key ∙ c.in_err-check_order.ensures)))

pub returns : goal.returns
returns c = λ passed are key.
    let file = c.args.file.now in
    let at = c.args.at in
    let level = ap (λ (n : ℕ). unless (is_dirty file || lead_to file passed at (n - 1)) at Link) (sym c.level_at.ensures) in
    found_as _ _ c.check_links.result (past_padding file passed at _ c.in_ok-check_head.ensures c.in_ok-check_tail.ensures c.in_ok-check_padding.ensures (step_over _ _ (order_is file passed at _ key ∙ c.in_ok-check_order.ensures) ∙ last_check _ ∙ level)) (c.check_links.ensures passed are)
