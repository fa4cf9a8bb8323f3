use Rattle.std.proofs.Common.{◌≡◌, ℕ, List, ◌∷◌, [], refl, ◌∙◌}
use Rattle.std.specs.Prelude.{◌||◌}
use Rattle.std.proofs.lemmas.Result.{err_from_is_err_and}
use Rattle.base_bytes.specs.declared.flaw.Flaw.TheVariants.{Check, Tail}
use Rattle.skip_spec.specs.FirstFlaw.{unless, first_some, is_dirty, is_head_right, is_tail_right, dummy_flaw}
use Rattle.skip_image.proofs.Exits.{step_over, stop_at, last_check, found, found_as}
use Rattle.skip_image.proofs.live.check_dummy.Goals as goal

dummy_is : (file : List ℕ) → dummy_flaw file ≡ first_some (unless (is_dirty file || is_head_right file 64) 64 Check ∷ unless (is_tail_right file 64) 64 Tail ∷ [])
unfolding dummy_flaw
dummy_is file = refl

pub returns-in_err-check_head : goal.returns-in_err-check_head
returns-in_err-check_head c =
    let exit = err_from_is_err_and c.from_residual.result c.from_residual.ensures.1 in
    found _ _ _ _ exit.1 exit.2 (dummy_is c.args.file.now ∙ stop_at _ _ _ c.in_err-check_head.ensures)

pub returns : goal.returns
returns c = found_as _ _ c.check_tail.result (dummy_is c.args.file.now ∙ step_over _ _ c.in_ok-check_head.ensures ∙ last_check _) c.check_tail.ensures
