use Rattle.std.proofs.Common.{◌≡◌, ℕ, List, ◌∷◌, [], ap, sym, refl, ◌∙◌}
use Rattle.std.proofs.lemmas.Result.{err_from_is_err_and}
use Rattle.base_bytes.specs.declared.flaw.Flaw.TheVariants.{Slot}
use Rattle.skip_spec.specs.Successor.{pointer_under}
use Rattle.skip_spec.specs.FirstFlaw.{unless, first_some, are_slots_right, pointer_flaw, pointer_under_end, way_flaw}
use Rattle.skip_image.proofs.Exits.{step_over, stop_at, last_check, found, found_as}
use Rattle.skip_image.proofs.way.next_live.Goals as goal

way_is : (file starts : List ℕ) (at : ℕ) → way_flaw file starts at ≡ first_some (unless (are_slots_right file at) at Slot ∷ pointer_flaw file starts at (pointer_under_end file at) ∷ [])
unfolding way_flaw
way_is file starts at = refl

pub returns-in_err-check_slots-clause-finds : goal.returns-in_err-check_slots-clause-finds
returns-in_err-check_slots-clause-finds c = λ starts marked.
    let exit = err_from_is_err_and c.from_residual.result c.from_residual.ensures.1 in
    found _ _ _ _ exit.1 exit.2 (way_is c.args.file.now starts c.args.at ∙ stop_at _ _ _ c.in_err-check_slots.ensures)

pub returns-clause-finds : goal.returns-clause-finds
returns-clause-finds c = λ starts marked.
    let file = c.args.file.now in
    let at = c.args.at in
    let to = c.pointer_under.ensures ∙ ap (λ (end : ℕ). pointer_under file end at) c.requires.log.end in
    found_as _ _ c.led_to.result (way_is file starts at ∙ step_over _ _ c.in_ok-check_slots.ensures ∙ last_check _ ∙ ap (pointer_flaw file starts at) (sym to)) (c.led_to.ensures.finds starts marked)
