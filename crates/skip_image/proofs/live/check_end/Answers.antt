use Rattle.std.proofs.Common.{◌≡◌, ℕ, List, ◌∷◌, [], eqb, length, refl, ap, ◌∙◌}
use Rattle.std.specs.Prelude.{◌||◌}
use Rattle.std.proofs.lemmas.Result.{err_from_is_err_and}
use Rattle.base_bytes.specs.declared.flaw.Flaw.TheVariants.{Link, Count}
use Rattle.skip_form.specs.Flaws.{header_in}
use Rattle.skip_spec.specs.Chain.{Entry}
use Rattle.skip_spec.specs.FirstFlaw.{unless, first_some, is_dirty, lead_to, end_flaw}
use Rattle.skip_image.proofs.Exits.{step_over, stop_at, last_check, found, found_as}
use Rattle.skip_image.proofs.live.check_end.Goals as goal

end_is : (file : List ℕ) (passed : List Entry) → end_flaw file passed
    ≡ first_some (unless (is_dirty file || lead_to file passed 0 30) 64 Link ∷ unless (is_dirty file || eqb (header_in file).num_records (length passed)) 32 Count ∷ [])
unfolding end_flaw
end_is file passed = refl

pub returns-in_err-check_links : goal.returns-in_err-check_links
returns-in_err-check_links c = λ passed are count.
    let exit = err_from_is_err_and c.from_residual.result c.from_residual.ensures.1 in
    found _ _ _ _ exit.1 exit.2 (end_is c.args.file.now passed ∙ stop_at _ _ _ (c.in_err-check_links.ensures passed are))

pub returns : goal.returns
returns c = λ passed are count.
    let file = c.args.file.now in
    found_as _ _ c.check_count.result (end_is file passed ∙ step_over _ _ (c.in_ok-check_links.ensures passed are) ∙ last_check _ ∙ ap (λ (n : ℕ). unless (is_dirty file || eqb (header_in file).num_records n) 32 Count) count) c.check_count.ensures
