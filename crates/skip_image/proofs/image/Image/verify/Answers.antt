use Rattle.std.proofs.Common.{List, ℕ, ap, subst, ◌∙◌}
use Rattle.skip_spec.specs.FirstFlaw.{FirstFlaw}
use Rattle.skip_image.specs.Image.{ImageView}
use Rattle.skip_image.specs.Verifying.{answer_of}
use Rattle.skip_image.proofs.Verified.{exact}
use Rattle.skip_image.proofs.image.Image.verify.Goals as goal

pub returns-clause-flaw : goal.returns-clause-flaw
returns-clause-flaw c =
    exact c.args.self.now.bytes c.examine.result (subst (λ (b : List ℕ). FirstFlaw b (answer_of c.examine.result)) (c.deref.ensures.value ∙ ap (λ (v : ImageView). v.bytes) c.self.view_is) c.examine.ensures.first)
