use Rattle.std.proofs.Common.{List, ℕ, sym, subst}
use Rattle.skip_form.specs.Flaws.{head_in}
use Rattle.skip_form.specs.Spelling.{StandsAt}
use Rattle.skip_image.proofs.Steps.{no_error}
use Rattle.skip_image.proofs.image.Image.head.Goals as goal

pub unreachable-requires : goal.unreachable-requires
unreachable-requires g c =
    let h = head_in c.args.self.now.bytes c.args.at in
    let there = subst (λ (b : List ℕ). StandsAt b c.args.at h) (sym c.bytes.ensures) c.requires.there in
    no_error c.head_at.result h c.in-Err.field-0 (c.head_at.ensures.only h there) c.in-Err.is
