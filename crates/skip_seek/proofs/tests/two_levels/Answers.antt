use Rattle.std.proofs.Common.{◌≡◌, List, ℕ, sym, ap, subst, ◌∙◌}
use Rattle.std.specs.Prelude.{take}
use Rattle.skip_form.specs.Flaws.{header_in}
use Rattle.skip_form.specs.Spelling.{header_bytes}
use Rattle.skip_spec.specs.Examples.{two_levels_file}
use Rattle.skip_seek.specs.Searches.{IsLive}
use Rattle.skip_seek.proofs.TwoLevels.{two_levels_live}
use Rattle.skip_seek.proofs.tests.two_levels.Goals as goal

pub returns : goal.returns
returns c =
    let o = c.two_levels_file_opens.ensures in
    let same : c.in_ok-image.image.bytes ≡ two_levels_file = c.in_ok-image.ensures.bytes ∙ c.in-Ok.ensures.items in
    let header = c.header-header.ensures.only o.says.header o.reads.fields (subst (λ (b : List ℕ). take 64 b ≡ header_bytes o.says.header) (sym same) o.reads.header) in
    let is : o.says.header ≡ header_in two_levels_file = sym header ∙ c.header-header.ensures.fields ∙ ap header_in same in
    subst (λ (b : List ℕ). IsLive b) (sym same) (two_levels_live o is)
