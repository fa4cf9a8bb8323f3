use Rattle.std.proofs.Common.{◌≡◌, ◌+◌, ◌-◌, length, replicate, ap, ◌∙◌, arith}
use Rattle.std.specs.Prelude.{slice_set}
use Rattle.skip_spec.specs.Appending.{pointers_to}
use Rattle.skip_spec.proofs.LayoutLemmas.{length-upper}
use borrow.Rule.Slice.PartMut.{mid_of}
use Rattle.skip_layout.proofs.PointerSteps.{filled_part, led}
use Rattle.skip_layout.proofs.log.lead_to.Goals as goal

pub returns : goal.returns
returns c = λ e rest is_level is_at is.
    let long : length (pointers_to 31 rest) ≡ 32 = omega (arith, length-upper 1 30 rest) in
    let part : length (mid_of 2 (c.args.level + 1 - 2) (slice_set c.args.pointers.now 0 c.args.at)) ≡ c.args.level + 1 - 2 =
    filled_part c.args.pointers.now c.args.at (c.args.level + 1 - 2) (omega (arith, ap length is, long)) in
    led c.args.pointers.now c.fill.new.self c.args.level c.args.at (c.args.level + 1 - 2) e rest c.requires.level.0 c.requires.level.1 (omega arith) (c.fill.ensures.after (λ y is. is) ∙ ap (λ n. replicate n c.args.at) part) is_level is_at is
