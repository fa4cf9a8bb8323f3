use Rattle.std.proofs.Common.{◌≡◌, ℕ, subst, arith}
use Rattle.skip_image.specs.Verifying.{Raises}
use Rattle.skip_image.proofs.verify.raise.Goals as goal

pub returns-clause-raised : goal.returns-clause-raised
returns-clause-raised c =
    let last : c.loop-level.level ≡ c.args.height = omega (arith, c.loop-level-test.false, c.loop-level.auto.level-end, c.requires.low) in
    subst (λ (n : ℕ). Raises c.args.at n c.args.last.now c.loop-level.last) last c.loop-level.invariant.raised
