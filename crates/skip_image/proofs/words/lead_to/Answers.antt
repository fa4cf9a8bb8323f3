use Rattle.std.proofs.Common.{sym, ◌∙◌, arith}
use Rattle.skip_image.proofs.LinkChecks.{leads_on, leads_elsewhere}
use Rattle.skip_image.proofs.words.lead_to.Goals as goal

pub returns-then-pointer-to : goal.returns-then-pointer-to
returns-then-pointer-to c = λ passed are.
    sym (leads_elsewhere c.args.file.now passed c.args.last.now are c.args.to c.loop-level.level (omega (arith, c.loop-level-test.true)) c.loop-level.invariant.below (λ e. c.if-pointer-to.true (c.pointer.ensures.value ∙ e)))
    ∙ c.loop-level.invariant.same passed are

pub loop-level-preserved : goal.loop-level-preserved
loop-level-preserved c = record {
  below = omega (arith, c.loop-level.invariant.below);
  same = λ passed are.
      sym (leads_on c.args.file.now passed c.args.last.now are c.args.to c.loop-level.level (omega (arith, c.loop-level-test.true)) c.loop-level.invariant.below (sym c.pointer.ensures.value ∙ c.if-pointer-to.false))
      ∙ c.loop-level.invariant.same passed are;
}
