use Rattle.std.proofs.Common.{ℕ, ◌+◌, ap, ◌∙◌, drop}
use Rattle.std.specs.List.{concat}
use Rattle.check_word.specs.CheckWord.{after_bytes}
use Rattle.check_word.proofs.BlockLemmas.{after_bytes-concat_drop}
use Rattle.check_word.proofs.register.after_blocks.Goals as goal

pub loop-block-preserved : goal.loop-block-preserved
loop-block-preserved c =
    ap (λ (r : ℕ). after_bytes r (concat (drop (c.loop-block.block-index + 1) c.args.blocks.now))) c.after_block-register.ensures
    ∙ after_bytes-concat_drop c.loop-block.register c.args.blocks.now c.loop-block.block-index c.loop-block-test.true
    ∙ c.loop-block.invariant
