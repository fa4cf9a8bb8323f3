use Rattle.std.proofs.Common.{◌≡◌, drop}
use Rattle.std.specs.List.{concat}
use Rattle.check_word.specs.CheckWord.{after_bytes}
use Rattle.check_word.proofs.register.after_blocks.Given as goal

abbrev pub invariant-loop-block : goal.invariant-loop-block
invariant-loop-block l = after_bytes l.register (concat (drop l.block-index l.blocks)) ≡ after_bytes l.fn.register (concat l.blocks)
