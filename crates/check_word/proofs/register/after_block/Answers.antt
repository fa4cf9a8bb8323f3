use Rattle.std.proofs.Common.{ℕ, ap, ◌∙◌, arith, bit_xor}
use Rattle.std.specs.Int.{w128, to_le_bytes}
use Rattle.check_word.proofs.BlockLemmas.{after_bytes-block, mixed-block}
use Rattle.check_word.proofs.register.after_block.Goals as goal

pub returns : goal.returns
returns c =
    let bytes = c.to_le_bytes-mixed.ensures ∙ ap (λ (r : ℕ). to_le_bytes w128 (bit_xor r c.from_le_bytes.result)) c.from.ensures ∙ mixed-block c.args.register c.from_le_bytes.result c.args.block.now c.ranges.register.fits (λ i. omega (arith, c.fits-block i)) c.from_le_bytes.ensures in
    rw (c.look_up.ensures, c.look_up-2.ensures, c.look_up-3.ensures, c.look_up-4.ensures, c.look_up-5.ensures, c.look_up-6.ensures, c.look_up-7.ensures, c.look_up-8.ensures, c.look_up-9.ensures, c.look_up-10.ensures, c.look_up-11.ensures, c.look_up-12.ensures, c.look_up-13.ensures, c.look_up-14.ensures, c.look_up-15.ensures, c.look_up-16.ensures, bytes)
    (after_bytes-block c.args.register c.args.block.now c.ranges.register.fits c.told-block)
