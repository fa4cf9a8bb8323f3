use Rattle.std.proofs.Common.{◌≡◌, ◌+◌, length, take, get_or, ◌∙◌, ap, arith, length-append}
use Rattle.base_bytes.specs.Escapes.{escaped, escaped_byte}
use Rattle.base_bytes.proofs.EscapeLemmas.{escaped_more}
use Rattle.base_bytes.proofs.escapes.escaped_size.Goals as goal

pub loop-byte-preserved : goal.loop-byte-preserved
loop-byte-preserved c =
    let byte = get_or c.args.bytes.now c.loop-byte.byte-index 0 in
    let more : length (escaped (take (c.loop-byte.byte-index + 1) c.args.bytes.now)) ≡ length (escaped (take c.loop-byte.byte-index c.args.bytes.now)) + length (escaped_byte byte) =
    ap length (escaped_more c.loop-byte.byte-index c.args.bytes.now c.loop-byte-test.true) ∙ length-append _ _ in
    let sized = c.spelled_size-size.ensures in
    record { counted = omega (arith, more, sized.size); bound = omega (arith, sized.bound) }
