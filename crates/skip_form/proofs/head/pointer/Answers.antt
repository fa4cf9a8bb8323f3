use Rattle.std.proofs.Common.{ap, arith, ◌∙◌, ◌+◌, ◌*◌}
use Rattle.std.specs.Int.{w64, to_be_bytes}
use Rattle.skip_form.proofs.HeadLemmas.{head_inside}
use Rattle.base_bytes.proofs.Parts.{to_be_bytes-u64_in}
use Rattle.skip_form.proofs.head.pointer.Goals as goal

pub returns-clause-spelled : goal.returns-clause-spelled
returns-clause-spelled c =
    let inside = head_inside c.args.bytes.now c.args.at c.requires.head in
    ap (to_be_bytes w64) c.u64_at.ensures ∙ to_be_bytes-u64_in c.args.bytes.now (c.args.at + 8 + 8 * c.args.slot) (λ i. omega (arith, c.type_inv.bytes i)) (omega (arith, inside))
