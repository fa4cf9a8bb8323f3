use Rattle.std.proofs.Common.{ap, sym, ◌∙◌}
use Rattle.base_bytes.specs.Fields.{u32_in}
use Rattle.base_bytes.proofs.Parts.{part-4}
use Rattle.base_bytes.proofs.fields.u32_at.Goals as goal

pub returns : goal.returns
unfolding u32_in
returns c = c.from_be_bytes.ensures ∙ sym (ap u32_in (part-4 c.args.bytes.now c.args.at c.requires))
