use Rattle.std.proofs.Common.{ap, sym, ◌∙◌}
use Rattle.base_bytes.specs.Fields.{u64_in}
use Rattle.base_bytes.proofs.Parts.{part-8}
use Rattle.base_bytes.proofs.fields.u64_at.Goals as goal

pub returns : goal.returns
unfolding u64_in
returns c = c.from_be_bytes.ensures ∙ sym (ap u64_in (part-8 c.args.bytes.now c.args.at c.requires))
