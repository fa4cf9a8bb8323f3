use Rattle.std.proofs.Common.{ap, sym, ◌∙◌}
use Rattle.skip_form.specs.Fields.{u16_in}
use Rattle.base_bytes.proofs.Parts.{part-2}
use Rattle.skip_image.proofs.fields.u16_at.Goals as goal

pub returns : goal.returns
unfolding u16_in
returns c = c.from_be_bytes.ensures ∙ sym (ap u16_in (part-2 c.args.bytes.now c.args.at c.requires))
