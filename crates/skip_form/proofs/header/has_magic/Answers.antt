use Rattle.std.proofs.Common.{ap, ◌∙◌, take}
use Rattle.std.specs.Prelude.{nat_eq}
use Rattle.std.specs.Cmp.Lexicographic.{pointwise}
use Rattle.base_bytes.specs.Fields.{part}
use Rattle.skip_form.proofs.header.has_magic.Goals as goal

pub returns : goal.returns
unfolding part
returns c = c.eq.ensures ∙ ap (pointwise nat_eq (take 20 c.args.bytes.now)) c.as_slice.ensures
