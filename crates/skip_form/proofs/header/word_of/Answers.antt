use Rattle.base_bytes.specs.Fields.{part}
use Rattle.skip_form.proofs.header.word_of.Goals as goal

pub returns : goal.returns
unfolding part
returns c = c.check.ensures
