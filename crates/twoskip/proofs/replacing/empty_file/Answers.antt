use Rattle.std.proofs.Common.{◌∙◌, ◌++◌}
use Rattle.twoskip.proofs.EmptyFile.{empty_is}
use Rattle.twoskip.proofs.replacing.empty_file.Goals as goal

pub returns : goal.returns
returns c = (λ i. (c.copy_from_slice.ensures.after ∙ c.write_header.ensures) i ++ c.write_head_into.ensures i) ∙ empty_is c.tail_check.result c.tail_check.ensures
