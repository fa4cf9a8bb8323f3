use Rattle.std.proofs.Common.{arith, ◌/◌}
use Rattle.skip_image.proofs.Marked.{marks_read}
use Rattle.skip_image.proofs.marks.is_marked.Goals as goal

pub returns : goal.returns
returns c = λ starts old. marks_read c.args.marks.now starts c.args.at (c.args.at / 8) (omega arith) (omega arith) old
