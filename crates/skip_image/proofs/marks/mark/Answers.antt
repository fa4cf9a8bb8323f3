use Rattle.std.proofs.Common.{arith, ◌/◌}
use Rattle.skip_image.proofs.Marked.{marks_push}
use Rattle.skip_image.proofs.marks.mark.Goals as goal

pub returns-clause-marked : goal.returns-clause-marked
returns-clause-marked c = λ starts old. marks_push c.args.marks.now starts c.args.at (c.args.at / 8) (omega arith) (omega arith) old
