use Rattle.std.proofs.Common.{arith}
use Rattle.skip_image.proofs.Starts.{past_end, not_aligned, as_marked}
use Rattle.skip_image.proofs.way.is_start.Goals as goal

pub returns-then-log-at : goal.returns-then-log-at
returns-then-log-at c = λ file starts log marked. past_end file c.args.marks.now starts marked c.args.at (omega (arith, log.end, c.if-log-at.true))

pub returns-then-at-ne0 : goal.returns-then-at-ne0
returns-then-at-ne0 c = λ file starts log marked. not_aligned file c.args.marks.now starts marked c.args.at c.if-at-ne0.true

pub returns : goal.returns
returns c = λ file starts log marked. as_marked file c.args.marks.now starts marked c.args.at c.is_marked.result (c.is_marked.ensures starts marked.1)
