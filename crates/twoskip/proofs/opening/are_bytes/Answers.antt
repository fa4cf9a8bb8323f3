use Rattle.std.proofs.Common.{arith}
use Rattle.twoskip.proofs.opening.are_bytes.Goals as goal

pub returns : goal.returns
returns c = λ i. omega (arith, c.type_inv._file i)
