use Rattle.std.proofs.Common.{arith}
use Rattle.base_bytes.specs.Escapes.{escaped_byte}
use Rattle.flat_db.proofs.writing.stands.Goals as goal

pub returns : goal.returns
unfolding escaped_byte
returns c is = grind (arith)
