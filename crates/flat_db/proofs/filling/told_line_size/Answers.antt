use Rattle.std.proofs.Common.{arith}
use Rattle.flat_db.proofs.Sizes.{line_length}
use Rattle.flat_db.proofs.filling.told_line_size.Goals as goal

pub returns : goal.returns
returns c = omega (arith, line_length c.args.key.now c.args.value.now, c.escaped_size.ensures.size, c.escaped_size-2.ensures.size, c.saturating_add-text.ensures, c.saturating_add.ensures)
