use Rattle.flat_db.proofs.Sizes.{line_is}
use Rattle.flat_db.proofs.reading.line_size.Goals as goal

pub returns : goal.returns
returns c = line_is _ _ _ _ _ _ c.part.ensures c.part-2.ensures c.escaped_size.ensures.size c.escaped_size-2.ensures.size
