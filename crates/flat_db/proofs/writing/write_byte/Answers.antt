use Rattle.std.proofs.Common.{arith}
use Rattle.flat_db.proofs.writing.write_byte.Goals as goal

pub returns-in_err-make_room-clause-gathers : goal.returns-in_err-make_room-clause-gathers
returns-in_err-make_room-clause-gathers g c = record { all = λ fits. let still = c.in_err-make_room.ensures.still (omega (arith, fits)) in absurd (cc still.2) }
