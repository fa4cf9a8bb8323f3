use Rattle.std.proofs.Common.{refl}
use Rattle.mail_rebuild.proofs.old_index.old_index.Goals as goal

pub returns-in-Err-clause-is : goal.returns-in-Err-clause-is
returns-in-Err-clause-is c = (c.in-Some.bytes.now, rw c.in-Some.is refl, (c.in-Err.ensures.fault c.in-Err.fault).0 refl)
