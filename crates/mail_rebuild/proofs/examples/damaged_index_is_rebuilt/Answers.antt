use Rattle.std.proofs.Common.{refl}
use Rattle.std.specs.Fmt.{digits}
use Rattle.mail_rebuild.proofs.examples.damaged_index_is_rebuilt.Goals as goal

pub returns-clause-report : goal.returns-clause-report
unfolding digits
returns-clause-report c file check = rw check refl

pub returns-clause-header : goal.returns-clause-header
unfolding digits
returns-clause-header c file check = (rw check refl, rw check refl)
