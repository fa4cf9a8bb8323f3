use Rattle.std.proofs.Common.{refl, arith}
use Rattle.db_script.specs.Fields.{field_bytes}
use Rattle.db_script.proofs.form.lone_form.Goals as goal

pub returns-then-eq-4-clause-some : goal.returns-then-eq-4-clause-some
unfolding field_bytes
returns-then-eq-4-clause-some c line = record { reads = grind (arith); spelled = refl; within = (omega arith, omega arith, omega arith) }
