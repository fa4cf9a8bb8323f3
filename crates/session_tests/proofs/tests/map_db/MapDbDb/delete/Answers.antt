use Rattle.flat_db.proofs.SessionLemmas.{leaves_disk, makes_no_call}
use Rattle.session_tests.specs.MemorySessions.{counting_kind}
use Rattle.session_tests.proofs.tests.map_db.MapDbDb.delete.Goals as goal

pub returns-clause-change : goal.returns-clause-change
returns-clause-change g c = makes_no_call (counting_kind 9) _ _ _ _ _ (g.D.Disk.state c.args._disk.now) c.take_out.result c.take_out.ensures.answer c.take_out.ensures.no_fault (g.met.D.Disk.is_moment _) (λ sound i left. tt)

pub returns-clause-unharmed : goal.returns-clause-unharmed
returns-clause-unharmed g c = leaves_disk c.args._disk.now c.take_out.result
