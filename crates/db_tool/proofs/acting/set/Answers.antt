use Rattle.base_bytes.specs.declared.change.Change.TheVariants.{Put}
use Rattle.base_devices.specs.HostCalls.{moment}
use Rattle.db_tool.proofs.TaskLemmas.{changes_none}
use Rattle.db_tool.proofs.acting.set.Goals as goal

pub returns-in-Err-clause-changes : goal.returns-in-Err-clause-changes
returns-in-Err-clause-changes g c = changes_none g.B.Db.kind (Put c.args.word c.args.key.now c.args.value.now) (g.B.Db.state c.args.db.now) (moment (g.H.Disk.state c.args.host.now) (g.H.Host.streams c.args.host.now)) (g.met.H.Disk.is_moment _) (λ sound. g.met.B.Db.tie_opens _ _ sound c.requires.tied)
