use Rattle.db_tool.proofs.PrintLemmas.{prints_none}
use Rattle.db_script.proofs.batching.make_way.Goals as goal

pub returns-clause-prints : goal.returns-clause-prints
returns-clause-prints g c = prints_none c.args.output.now (g.H.Disk.state c.args.host.now) (g.H.Host.streams c.args.host.now) tt (g.met.H.Disk.is_moment _)
