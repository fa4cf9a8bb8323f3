use Rattle.std.specs.Prelude.{codes}
use Rattle.base_bytes.specs.OrderedMap.{with_prefix}
use Rattle.db_script.specs.Replies.{pair_replies}
use Rattle.db_tool.proofs.PrintLemmas.{prints_then, prints_ended}
use Rattle.db_script.proofs.replying.print_map.Goals as goal

pub returns-in-Err-clause-prints : goal.returns-in-Err-clause-prints
returns-in-Err-clause-prints g c = prints_ended _ _ (pair_replies (with_prefix (g.B.Db.state c.args.db.now).seen c.args.prefix.now)) (codes "END\n") c.in-Err.fault c.in-Err.ensures.prints

pub returns-clause-prints : goal.returns-clause-prints
returns-clause-prints g c =
    let on = g.met.H.Host.host_goes_on in
    prints_then _ _ _ (pair_replies (with_prefix (g.B.Db.state c.args.db.now).seen c.args.prefix.now)) (codes "END\n") tt c.print.result (on _ _ c.print_pairs.ensures.rest) (on _ _ c.print.ensures.rest) c.in_default.ensures.prints c.print.ensures.prints
