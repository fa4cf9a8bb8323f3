use Rattle.std.specs.Prelude.{codes}
use Rattle.db_script.specs.Replies.{pair_fields}
use Rattle.db_tool.proofs.PrintLemmas.{prints_then, prints_ended}
use Rattle.db_script.proofs.replying.print_pair.Goals as goal

pub returns-in-Err-clause-prints : goal.returns-in-Err-clause-prints
returns-in-Err-clause-prints g c = prints_ended _ _ (codes "PAIR\t") (pair_fields (c.args.key.now, c.args.value.now)) c.in-Err.fault c.in-Err.ensures.prints

pub returns-clause-prints : goal.returns-clause-prints
returns-clause-prints g c =
    let on = g.met.H.Host.host_goes_on in
    prints_then _ _ _ (codes "PAIR\t") (pair_fields (c.args.key.now, c.args.value.now)) tt c.print_fields.result (on _ _ c.print.ensures.rest) (on _ _ c.print_fields.ensures.rest) c.in_default.ensures.prints c.print_fields.ensures.prints
