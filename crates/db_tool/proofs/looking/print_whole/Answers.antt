use Rattle.std.proofs.Common.{[], Err, refl}
use Rattle.std.proofs.lemmas.List.{append-nil}
use Rattle.db_tool.proofs.PrintLemmas.{prints_then, all_printed}
use Rattle.db_tool.proofs.looking.print_whole.Goals as goal

pub returns-in-Err-clause-all : goal.returns-in-Err-clause-all
returns-in-Err-clause-all g c = all_printed _ _ _ _ (Err c.in-Err.fault) c.requires refl tt c.in-Err.ensures.prints

pub returns-clause-all : goal.returns-clause-all
returns-clause-all g c =
    let on = g.met.H.Host.host_goes_on in
    all_printed _ _ _ _ c.flush.result c.requires (append-nil c.args.text.now) c.flush.ensures.empty
    (prints_then _ _ _ c.args.text.now [] tt c.flush.result (on _ _ c.print.ensures.rest) (on _ _ c.flush.ensures.rest) c.in_default.ensures.prints c.flush.ensures.prints)
