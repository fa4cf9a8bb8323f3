use Rattle.std.proofs.Common.{[], Err, refl}
use Rattle.std.proofs.lemmas.List.{append-nil}
use Rattle.base_bytes.specs.OrderedMap.{with_prefix}
use Rattle.db_tool.specs.Printing.{shown}
use Rattle.db_tool.proofs.PrintLemmas.{prints_then, all_printed}
use Rattle.db_tool.proofs.looking.print_map.Goals as goal

pub returns-in-Err-clause-all : goal.returns-in-Err-clause-all
returns-in-Err-clause-all g c = all_printed _ _ _ _ (Err c.in-Err.fault) c.requires.empty refl tt c.in-Err.ensures.prints

pub returns-clause-all : goal.returns-clause-all
returns-clause-all g c =
    let on = g.met.H.Host.host_goes_on in
    let text = shown (with_prefix (g.B.Db.state c.args.db.now).seen c.args.prefix.now) in
    all_printed _ _ _ _ c.flush.result c.requires.empty (append-nil text) c.flush.ensures.empty
    (prints_then _ _ _ text [] tt c.flush.result (on _ _ c.print_pairs.ensures.rest) (on _ _ c.flush.ensures.rest) c.in_default.ensures.prints c.flush.ensures.prints)
