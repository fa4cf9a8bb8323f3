use Rattle.std.proofs.Common.{◌∷◌, ◌++◌, []}
use Rattle.db_tool.proofs.PrintLemmas.{prints_none, prints_held, prints_then, prints_ended}
use Rattle.db_tool.specs.Printing.{holding}
use Rattle.db_tool.proofs.printing.print_part.Goals as goal

pub returns-in-Err-clause-prints : goal.returns-in-Err-clause-prints
returns-in-Err-clause-prints g c = prints_ended _ _ c.args.part.now (c.args.end ∷ []) c.in-Err.fault c.in-Err.ensures.prints

pub returns-clause-prints : goal.returns-clause-prints
returns-clause-prints g c =
    let on = g.met.H.Host.host_goes_on in
    prints_then _ _ _ c.args.part.now (c.args.end ∷ []) tt c.print-2.result (on _ _ c.print.ensures.rest) (on _ _ c.print-2.ensures.rest) c.in_default.ensures.prints c.print-2.ensures.prints

pub returns-then-part-room-clause-prints : goal.returns-then-part-room-clause-prints
returns-then-part-room-clause-prints g c =
    let m = holding c.args.output.now (g.H.Disk.state c.args.host.now) (g.H.Host.streams c.args.host.now) in
    prints_held m m c.gather.new.output [] (c.args.part.now ++ (c.args.end ∷ [])) tt c.gather.ensures
    (prints_none c.args.output.now (g.H.Disk.state c.args.host.now) (g.H.Host.streams c.args.host.now) tt (g.met.H.Disk.is_moment _))
