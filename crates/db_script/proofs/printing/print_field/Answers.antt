use Rattle.std.proofs.Common.{◌∷◌, []}
use Rattle.base_bytes.specs.Escapes.{escaped}
use Rattle.db_tool.proofs.PrintLemmas.{prints_then, prints_ended}
use Rattle.db_script.proofs.printing.print_field.Goals as goal

pub returns-in-Err-clause-prints : goal.returns-in-Err-clause-prints
returns-in-Err-clause-prints g c = prints_ended _ _ (escaped c.args.field.now) (c.args.end ∷ []) c.in-Err.fault c.in-Err.ensures.prints

pub returns-clause-prints : goal.returns-clause-prints
returns-clause-prints g c =
    let on = g.met.H.Host.host_goes_on in
    prints_then _ _ _ (escaped c.args.field.now) (c.args.end ∷ []) tt c.print.result (on _ _ c.print_escaped.ensures.rest) (on _ _ c.print.ensures.rest) c.in_default.ensures.prints c.print.ensures.prints
