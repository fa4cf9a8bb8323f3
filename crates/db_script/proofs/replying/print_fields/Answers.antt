use Rattle.std.proofs.Common.{◌∷◌, ◌++◌, []}
use Rattle.base_bytes.specs.Escapes.{escaped}
use Rattle.db_tool.proofs.PrintLemmas.{prints_then, prints_ended}
use Rattle.db_script.proofs.replying.print_fields.Goals as goal

pub returns-in-Err-clause-prints : goal.returns-in-Err-clause-prints
returns-in-Err-clause-prints g c = prints_ended _ _ (escaped c.args.key.now ++ (9 ∷ [])) (escaped c.args.value.now ++ (10 ∷ [])) c.in-Err.fault c.in-Err.ensures.prints

pub returns-clause-prints : goal.returns-clause-prints
returns-clause-prints g c =
    let on = g.met.H.Host.host_goes_on in
    prints_then _ _ _ (escaped c.args.key.now ++ (9 ∷ [])) (escaped c.args.value.now ++ (10 ∷ [])) tt c.print_field-2.result (on _ _ c.print_field.ensures.rest) (on _ _ c.print_field-2.ensures.rest) c.in_default.ensures.prints c.print_field-2.ensures.prints
