use Rattle.std.proofs.Common.{◌∷◌, ◌++◌, [], List, ℕ, Err, subst, append_assoc}
use Rattle.base_devices.specs.declared.disk.Failed.{Failed}
use Rattle.db_tool.specs.Printing.{Prints, holding}
use Rattle.db_tool.proofs.PrintLemmas.{prints_then, prints_ended}
use Rattle.db_tool.proofs.looking.print_pair.Goals as goal

pub returns-in-Err-clause-prints : goal.returns-in-Err-clause-prints
returns-in-Err-clause-prints g c =
    subst (λ (l : List ℕ). Prints {T = Unit {0}} {E = Failed} l (holding c.args.output.now (g.H.Disk.state c.args.host.now) (g.H.Host.streams c.args.host.now)) (holding c.print_part.new.output (g.H.Disk.state c.print_part.new.host) (g.H.Host.streams c.print_part.new.host)) (Err c.in-Err.fault))
    (append_assoc c.args.key.now (9 ∷ []) (c.args.value.now ++ (10 ∷ [])))
    (prints_ended _ _ (c.args.key.now ++ (9 ∷ [])) (c.args.value.now ++ (10 ∷ [])) c.in-Err.fault c.in-Err.ensures.prints)

pub returns-clause-prints : goal.returns-clause-prints
returns-clause-prints g c =
    let on = g.met.H.Host.host_goes_on in
    subst (λ (l : List ℕ). Prints l (holding c.args.output.now (g.H.Disk.state c.args.host.now) (g.H.Host.streams c.args.host.now)) (holding c.print_part-2.new.output (g.H.Disk.state c.print_part-2.new.host) (g.H.Host.streams c.print_part-2.new.host)) c.print_part-2.result)
    (append_assoc c.args.key.now (9 ∷ []) (c.args.value.now ++ (10 ∷ [])))
    (prints_then _ _ _ (c.args.key.now ++ (9 ∷ [])) (c.args.value.now ++ (10 ∷ [])) tt c.print_part-2.result (on _ _ c.print_part.ensures.rest) (on _ _ c.print_part-2.ensures.rest) c.in_default.ensures.prints c.print_part-2.ensures.prints)
