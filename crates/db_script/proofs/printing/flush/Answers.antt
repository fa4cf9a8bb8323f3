use Rattle.db_tool.proofs.PrintLemmas.{prints_none, prints_done, prints_failed}
use Rattle.std.proofs.Common.{[], List, ℕ, Ok, sym, subst}
use Rattle.base_devices.specs.declared.disk.Failed.{Failed}
use Rattle.db_tool.specs.Printing.{Prints, holding}
use Rattle.db_script.proofs.printing.flush.Goals as goal

pub returns-then-is_empty-clause-prints : goal.returns-then-is_empty-clause-prints
returns-then-is_empty-clause-prints g c = prints_none c.args.output.now (g.H.Disk.state c.args.host.now) (g.H.Host.streams c.args.host.now) tt (g.met.H.Disk.is_moment _)

pub returns-in-Err-clause-prints : goal.returns-in-Err-clause-prints
returns-in-Err-clause-prints g c = prints_failed c.args.output.now _ _ _ _ _ c.in-Err.fault c.as_slice-2.ensures c.in-Err.ensures.prefix c.in-Err.ensures.warned c.in-Err.ensures.mark c.in-Err.ensures.disk c.in-Err.ensures.cause

pub returns-clause-prints : goal.returns-clause-prints
returns-clause-prints g c =
    subst (λ (held : List ℕ). Prints {E = Failed} [] (holding c.args.output.now (g.H.Disk.state c.args.host.now) (g.H.Host.streams c.args.host.now)) (holding held (g.H.Disk.state c.tell.new.self) (g.H.Host.streams c.tell.new.self)) (Ok (tt {0})))
    (sym c.clear.ensures)
    (prints_done c.args.output.now _ _ _ _ _ tt c.as_slice-2.ensures c.in_default.ensures.told c.in_default.ensures.warned c.in_default.ensures.mark c.in_default.ensures.disk c.in_default.ensures.cause)
