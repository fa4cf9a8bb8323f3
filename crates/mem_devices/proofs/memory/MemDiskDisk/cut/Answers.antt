use Rattle.std.proofs.Common.{inl, refl, ap, arith, rules}
use Rattle.mem_devices.proofs.Calls.{rest_after}
use Rattle.mem_devices.proofs.Time.{call_one_more}
use Rattle.mem_devices.proofs.Writing.{cuts_done, cuts_refused, cut_pends}
use Rattle.mem_devices.proofs.memory.MemDiskDisk.cut.Goals as goal

pub returns-in_err-admit_landing-clause-rest : goal.returns-in_err-admit_landing-clause-rest
returns-in_err-admit_landing-clause-rest c = rest_after _ _ _ refl c.in_err-admit_landing.ensures.turns.steps c.in_err-admit_landing.ensures.bounds refl c.in_err-admit_landing.ensures.turns.fault.later (omega arith) (omega arith)

pub returns-in-Served-clause-rest : goal.returns-in-Served-clause-rest
returns-in-Served-clause-rest c =
    let becomes = rw c.in_ok-admit_landing.ensures.stays at c.in-Served.ensures.becomes in
    let bounds = rw c.in_ok-admit_landing.ensures.stays at c.in-Served.ensures.bounds in
    rest_after _ _ _ refl (inl becomes.steps) bounds (ap (λ l. l.stop) c.add.ensures) (omega (arith, becomes.faults)) (omega arith) (omega arith)

pub returns-in-Refused-clause-rest : goal.returns-in-Refused-clause-rest
returns-in-Refused-clause-rest c =
    let becomes = rw c.in_ok-admit_landing.ensures.stays at c.in-Refused.ensures.becomes in
    let bounds = rw c.in_ok-admit_landing.ensures.stays at c.in-Refused.ensures.bounds in
    rest_after _ _ _ refl (inl becomes.steps) bounds (ap (λ l. l.stop) c.add-in-Refused.ensures) becomes.fault.later (omega arith) (omega arith)

pub returns-in-Refused-clause-call : goal.returns-in-Refused-clause-call
returns-in-Refused-clause-call c =
    let becomes = rw c.in_ok-admit_landing.ensures.stays at c.in-Refused.ensures.becomes in
    call_one_more _ _ _ _ _ _ _ _ _ _ _ _ becomes.steps refl

pub returns-in-Served-clause-cut : goal.returns-in-Served-clause-cut
returns-in-Served-clause-cut c =
    let becomes = rw c.in_ok-admit_landing.ensures.stays at c.in-Served.ensures.becomes in
    cuts_done _ _ _ _ _ _ _ _ _ _ becomes.steps

pub returns-in-Refused-clause-cut : goal.returns-in-Refused-clause-cut
returns-in-Refused-clause-cut c =
    let becomes = rw c.in_ok-admit_landing.ensures.stays at c.in-Refused.ensures.becomes in
    cuts_refused _ _ _ _ _ _ _ _ _ _ becomes.steps tt

pub returns-in-Refused-clause-pends : goal.returns-in-Refused-clause-pends
returns-in-Refused-clause-pends c =
    let becomes = rw c.in_ok-admit_landing.ensures.stays at c.in-Refused.ensures.becomes in
    cut_pends _ _ _ refl becomes.steps (search rules)
