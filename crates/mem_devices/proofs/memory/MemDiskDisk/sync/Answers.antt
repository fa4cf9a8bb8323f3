use Rattle.std.proofs.Common.{inl, refl, ap, arith}
use Rattle.mem_devices.proofs.Calls.{rest_after}
use Rattle.mem_devices.proofs.memory.MemDiskDisk.sync.Goals as goal

pub returns-in-Served-clause-rest : goal.returns-in-Served-clause-rest
returns-in-Served-clause-rest c = rest_after _ _ _ refl (inl c.in-Served.ensures.becomes.steps) c.in-Served.ensures.bounds (ap (λ l. l.stop) c.settle.ensures) (omega (arith, c.in-Served.ensures.becomes.faults)) (omega arith) (omega arith)

pub returns-in-Refused-clause-rest : goal.returns-in-Refused-clause-rest
returns-in-Refused-clause-rest c = rest_after _ _ _ refl (inl c.in-Refused.ensures.becomes.steps) c.in-Refused.ensures.bounds refl c.in-Refused.ensures.becomes.fault.later (omega arith) (omega arith)
