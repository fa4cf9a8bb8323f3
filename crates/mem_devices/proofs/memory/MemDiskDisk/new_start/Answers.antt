use Rattle.std.proofs.Common.{inl, refl, arith}
use Rattle.mem_devices.proofs.Calls.{rest_after}
use Rattle.mem_devices.proofs.Time.{call_one_more}
use Rattle.mem_devices.proofs.memory.MemDiskDisk.new_start.Goals as goal

pub returns-in-Served-clause-rest : goal.returns-in-Served-clause-rest
returns-in-Served-clause-rest c = rest_after _ _ _ refl (inl c.in-Served.ensures.becomes.steps) c.in-Served.ensures.bounds refl (omega (arith, c.in-Served.ensures.becomes.faults)) (omega arith) (omega arith)

pub returns-in-Refused-clause-rest : goal.returns-in-Refused-clause-rest
returns-in-Refused-clause-rest c = rest_after _ _ _ refl (inl c.in-Refused.ensures.becomes.steps) c.in-Refused.ensures.bounds refl c.in-Refused.ensures.becomes.fault.later (omega arith) (omega arith)

pub returns-in-Refused-clause-call : goal.returns-in-Refused-clause-call
returns-in-Refused-clause-call c = call_one_more _ _ _ _ _ _ _ _ _ _ _ _ c.in-Refused.ensures.becomes.steps refl
