use Rattle.std.proofs.Common.{inl, refl, sym, ap, ◌∙◌, ◌+◌, ◌≤◌, length, arith}
use Rattle.mem_devices.specs.Landings.{line_count_of}
use Rattle.mem_devices.proofs.Calls.{rest_after}
use Rattle.mem_devices.proofs.Time.{call_one_more}
use Rattle.mem_devices.proofs.Writing.{writes_done, writes_refused, write_pends, before_stop_le, refused_new, refused_landings, refused_pending}
use Rattle.mem_devices.proofs.memory.MemDiskDisk.write_at.Goals as goal

pub returns-in-Served-clause-write : goal.returns-in-Served-clause-write
returns-in-Served-clause-write c = writes_done _ _ _ _ _ _ _ _ _ _ _ _ c.in-Served.ensures.becomes.steps (omega arith)

pub returns-in-Served-clause-rest : goal.returns-in-Served-clause-rest
returns-in-Served-clause-rest c = rest_after _ _ _ refl (inl c.in-Served.ensures.becomes.steps) c.in-Served.ensures.bounds (ap (λ l. l.stop) c.add.ensures) (omega (arith, c.in-Served.ensures.becomes.faults)) (omega arith) (omega arith)

pub returns-in-Served-clause-call : goal.returns-in-Served-clause-call
returns-in-Served-clause-call c = call_one_more _ _ _ _ _ _ _ _ _ _ _ _ c.in-Served.ensures.becomes.steps refl

pub returns-in-Refused-clause-rest : goal.returns-in-Refused-clause-rest
returns-in-Refused-clause-rest c = rest_after _ _ _ refl (inl c.in-Refused.ensures.becomes.steps) c.in-Refused.ensures.bounds (ap (λ l. l.stop) c.add-in-Refused.ensures) c.in-Refused.ensures.becomes.fault.later (omega arith) (omega arith)

pub returns-in-Refused-clause-call : goal.returns-in-Refused-clause-call
returns-in-Refused-clause-call c = call_one_more _ _ _ _ _ _ _ _ _ _ _ _ c.in-Refused.ensures.becomes.steps refl

pub returns-in-Refused-clause-write : goal.returns-in-Refused-clause-write
returns-in-Refused-clause-write c = writes_refused _ _ _ _ _ _ _ c.in-Refused.ensures.becomes.steps c.first_bytes.ensures _ _ _ _ _ _ _ (omega arith) tt

pub returns-in-Refused-clause-pends : goal.returns-in-Refused-clause-pends
returns-in-Refused-clause-pends c = write_pends _ _ _ _ _ refl c.in-Refused.ensures.becomes.steps (cc (c.first_bytes.ensures, c.before_stop-landed.ensures, c.args.self.now.made_is, c.line_count-lines.ensures))

pub invariant_of-self-in-Refused-clause-new_is : goal.invariant_of-self-in-Refused-clause-new_is
invariant_of-self-in-Refused-clause-new_is c = c.args.self.now.new_is ∙ sym (refused_new _ _ _ _ _ _ _ c.in-Refused.ensures.becomes.steps c.first_bytes.ensures)

pub invariant_of-self-in-Refused-clause-made_is : goal.invariant_of-self-in-Refused-clause-made_is
invariant_of-self-in-Refused-clause-made_is c =
    let le : c.before_stop-landed.result ≤ line_count_of c.args.at (length c.args.bytes.now) = omega (arith, c.before_stop-landed.ensures, c.line_count-lines.ensures, before_stop_le c.args.self.now.landings.stop c.args.self.now.landings.made c.line_count-lines.result) in
    ap (λ l. l.made) c.add-in-Refused.ensures ∙ ap (λ n. n + c.before_stop-landed.result) c.args.self.now.made_is ∙ sym (refused_landings _ _ _ _ _ _ _ c.in-Refused.ensures.becomes.steps c.first_bytes.ensures le)

pub invariant_of-self-in-Refused-clause-pending_is : goal.invariant_of-self-in-Refused-clause-pending_is
invariant_of-self-in-Refused-clause-pending_is c =
    let le : c.before_stop-landed.result ≤ line_count_of c.args.at (length c.args.bytes.now) = omega (arith, c.before_stop-landed.ensures, c.line_count-lines.ensures, before_stop_le c.args.self.now.landings.stop c.args.self.now.landings.made c.line_count-lines.result) in
    ap (λ l. l.pending) c.add-in-Refused.ensures ∙ ap (λ n. n + c.before_stop-landed.result) c.args.self.now.pending_is ∙ sym (refused_pending _ _ _ _ _ _ _ c.in-Refused.ensures.becomes.steps c.first_bytes.ensures le)
