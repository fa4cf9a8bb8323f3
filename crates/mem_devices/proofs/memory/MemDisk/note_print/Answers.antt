use Rattle.std.proofs.Common.{arith, rules, ◌∙◌, add-zero}
use Rattle.mem_devices.proofs.Time.{goes_one_more, print_one_more, print_marks, print_keeps, clock_rises}
use Rattle.mem_devices.proofs.memory.MemDisk.note_print.Goals as goal

pub returns-in-Served-clause-print : goal.returns-in-Served-clause-print
returns-in-Served-clause-print c = record {
  ok = print_marks _ _ _ _ c.in-Served.ensures.becomes.steps;
  err = search rules;
  each = print_one_more _ _ _ _ _ _ _ _ _ _ _ _ c.in-Served.ensures.becomes.steps;
  stands = λ same. absurd (clock_rises _ _ _ c.in-Served.ensures.becomes.steps same);
  keeps = print_keeps _ _ _ _ _ _ _ _ _ c.in-Served.ensures.becomes.steps;
  next = search rules;
  rest = record {
    time = goes_one_more _ _ _ _ _ _ _ _ _ _ _ _ c.in-Served.ensures.becomes.steps (omega (arith, c.in-Served.ensures.becomes.faults)) (omega arith) (omega arith);
    fails = search rules;
    room = search rules;
    stop = search rules;
  };
}

pub returns-in-Refused-clause-print : goal.returns-in-Refused-clause-print
returns-in-Refused-clause-print c = record {
  ok = search rules;
  err = print_marks _ _ _ _ c.in-Refused.ensures.becomes.steps ∙ add-zero _;
  each = print_one_more _ _ _ _ _ _ _ _ _ _ _ _ c.in-Refused.ensures.becomes.steps;
  stands = λ same. absurd (clock_rises _ _ _ c.in-Refused.ensures.becomes.steps same);
  keeps = print_keeps _ _ _ _ _ _ _ _ _ c.in-Refused.ensures.becomes.steps;
  next = search rules;
  rest = record {
    time = goes_one_more _ _ _ _ _ _ _ _ _ _ _ _ c.in-Refused.ensures.becomes.steps c.in-Refused.ensures.becomes.fault.later (omega arith) (omega arith);
    fails = search rules;
    room = search rules;
    stop = search rules;
  };
}
