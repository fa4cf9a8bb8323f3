use Rattle.std.proofs.Common.{ap, ◌∙◌, arith, rules}
use Rattle.std.specs.List.{list_all}
use Rattle.mem_devices.specs.History.{total_size, steps_of, is_within}
use Rattle.mem_devices.proofs.StepLemmas.{total_size-append, all_within, steps-bare}
use Rattle.mem_devices.proofs.call_log.CallLog.note.Goals as goal

pub invariant_of-self-clause-sizes : goal.invariant_of-self-clause-sizes
invariant_of-self-clause-sizes c =
    ap total_size c.push_reserved.ensures.items
    ∙ total_size-append c.args.self.now.events.items c.args.event
    ∙ omega (arith, c.requires.bare, c.args.self.now.sizes)

pub returns : goal.returns
returns c = record {
  steps = ap (λ l. steps_of l c.args.self.now.bytes.items) c.push_reserved.ensures.items
      ∙ steps-bare c.args.self.now.events.items c.args.event c.args.self.now.bytes.items c.args.self.now.sizes c.requires.bare;
  spare = search rules;
  calls = search rules;
  faults = search rules;
  room = search rules;
  fails = search rules;
}

pub invariant_of-self-clause-within : goal.invariant_of-self-clause-within
invariant_of-self-clause-within c =
    ap (list_all (is_within c.args.self.now.room)) c.push_reserved.ensures.items
    ∙ all_within c.args.self.now.room c.args.self.now.events.items c.args.event c.args.self.now.within c.requires.within
