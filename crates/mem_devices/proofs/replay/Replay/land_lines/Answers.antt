use Rattle.std.proofs.Common.{◌∙◌, drop, rules}
use Rattle.mem_devices.specs.Replay.{left_of}
use Rattle.mem_devices.proofs.ReplayLemmas.{next_left, next_used, none_left}
use Rattle.mem_devices.proofs.replay.Replay.land_lines.Goals as goal

pub loop-rest-preserved : goal.loop-rest-preserved
loop-rest-preserved c = record {
  within = search rules;
  left = next_left c.loop-rest.place c.loop-rest.rest.now c.min-count.result c.split_at.result.0.now c.split_at.result.1.now (drop c.loop-rest.self.used c.args.landed.now) (drop c.land_line.new.self.used c.args.landed.now) (search rules) (search rules) (search rules) (search rules) c.in_ok-land_line.ensures.used _ _ c.in_ok-land_line.ensures.left ∙ c.loop-rest.invariant.left;
  used = next_used c.loop-rest.place c.loop-rest.rest.now c.min-count.result c.split_at.result.0.now c.split_at.result.1.now (drop c.loop-rest.self.used c.args.landed.now) (drop c.land_line.new.self.used c.args.landed.now) (search rules) (search rules) (search rules) (search rules) c.in_ok-land_line.ensures.used ∙ c.loop-rest.invariant.used;
  main = search rules;
}

pub returns-clause-left : goal.returns-clause-left
returns-clause-left c = none_left c.loop-rest.place c.loop-rest.rest.now (drop c.loop-rest.self.used c.args.landed.now) (left_of c.loop-rest.self) (search rules) ∙ c.loop-rest.invariant.left
