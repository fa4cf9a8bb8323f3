use Rattle.std.proofs.Common.{refl, arith}
use Rattle.db_script.proofs.GatherLemmas.{nothing_behind, keeps_none}
use Rattle.db_script.proofs.script.Script.gather.Goals as goal

pub loop-seen-init : goal.loop-seen-init
loop-seen-init g c = record {
  within = omega arith;
  free = nothing_behind 10;
  script = keeps_none _ _;
  faults = refl;
  still = λ _. (refl, refl);
}
