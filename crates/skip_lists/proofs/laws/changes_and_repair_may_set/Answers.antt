use Rattle.skip_lists.proofs.Appended.{may_place}
use Rattle.skip_lists.proofs.Permitted.{may_clear}
use Rattle.skip_lists.proofs.Relinked.{level_may}
use Rattle.std.proofs.Common.{refl}
use Rattle.skip_lists.proofs.laws.changes_and_repair_may_set.Goals as goal

pub returns : goal.returns
returns c = record {
  lead = may_place;
  relink = λ base bytes starts says front dropped added rest level to known r low high. level_may base bytes starts front dropped added rest level _ to says known r low high refl;
  clear = λ base image says at slot r n small low known far. may_clear base says r image n at slot small low known far;
}
