use Rattle.skip_lists.proofs.Relinked.{relinked, all_relinked}
use Rattle.skip_lists.proofs.laws.levels_are_relinked.Goals as goal

pub returns : goal.returns
returns c = record {
  level = λ old new starts front dropped added rest level r low high sets long. relinked old new starts front dropped added rest level r low high sets long;
  live = all_relinked;
}
