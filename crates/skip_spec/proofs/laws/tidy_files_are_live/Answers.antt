use Rattle.skip_spec.proofs.SameLog.{tidy_live, live_tidy, live_stays}
use Rattle.skip_spec.proofs.laws.tidy_files_are_live.Goals as goal

pub returns : goal.returns
returns c = record { live = tidy_live; back = live_tidy; header = live_stays }
