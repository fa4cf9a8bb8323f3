use Rattle.skip_lists.proofs.Frames.{other_pointer, right, log_upper}
use Rattle.skip_spec.proofs.SameLog.{head_of_log}
use Rattle.skip_lists.proofs.laws.other_pointers_stay.Goals as goal

pub returns : goal.returns
returns c = record {
  pointers = λ old new starts es end at slot to log is sets fits head n m. (
    (λ which le. other_pointer old new starts es end log at slot to is sets fits head n (head_of_log old starts es end log head m).0 which le),
    right old new starts es end log at slot to is sets fits head m,
  );
  log = λ old new starts es end at slot to log is sets fits upper. log_upper old new starts es end log at slot to is sets fits upper;
}
