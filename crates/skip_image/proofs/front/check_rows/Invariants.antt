use Rattle.std.proofs.Common.{◌≡◌, ◌≤◌, ◌%◌, ◌-◌, ℕ, List, length}
use Rattle.skip_spec.specs.FirstFlaw.{end_of, RightRows}
use Rattle.skip_image.specs.Verifying.{Marks}
use Rattle.skip_image.proofs.front.check_rows.Given as goal

abbrev pub invariant-loop-at : goal.invariant-loop-at
invariant-loop-at l = record {
  inside : l.at ≤ end_of l.file;
  aligned : l.at % 8 ≡ 0;
  size : length l.marks ≡ length l.initial.marks;
  rows : (starts : List ℕ) × RightRows l.file 336 starts l.at × Marks l.marks starts;
}

abbrev pub decreases-loop-at : goal.decreases-loop-at
decreases-loop-at l = end_of l.file - l.at
