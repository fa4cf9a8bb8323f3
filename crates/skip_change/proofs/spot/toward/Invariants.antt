use Rattle.std.proofs.Common.{◌≡◌, ◌≤◌, ◌<◌, ◌+◌, ℕ}
use Rattle.std.specs.Prelude.{slice_index, length}
use Rattle.skip_change.proofs.spot.toward.Given as goal

abbrev pub invariant-loop-i : goal.invariant-loop-i
invariant-loop-i l = record {
  long : length l.leads ≡ 32;
  low : (j : ℕ) → 1 ≤ j → j < l.i → slice_index l.leads (j + 1) ≡ l.to;
  high : (j : ℕ) → l.i ≤ j → slice_index l.leads (j + 1) ≡ slice_index l.initial.pointers (j + 1);
}
