use Rattle.std.proofs.Common.{◌≡◌, ◌≤◌, ◌<◌, ◌⊎◌, ℕ}
use Rattle.std.specs.Prelude.{slice_index}
use Rattle.skip_recover.proofs.links.set_last.Given as goal

abbrev pub invariant-loop-level : goal.invariant-loop-level
invariant-loop-level l = record {
  below : (i : ℕ) → i < l.level → slice_index l.last i ≡ l.at;
  above : (i : ℕ) → (l.level ≤ i) ⊎ (l.height ≤ i) → i ≤ 30 → slice_index l.last i ≡ slice_index l.initial.last i;
}
