use Rattle.std.proofs.Common.{◌≡◌, ◌≤◌, ◌-◌, ℕ, List, length, take, drop}
use Rattle.base_bytes.specs.Escapes.{Spells}
use Rattle.base_bytes.proofs.escapes.unescape.Given as goal

abbrev pub invariant-loop-from : goal.invariant-loop-from
invariant-loop-from l = record {
  long : length l.field ≡ length l.initial.field;
  ordered : l.to ≤ l.from;
  within : l.from ≤ length l.field;
  bytes : (bytes : List ℕ) → Spells bytes l.initial.field → (take l.to bytes ≡ take l.to l.field) × Spells (drop l.to bytes) (drop l.from l.field);
}

abbrev pub decreases-loop-from : goal.decreases-loop-from
decreases-loop-from l = length l.field - l.from
