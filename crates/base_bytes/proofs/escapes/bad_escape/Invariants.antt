use Rattle.std.proofs.Common.{◌≤◌, ◌-◌, length}
use Rattle.base_bytes.proofs.EscapeLemmas.{IsReadTo}
use Rattle.base_bytes.proofs.escapes.bad_escape.Given as goal

abbrev pub invariant-loop-plain : goal.invariant-loop-plain
invariant-loop-plain l = record {
  within : l.at ≤ length l.field;
  read : IsReadTo l.field l.at;
}

abbrev pub decreases-loop-plain : goal.decreases-loop-plain
decreases-loop-plain l = length l.field - l.at
