use Rattle.std.proofs.Common.{◌≡◌, List, ℕ}
use Rattle.std.specs.Prelude.{length}
use Rattle.skip_lists.specs.Levels.{ArePast}
use Rattle.skip_change.specs.Changing.{HasSpot}
use Rattle.skip_change.proofs.spot.pointers_past.Given as goal

abbrev pub invariant-loop-level : goal.invariant-loop-level
invariant-loop-level l = record {
  long : length l.pointers ≡ 32;
  past : (key : List ℕ) (s : HasSpot l.bytes key l.spot) → ArePast l.pointers s.found.place.rest l.level;
}
