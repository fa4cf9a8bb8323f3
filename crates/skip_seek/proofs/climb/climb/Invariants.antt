use Rattle.std.proofs.Common.{◌≡◌, ◌+◌, ◌-◌, length}
use Rattle.skip_spec.specs.Place.{Place}
use Rattle.skip_seek.specs.Climbing.{StandsWithin, AreLastAbove}
use Rattle.skip_seek.specs.Searches.{live_of, bound_at}
use Rattle.skip_seek.proofs.climb.climb.Given as goal

abbrev pub invariant-loop-step : goal.invariant-loop-step
invariant-loop-step g l = record {
  last : (place : Place (live_of l.image.bytes) l.key) → AreLastAbove (30 - l.step) l.before place.front;
  stands : (place : Place (live_of l.image.bytes) l.key) → StandsWithin place.front (30 - l.step) l.at l.steps (l.fn.steps + bound_at place);
  long : length l.before ≡ 31;
}
