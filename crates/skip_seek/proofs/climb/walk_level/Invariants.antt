use Rattle.std.proofs.Common.{◌+◌, ℕ, length}
use Rattle.skip_spec.specs.Place.{Place}
use Rattle.skip_spec.specs.Records.{key_in}
use Rattle.skip_seek.specs.Climbing.{Standing, StandsWithin, comes_before, tally}
use Rattle.skip_seek.specs.Searches.{live_of}
use Rattle.skip_seek.proofs.climb.walk_level.Given as goal

abbrev pub invariant-hops : goal.invariant-hops
invariant-hops g l = record {
  walked : (place : Place (live_of l.image.bytes) l.key) (due : ℕ) → Standing place.front l.level l.fn.from due → StandsWithin place.front l.level l.at l.steps (l.fn.steps + due);
}

abbrev pub decreases-hops : goal.decreases-hops
decreases-hops g l = tally (λ v. comes_before (key_in l.image.bytes l.at) (key_in l.image.bytes v)) (length l.image.bytes)
