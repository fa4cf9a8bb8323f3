use Rattle.std.proofs.Common.{◌≤◌, ◌-◌, length}
use Rattle.flat_db.specs.Entries.{part_of}
use Rattle.flat_db.specs.Plain.{IsPlain}
use Rattle.flat_db.proofs.ShowingLemmas.{Said}
use Rattle.flat_db.proofs.showing.is_bare.Given as goal

abbrev pub invariant-loop-at : goal.invariant-loop-at
invariant-loop-at l = record {
  within : l.at ≤ length l.text;
  known : l.known ≤ length l.text;
  plain : IsPlain l.text l.at l.known;
  said : Said l.text l.at (part_of l.text l.last);
}

abbrev pub decreases-loop-at : goal.decreases-loop-at
decreases-loop-at l = length l.text - l.at
