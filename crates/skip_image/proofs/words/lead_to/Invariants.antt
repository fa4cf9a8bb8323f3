use Rattle.std.proofs.Common.{◌≡◌, ◌≤◌, ◌-◌, List}
use Rattle.skip_spec.specs.Chain.{Entry}
use Rattle.skip_spec.specs.FirstFlaw as first_flaw
use Rattle.skip_image.specs.Verifying.{AreLatest}
use Rattle.skip_image.proofs.words.lead_to.Given as goal

abbrev pub invariant-loop-level : goal.invariant-loop-level
invariant-loop-level l = record {
  below : l.level ≤ 30;
  same : (passed : List Entry) → AreLatest l.last passed
      → first_flaw.lead_to l.file passed l.to l.level ≡ first_flaw.lead_to l.file passed l.to (l.height - 1);
}

abbrev pub decreases-loop-level : goal.decreases-loop-level
decreases-loop-level l = l.level
