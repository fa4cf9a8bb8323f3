use Rattle.std.proofs.Common.{◌≡◌, ℕ, List, length}
use Rattle.skip_spec.specs.Chain.{Entry, pairs}
use Rattle.skip_spec.specs.Change.{last_at}
use Rattle.skip_spec.specs.Opens.{Contents}
use Rattle.skip_lists.specs.Repair.{IsLinked}
use Rattle.skip_lists.specs.Tie.{TiedToBase, LeavesMap}
use Rattle.skip_recover.specs.Places.{RepairsInPlace, WritesNothing}
use Rattle.skip_recover.specs.Walks.{IsUnderWay}
use Rattle.skip_recover.proofs.walk.walk.Given as goal

abbrev pub invariant-loop-count : goal.invariant-loop-count
invariant-loop-count g l =
    let start = g.D.Disk.state l.initial.disk in
    let now = g.D.Disk.state l.disk in
    let old = l.initial.image.bytes in
    record {
      done : (base : List ℕ) (says : Contents) → TiedToBase base says old start → says.header.current_size ≡ l.end
          → (passed : List Entry) × (left : List Entry) × IsUnderWay base says l.image.bytes now l.last passed left l.end
          × (l.at ≡ last_at 64 passed) × (l.count ≡ length passed) × LeavesMap (pairs says.chain) start now;
      still : (base : List ℕ) (says : Contents) → TiedToBase base says old start → says.header.current_size ≡ l.end → IsLinked says old → WritesNothing old l.image.bytes start now;
      place : RepairsInPlace old l.image.bytes start now;
      faults : now.faults ≡ start.faults;
      rest : g.D.Disk.disk_rest l.initial.disk l.disk;
    }
