use Rattle.std.proofs.Common.{◌≡◌, ◌≤◌, ◌<◌, ◌+◌, ℕ, List}
use Rattle.std.specs.Prelude.{slice_index}
use Rattle.skip_form.specs.Fields.{pointer_in}
use Rattle.skip_spec.specs.Chain.{pairs}
use Rattle.skip_spec.specs.Opens.{Contents}
use Rattle.skip_lists.specs.Tie.{TiedToBase, LeavesMap}
use Rattle.skip_recover.specs.Heads.{HaveSlots, LeadsLast}
use Rattle.skip_recover.specs.Places.{RepairsInPlace, WritesNothing}
use Rattle.skip_recover.proofs.links.link_levels.Given as goal

abbrev pub invariant-loop-level : goal.invariant-loop-level
invariant-loop-level g l =
    let start = g.D.Disk.state l.initial.disk in
    let now = g.D.Disk.state l.disk in
    let old = l.initial.image.bytes in
    record {
      done : (base : List ℕ) (says : Contents) → TiedToBase base says old start → HaveSlots base says l.last l.height
          → TiedToBase base says l.image.bytes now × LeadsLast base says old l.image.bytes l.last l.level l.to × LeavesMap (pairs says.chain) start now;
      still : ((i : ℕ) → 1 ≤ i → i < l.height → pointer_in old (slice_index l.last i) (i + 1) ≡ l.to) → WritesNothing old l.image.bytes start now;
      place : RepairsInPlace old l.image.bytes start now;
      faults : now.faults ≡ start.faults;
      rest : g.D.Disk.disk_rest l.initial.disk l.disk;
    }
