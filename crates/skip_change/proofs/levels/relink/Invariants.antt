use Rattle.std.proofs.Common.{◌≡◌, ◌+◌, ◌-◌, ◌*◌, ◌≤◌, ℕ, List, length}
use Rattle.std.specs.Prelude.{slice_index}
use Rattle.base_devices.specs.CrashImages.{Shows}
use Rattle.skip_spec.specs.Chain.{pairs}
use Rattle.skip_spec.specs.Opens.{Contents}
use Rattle.skip_lists.specs.Tie.{AreKnown, LeavesMap, StaysUpTo}
use Rattle.skip_image.specs.HeadWrites.{ReadsButHead, IsAhead}
use Rattle.skip_change.specs.Changing.{Swap, listed_by, IsBegun, IsRelinked}
use Rattle.skip_change.proofs.levels.relink.Given as goal

abbrev pub invariant-loop-level : goal.invariant-loop-level
invariant-loop-level g l = record {
  relinked : (s : Swap) → IsBegun l.initial.image.bytes l.before l.leads l.height s → IsRelinked l.initial.image.bytes l.image.bytes l.level s;
  tied : (base : List ℕ) (says : Contents) (s : Swap) → IsAhead base says l.initial.image.bytes (slice_index l.before 0) (g.D.Disk.state l.initial.disk) → AreKnown says (listed_by s) → IsBegun l.initial.image.bytes l.before l.leads l.height s
      → IsAhead base says l.image.bytes (slice_index l.before (l.level - 1)) (g.D.Disk.state l.disk) × LeavesMap (pairs says.chain) (g.D.Disk.state l.initial.disk) (g.D.Disk.state l.disk);
  long_left : (most : ℕ) → length l.initial.image.bytes ≤ most → StaysUpTo most (g.D.Disk.state l.initial.disk) (g.D.Disk.state l.disk);
  reads : Shows (g.D.Disk.state l.disk) → ReadsButHead (g.D.Disk.state l.disk) l.image.bytes (slice_index l.before (l.level - 1));
  long : length l.image.bytes ≡ length l.initial.image.bytes;
  spare : l.initial.image.spare ≤ l.image.spare;
  written : (g.D.Disk.state l.disk).written + 272 ≤ (g.D.Disk.state l.initial.disk).written + 272 * l.level;
  publishes : (g.D.Disk.state l.disk).publishes ≡ (g.D.Disk.state l.initial.disk).publishes;
  mark : (g.D.Disk.state l.disk).mark ≡ (g.D.Disk.state l.initial.disk).mark;
  faults : (g.D.Disk.state l.disk).faults ≡ (g.D.Disk.state l.initial.disk).faults;
  rest : g.D.Disk.disk_rest l.initial.disk l.disk;
}
