use Rattle.std.proofs.Common.{◌≡◌, ◌≤◌, ◌-◌, ℕ, List, Some, length, take}
use Rattle.base_devices.specs.Frames.{StaysAs}
use Rattle.base_devices.proofs.reading.fill.Given as goal

abbrev pub invariant-loop-at : goal.invariant-loop-at
invariant-loop-at g l = record {
  stays : StaysAs (g.D.Disk.state l.initial.disk) (g.D.Disk.state l.disk);
  fresh : (g.D.Disk.state l.disk).fresh ≡ (g.D.Disk.state l.initial.disk).fresh;
  faults : (g.D.Disk.state l.disk).faults ≡ (g.D.Disk.state l.initial.disk).faults;
  in_range : l.at ≤ length l.into;
  read : (b : List ℕ) → (g.D.Disk.state l.disk).reads ≡ Some (Some b) → take l.at l.into ≡ take l.at b;
  rest : g.D.Disk.disk_rest l.initial.disk l.disk;
}

abbrev pub decreases-loop-at : goal.decreases-loop-at
decreases-loop-at g l = length l.initial.into - l.at
