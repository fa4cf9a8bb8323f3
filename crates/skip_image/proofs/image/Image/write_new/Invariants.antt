use Rattle.std.proofs.Common.{◌≡◌, ◌≤◌, ◌-◌, length, take}
use Rattle.base_devices.specs.Frames.{StaysAs}
use Rattle.skip_image.specs.Image.{Adds}
use Rattle.skip_image.proofs.image.Image.write_new.Given as goal

abbrev pub invariant-loop-at : goal.invariant-loop-at
invariant-loop-at g l = record {
  within : l.at ≤ length l.bytes;
  added : Adds (take l.at l.bytes) (g.D.Disk.state l.initial.disk).fresh (g.D.Disk.state l.disk).fresh;
  stays : StaysAs (g.D.Disk.state l.initial.disk) (g.D.Disk.state l.disk);
  faults : (g.D.Disk.state l.disk).faults ≡ (g.D.Disk.state l.initial.disk).faults;
  rest : g.D.Disk.disk_rest l.initial.disk l.disk;
}

abbrev pub decreases-loop-at : goal.decreases-loop-at
decreases-loop-at g l = length l.bytes - l.at
