use Rattle.std.proofs.Common.{◌≤◌, ◌-◌, Ok, length, take}
use Rattle.base_bytes.specs.Escapes.{escaped}
use Rattle.base_devices.specs.declared.disk.Failed.{Failed}
use Rattle.flat_db.specs.Writing.{Gathers}
use Rattle.flat_db.proofs.Adding.{Adds}
use Rattle.flat_db.proofs.writing.write_field.Given as goal

abbrev pub invariant-loop-at : goal.invariant-loop-at
invariant-loop-at g l = record {
  within : l.at ≤ length l.field;
  adds : Adds (g.D.Disk.state l.initial.disk) (g.D.Disk.state l.disk) l.initial.piece l.piece (escaped (take l.at l.field));
  gathers : Gathers {T = Unit {0}} {E = Failed} (escaped (take l.at l.field)) (l.initial.disk, l.initial.piece) (l.disk, l.piece) (Ok tt);
  rest : g.D.Disk.disk_rest l.initial.disk l.disk;
}

abbrev pub decreases-loop-at : goal.decreases-loop-at
decreases-loop-at g l = length l.field - l.at
