use Rattle.std.proofs.Common.{Ok, take}
use Rattle.flat_db.specs.FlatText.{canonical_text}
use Rattle.flat_db.specs.Entries.{pairs_of}
use Rattle.base_devices.specs.declared.disk.Failed.{Failed}
use Rattle.flat_db.specs.Writing.{Gathers}
use Rattle.flat_db.proofs.Adding.{Adds}
use Rattle.flat_db.proofs.writing.write_pairs.Given as goal

abbrev pub invariant-loop-entry : goal.invariant-loop-entry
invariant-loop-entry g l = record {
  adds : Adds (g.D.Disk.state l.initial.disk) (g.D.Disk.state l.disk) l.initial.piece l.piece (canonical_text (pairs_of l.bytes (take l.entry-index l.entries)));
  gathers : Gathers {T = Unit {0}} {E = Failed} (canonical_text (pairs_of l.bytes (take l.entry-index l.entries))) (l.initial.disk, l.initial.piece) (l.disk, l.piece) (Ok tt);
  rest : g.D.Disk.disk_rest l.initial.disk l.disk;
}
