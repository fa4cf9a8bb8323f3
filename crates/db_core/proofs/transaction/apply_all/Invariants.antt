use Rattle.std.proofs.Common.{◌≡◌, false, drop}
use Rattle.db_core.specs.Calls.{OnDisk, KeepsInPlace, OpensCommitted}
use Rattle.db_core.specs.Refusals.{changes_refusal}
use Rattle.db_core.specs.Sessions.{changes_after}
use Rattle.db_core.specs.WholeTransactions.{InTransaction}
use Rattle.db_core.proofs.transaction.apply_all.Given as goal

abbrev pub invariant-loop-change : goal.invariant-loop-change
invariant-loop-change g l =
    let kind = g.B.Db.kind in
    let start = g.B.Db.state l.initial.db in
    let now = g.B.Db.state l.db in
    record {
      sound : now.is_broken ≡ false;
      over : InTransaction start now;
      after : changes_after kind start l.changes ≡ changes_after kind now (drop l.change-index l.changes);
      refusal : changes_refusal kind start l.changes ≡ changes_refusal kind now (drop l.change-index l.changes);
      tied : g.B.Db.tie l.db l.disk;
      disk : OnDisk start (OpensCommitted kind start) (g.D.Disk.state l.initial.disk) (g.D.Disk.state l.disk);
      in_place : KeepsInPlace kind (g.D.Disk.state l.initial.disk) (g.D.Disk.state l.disk);
      idle : kind.works_in_place ≡ false → l.disk ≡ l.initial.disk;
      faults : (g.D.Disk.state l.disk).faults ≡ (g.D.Disk.state l.initial.disk).faults;
      rest : g.D.Disk.disk_rest l.initial.disk l.disk;
    }
