-- What each call of a session does: its answer, the session after it, and what a crash may leave of its disk.
use Rattle.std.specs.Prelude.{◌≡◌, ◌⊎◌, ℕ, true, false, List, [], ◌∷◌, Option, None, Some, Result, OnOk, IfErr}
use Rattle.base_bytes.specs.OrderedMap.{Map}
use Rattle.base_bytes.specs.declared.change.Change.{Change}
use Rattle.base_devices.specs.Causes.{FaultHasCause}
use Rattle.base_devices.specs.CrashImages.{Image, DiskState, LeavesOnly}
use Rattle.db_core.specs.Sessions.{DbKind, DbState, DbMoment, change_after, committed, aborted}
use Rattle.db_core.specs.Refusals.{Answers, IsDiskFault, broken_refusal, change_refusal}
use Rattle.db_core.specs.declared.fault.DbFault.{DbFault}
use Rattle.db_core.specs.declared.walk.Step.{Step}

-- What a call does to the disk of a session that is not broken: the mark stands, and each image left has Q.
pub record OnDisk (was : DbState) (Q : Image → Type 0) (old new : DiskState) : Type 0 where
  pub each : was.is_broken ≡ false → LeavesOnly old new (λ c n. (n ≡ old.mark) × Q c)
  pub mark : new.mark ≡ old.mark

-- a call that works in place publishes nothing
abbrev pub KeepsInPlace : DbKind → DiskState → DiskState → Type 0
KeepsInPlace kind old new = kind.works_in_place ≡ true → new.publishes ≡ old.publishes

-- A call over a disk: it answers what is owed, the session becomes the wanted one, and each image left has Q.
pub record MakesCall {T : Type 0} (kind : DbKind) (owed : Option DbFault) (wanted : DbState) (Q : Image → Type 0) (old new : DbMoment) (result : Result T DbFault) : Type 0 where
  pub answer : Answers owed old.session new.session wanted result
  pub disk : OnDisk old.session Q old.disk new.disk
  pub in_place : KeepsInPlace kind old.disk new.disk
  pub cause : FaultHasCause IsDiskFault old.disk.faults new.disk.faults result

-- the image opens to the committed map, or to that or the map seen
abbrev pub OpensCommitted : DbKind → DbState → Image → Type 0
OpensCommitted kind s c = kind.opens c s.committed

abbrev pub OpensEither : DbKind → DbState → Image → Type 0
OpensEither kind s c = kind.opens c s.committed ⊎ kind.opens c s.seen

-- `store` and `delete`: one change of the map seen, and a crash leaves the committed map
abbrev pub MakesChange : {T : Type 0} → DbKind → Change → DbMoment → DbMoment → Result T DbFault → Type 0
MakesChange kind change old new result =
    MakesCall kind (change_refusal kind old.session change) (change_after kind old.session change) (OpensCommitted kind old.session) old new result

-- `commit`: a crash within leaves the committed map or the map seen
abbrev pub Commits : {T : Type 0} → DbKind → DbMoment → DbMoment → Result T DbFault → Type 0
Commits kind old new result =
    MakesCall kind (broken_refusal old.session) (committed kind old.session) (OpensEither kind old.session) old new result

-- `abort`: back to the committed map, and a crash leaves no other
abbrev pub Aborts : {T : Type 0} → DbKind → DbMoment → DbMoment → Result T DbFault → Type 0
Aborts kind old new result =
    MakesCall kind (broken_refusal old.session) (aborted old.session) (OpensCommitted kind old.session) old new result

-- ---- walks

-- Of the pairs that were left at a place the first one is handed out, with the place of the others; or none was left.
abbrev pub StepsOver : (ℕ → Map → Type 0) → Map → Option Step → Type 0
StepsOver walks left None = left ≡ []
StepsOver walks left (Some step) = (rest : Map) × (left ≡ (step.pair.key.now, step.pair.value.now) ∷ rest) × walks step.next.place rest
