-- A transaction as a whole: all its changes, or none.
use Rattle.std.specs.Prelude.{◌≡◌, ◌⊎◌, ℕ, ◌≤◌, true, false, List, Option, Some, None, Result, OnOk, IfErr}
use Rattle.std.specs.Option.{option_or}
use Rattle.base_bytes.specs.Transactions.{after_transaction}
use Rattle.base_bytes.specs.declared.change.Change.{Change}
use Rattle.base_devices.specs.Causes.{Rose, FaultHasCause}
use Rattle.base_devices.specs.CrashImages.{Image}
use Rattle.db_core.specs.Sessions.{DbKind, DbState, DbMoment, begun, changes_after, committed, aborted}
use Rattle.db_core.specs.Refusals.{IsDiskFault, IsAfterRefusal, broken_refusal, changes_refusal}
use Rattle.db_core.specs.Calls.{OnDisk, KeepsInPlace, OpensCommitted}
use Rattle.db_core.specs.declared.fault.DbFault.{DbFault}
use Rattle.db_core.specs.declared.fault.DbFault.TheVariants.{NoMemory, DiskFault}

-- in a transaction over the same committed map
pub record InTransaction (old new : DbState) : Type 0 where
  pub base : aborted new ≡ aborted old
  pub stands : new.in_transaction ≡ true

-- A whole transaction answers as the change that is refused, but giving it up may meet the disk's fault.
abbrev pub MayEnd : Option DbFault → DbFault → Type 0
MayEnd owed NoMemory = Unit {0}
MayEnd owed DiskFault = Unit {0}
MayEnd owed fault = owed ≡ Some fault

-- after a refusal within a list of changes: the session is broken by the disk's fault, or still in the transaction
abbrev pub IsAfterSomeChanges : DbFault → DbState → DbState → Type 0
IsAfterSomeChanges fault old new =
    (IsDiskFault fault × (new.is_broken ≡ true) × (new.in_transaction ≡ false)) ⊎ ((IsDiskFault fault → ⊥) × InTransaction old new)

-- What a list of changes in a transaction does. After a refusal some of them are made.
pub record MakesSome {T : Type 0} (kind : DbKind) (changes : List Change) (old new : DbMoment) (result : Result T DbFault) : Type 0 where
  pub ok : OnOk result (changes_refusal kind old.session changes ≡ None)
  pub done : OnOk result (new.session ≡ changes_after kind old.session changes)
  pub made : OnOk result (InTransaction old.session new.session)
  pub refused : IfErr result (λ fault. MayEnd (changes_refusal kind old.session changes) fault)
  pub after : IfErr result (λ fault. IsAfterSomeChanges fault old.session new.session)
  pub disk : OnDisk old.session (OpensCommitted kind old.session) old.disk new.disk
  pub in_place : KeepsInPlace kind old.disk new.disk
  pub cause : FaultHasCause IsDiskFault old.disk.faults new.disk.faults result

-- ---- a transaction as a whole

abbrev pub run_refusal : DbKind → DbState → List Change → Option DbFault
run_refusal kind s changes = option_or (broken_refusal s) (changes_refusal kind (begun s) changes)

abbrev pub run_after : DbKind → DbState → List Change → DbState
run_after kind s changes = committed kind (changes_after kind (begun s) changes)

-- the image opens to the map before the transaction, or to the one after all of it
abbrev pub OpensWhole : DbKind → List Change → DbState → Image → Type 0
OpensWhole kind changes s c = kind.opens c s.committed ⊎ kind.opens c (after_transaction s.seen changes)

-- What a whole transaction does. After a refusal the session is as before, or broken by the disk's fault.
pub record MakesWhole {T : Type 0} (kind : DbKind) (changes : List Change) (old new : DbMoment) (result : Result T DbFault) : Type 0 where
  pub ok : OnOk result (run_refusal kind old.session changes ≡ None)
  pub done : OnOk result (new.session ≡ run_after kind old.session changes)
  pub refused : IfErr result (λ fault. MayEnd (run_refusal kind old.session changes) fault)
  pub after : IfErr result (λ fault. IsAfterRefusal fault old.session new.session)
  -- at each moment all of it or nothing; and nothing where it was refused, but by the disk at its end
  pub disk : OnDisk old.session (OpensWhole kind changes old.session) old.disk new.disk
  pub given_up : IfErr result (λ fault. (IsDiskFault fault × (run_refusal kind old.session changes ≡ None))
      ⊎ OnDisk old.session (OpensCommitted kind old.session) old.disk new.disk)
  pub in_place : KeepsInPlace kind old.disk new.disk
  pub cause : FaultHasCause IsDiskFault old.disk.faults new.disk.faults result

-- what becomes of a session that goes back to its committed map after a refusal
pub record GivesUp (kind : DbKind) (fault answer : DbFault) (old new : DbMoment) : Type 0 where
  pub broken : old.session.is_broken ≡ true → (answer ≡ fault) × (new.session ≡ old.session) × (new.disk.faults ≡ old.disk.faults)
  pub back : old.session.is_broken ≡ false
      → ((answer ≡ fault) × (new.session ≡ aborted old.session) × (new.disk.faults ≡ old.disk.faults))
      ⊎ ((answer ≡ DiskFault) × Rose old.disk.faults new.disk.faults × (new.session.is_broken ≡ true) × (new.session.in_transaction ≡ false))
  pub disk : OnDisk old.session (OpensCommitted kind old.session) old.disk new.disk
  pub in_place : KeepsInPlace kind old.disk new.disk
  pub later : old.disk.faults ≤ new.disk.faults
