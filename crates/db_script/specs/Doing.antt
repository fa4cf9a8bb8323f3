-- A line is done over an open database.
use Rattle.std.specs.Prelude.{◌≡◌, ◌⊎◌, ℕ, false, None, Result, OnOk, IfErr}
use Rattle.base_devices.specs.Causes.{FaultHasCause}
use Rattle.base_devices.specs.CrashImages.{Image}
use Rattle.base_devices.specs.Frames.{KeepsCounts}
use Rattle.db_core.specs.Calls.{OnDisk, KeepsInPlace, OpensCommitted}
use Rattle.db_core.specs.Refusals.{IsDiskFault, IsAfterRefusal}
use Rattle.db_core.specs.Sessions.{DbKind, DbState, DbMoment}
use Rattle.db_core.specs.WholeTransactions.{MayEnd}
use Rattle.db_core.specs.declared.fault.DbFault.{DbFault}
use Rattle.db_script.specs.Lines.{Command}
use Rattle.db_script.specs.Replies.{change_of, commits, owed_by, session_after}

-- the image opens to the committed map, or to the one that is committed once the line is done
abbrev pub OpensWith : DbKind → DbState → DbState → Image → Type 0
OpensWith kind s after c = kind.opens c s.committed ⊎ kind.opens c after.committed

-- A line was done, or its change refused: the session is the wanted one, and at each moment a crash leaves the map committed
-- before it or after it, and only the one before where it was refused, but by the disk at its end.
pub record DoesLine {T : Type 0} (kind : DbKind) (word : ℕ) (command : Command) (old new : DbMoment) (result : Result T DbFault) : Type 0 where
  pub ok : OnOk result (owed_by kind old.session (change_of word command) ≡ None)
  pub done : OnOk result (new.session ≡ session_after kind word old.session command)
  pub refused : IfErr result (λ fault. MayEnd (owed_by kind old.session (change_of word command)) fault)
  pub after : IfErr result (λ fault. IsAfterRefusal fault old.session new.session)
  pub disk : OnDisk old.session (OpensWith kind old.session (session_after kind word old.session command)) old.disk new.disk
  pub kept : IfErr result (λ fault. (IsDiskFault fault × (owed_by kind old.session (change_of word command) ≡ None)) ⊎ OnDisk old.session (OpensCommitted kind old.session) old.disk new.disk)
  -- a file that is rewritten whole is begun only where a transaction is committed
  pub idle : kind.works_in_place ≡ false → commits old.session.in_transaction command ≡ false → KeepsCounts old.disk new.disk
  pub unharmed : kind.works_in_place ≡ false → IfErr result (λ fault. IsDiskFault fault ⊎ KeepsCounts old.disk new.disk)
  pub in_place : KeepsInPlace kind old.disk new.disk
  pub cause : FaultHasCause IsDiskFault old.disk.faults new.disk.faults result
