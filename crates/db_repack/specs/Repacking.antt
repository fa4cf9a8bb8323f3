-- What rewriting the file of a database afresh answers, writes and leaves.
use Rattle.std.specs.Prelude.{◌≡◌, ℕ, false, List, Option, Some, None, Result, OnOk, IfErr, length}
use Rattle.std.specs.Option.{option_or}
use Rattle.base_devices.specs.Causes.{FaultHasCause}
use Rattle.base_devices.specs.CrashImages.{DiskState, Reads}
use Rattle.base_devices.specs.Frames.{Replaces}
use Rattle.db_core.specs.Calls.{OnDisk, OpensCommitted}
use Rattle.db_core.specs.Refusals.{IsAfterRefusal, IsDiskFault, broken_refusal, size_refusal}
use Rattle.db_core.specs.Sessions.{DbKind, DbMoment, DbState, at_rest}
use Rattle.db_core.specs.declared.fault.DbFault.{DbFault}
use Rattle.db_core.specs.declared.fault.DbFault.TheVariants.{NoMemory, DiskFault}

-- a kind of database, and which file may take the place of an old one
pub record RepackKind : Type 1 where
  pub kind : DbKind
  pub repacked : List ℕ → List ℕ → Type 0

abbrev pub repacking_by : DbKind → (List ℕ → List ℕ → Type 0) → RepackKind
repacking_by kind repacked = record { kind = kind; repacked = repacked }

-- ---- what is refused

-- a broken session, and a new file of so many bytes that is over the limit
abbrev pub repack_refusal : DbKind → DbState → ℕ → Option DbFault
repack_refusal kind s size = option_or (broken_refusal s) (size_refusal kind size)

-- Memory may run out before the size is known, and the disk is called where nothing is refused.
abbrev pub MayRefuse : DbKind → DbState → ℕ → DbFault → Type 0
MayRefuse kind s size NoMemory = s.is_broken ≡ false
MayRefuse kind s size DiskFault = repack_refusal kind s size ≡ None
MayRefuse kind s size fault = repack_refusal kind s size ≡ Some fault

-- ---- what is done

-- what the disk reads may be replaced by this file
abbrev pub MayTakePlace : RepackKind → List ℕ → DiskState → Type 0
MayTakePlace repack made disk = (file : List ℕ) → Reads disk file → repack.repacked file made

abbrev pub IsRepacked : RepackKind → List ℕ → DbMoment → Type 0
IsRepacked repack made old = MayTakePlace repack made old.disk

-- a file that may take the place of what the disk reads now could do so before
abbrev pub KeepsRepacked : RepackKind → DiskState → DiskState → Type 0
KeepsRepacked repack old new = (made : List ℕ) → MayTakePlace repack made new → MayTakePlace repack made old

-- one file alone may take the place of another
abbrev pub RepacksOnce : RepackKind → Type 0
RepacksOnce repack = (file a b : List ℕ) → repack.repacked file a → repack.repacked file b → a ≡ b

-- The new file takes the place of the main file, and the session goes on over it; or nothing does, for a reason.
pub record Repacks {T : Type 0} (repack : RepackKind) (made : List ℕ) (old new : DbMoment) (result : Result T DbFault) : Type 0 where
  -- the file
  pub repacked : old.session.is_broken ≡ false → IsRepacked repack made old
  pub replaces : Replaces made old.disk new.disk result
  -- at each moment the mark stands, and each image left opens to the committed map
  pub any_moment : OnDisk old.session (OpensCommitted repack.kind old.session) old.disk new.disk
  -- the answer
  pub allowed : OnOk result (repack_refusal repack.kind old.session (length made) ≡ None)
  pub refused : IfErr result (λ fault. MayRefuse repack.kind old.session (length made) fault)
  pub cause : FaultHasCause IsDiskFault old.disk.faults new.disk.faults result
  -- the session: the same map at rest, with the load of the new file
  pub rests : OnOk result (new.session ≡ at_rest old.session.committed (repack.kind.load_of made))
  pub after : IfErr result (λ fault. IsAfterRefusal fault old.session new.session)
