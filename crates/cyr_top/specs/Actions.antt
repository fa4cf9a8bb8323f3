-- How an action runs over a host.
use Rattle.std.specs.Prelude.{◌≡◌, ◌⊎◌, ℕ, ◌-◌, ◌≤◌, true, List, Some, None, Result, OnOk, length}
use Rattle.base_bytes.specs.Transactions.{after_first}
use Rattle.base_devices.specs.CrashImages.{Image, DiskState, Reads, IsAbsent, WhereRead, LeavesOnly, LeavesSame, IsDurable}
use Rattle.base_devices.specs.Frames.{StaysAs, KeepsFile}
use Rattle.base_devices.specs.HostCalls.{HostState, HostMoment, moment, told_with}
use Rattle.base_notes.specs.declared.action.Action.TheVariants.{Consistent}
use Rattle.base_notes.specs.declared.note.Device.TheVariants.{Host}
use Rattle.base_notes.specs.declared.note.Note.{Note}
use Rattle.base_notes.specs.declared.note.Note.TheVariants.{Usage, Memory}
use Rattle.db_core.specs.Sessions.{DbKind, DbState}
use Rattle.db_core.specs.declared.opening.OpenFault.{OpenFault}
use Rattle.db_tool.specs.Printing.{PrintsSome}
use Rattle.db_tool.specs.Tasks.{KeepsPrefix, KeepsUpTo, words_after}
use Rattle.db_tool.specs.ToolNotes.{IsFault, IsCutOff, Faults}
use Rattle.rand_core.specs.Stream.{Stream}
use Rattle.cyr_top.specs.Asked.{Asked, task_for}
use Rattle.cyr_top.specs.Stated.{StartsFrom, IsUnopened, StatedResult, IsNoteOf}

-- ---- what is left

-- the image could be left at the start, before a transaction is acknowledged
pub record IsBefore (asked : Asked) (d : DiskState) (printed : ℕ) (c : Image) : Type 0 where
  pub left : d.leaves c
  pub none : (s : DbState) → (task_for asked s).acknowledged printed ≡ 0

-- the image opens to the map after a prefix of the task over what the main file reads
pub record KeepsRead (asked : Asked) (d : DiskState) (printed : ℕ) (c : Image) : Type 0 where
  pub main : Image
  pub read : d.reads ≡ Some main
  pub session : DbState
  pub starts : StartsFrom asked main session
  pub keeps : KeepsPrefix asked.kind (task_for asked session) session.committed printed c

-- the image could be left at the start, or is the empty database that was made
abbrev pub IsStart : Asked → DiskState → Image → Type 0
IsStart asked d c = d.leaves c ⊎ ((asked.make ≡ true) × IsAbsent d × (c ≡ Some asked.kind.empty))

-- So many of the task's transactions stand at the end, and at no moment before did more stand.
pub record StandsAt (asked : Asked) (s : DbState) (d e : DiskState) (note : Note) : Type 0 where
  pub count : ℕ
  pub within : count ≤ length (task_for asked s).transactions
  pub whole : (note ≡ Memory → ⊥) → count ≡ length (task_for asked s).transactions
  pub memory : note ≡ Memory → (task_for asked s).may_stand (e.mark - d.mark) count
  pub no_more : LeavesOnly d e (λ c n. IsStart asked d c ⊎ KeepsUpTo asked.kind (task_for asked s) s.committed count c)
  pub end : (c : Image) → e.leaves c → asked.kind.opens c (after_first count s.committed (task_for asked s).transactions)

-- The end of an action that met no fault of a device.
pub data EndsAt (asked : Asked) (d e : DiskState) (note : Note) : Type 0 where
  -- the database was opened, and the task done or cut off
  opened : (s : DbState) → WhereRead d (λ main. StartsFrom asked main s) → StandsAt asked s d e note → EndsAt asked d e note
  -- it does not open, or memory ran out before it was open
  not_opened : (note ≡ Memory) ⊎ ((fault : OpenFault) × WhereRead d (λ main. IsUnopened asked main fault)) → e.mark ≡ d.mark → LeavesOnly d e (λ c n. IsStart asked d c) → EndsAt asked d e note
  -- it was only checked
  checked : asked.action ≡ Consistent → (note ≡ Memory → e.mark ≡ d.mark) → LeavesOnly d e (λ c n. IsStart asked d c) → EndsAt asked d e note

-- ---- an action over a host

-- note and output are the stated ones
pub record IsStatedBy (asked : Asked) (main : Image) (old new : HostMoment) (note : Note) : Type 0 where
  pub output : List ℕ
  pub result : StatedResult asked main note output
  pub told : new.streams.told ≡ told_with old.streams.told output

-- An action ran over a host, and ended with a note.
pub record DoesAction (asked : Asked) (old new : HostMoment) (note : Note) : Type 0 where
  -- at each moment the image could be left at the start, or opens to the map after a prefix of the transactions that holds each acknowledged one
  pub each : LeavesOnly old.disk new.disk (λ c n. (old.disk.mark ≤ n) × (n ≤ new.disk.mark)
      × (IsBefore asked old.disk (n - old.disk.mark) c ⊎ KeepsRead asked old.disk (n - old.disk.mark) c))
  pub later : old.disk.mark ≤ new.disk.mark
  -- unless it was cut off, note and output are the stated ones, and a prefix of the stated output was printed at any end
  pub stated : WhereRead old.disk (λ main. IsCutOff note ⊎ IsStatedBy asked main old new note)
  pub prints : WhereRead old.disk (λ main. (wanted : Note) (output : List ℕ) → StatedResult asked main wanted output → PrintsSome output old new)
  pub warned : new.streams.warned ≡ old.streams.warned
  -- what is left at the end
  pub ends : (IsFault note → ⊥) → EndsAt asked old.disk new.disk note
  -- a file that does not open stays, and so does one that needs no repair where nothing is to be changed; a check does not even sync it
  pub unopened : (IsFault note → ⊥) → WhereRead old.disk (λ main. (fault : OpenFault) → IsUnopened asked main fault → KeepsFile old.disk new.disk)
  pub kept : WhereRead old.disk (λ main. (asked.make ≡ true → main ≡ None → ⊥) → ((bytes : List ℕ) → main ≡ Some bytes → asked.kind.is_settled bytes)
      → ((s : DbState) → StartsFrom asked main s → (task_for asked s).only_prints ≡ true) → KeepsFile old.disk new.disk)
  pub checked : asked.action ≡ Consistent → (bytes : List ℕ) → Reads old.disk bytes → (new.disk.reads ≡ old.disk.reads) × LeavesSame old.disk new.disk
  -- over a file that is there a database in place publishes nothing
  pub in_place : asked.kind.works_in_place ≡ true → (bytes : List ℕ) → Reads old.disk bytes → new.disk.publishes ≡ old.disk.publishes
  -- a file that is to be made is absent only before a byte was printed, and at the end only where the run was cut off
  pub absent : asked.make ≡ true → IsAbsent old.disk → LeavesOnly old.disk new.disk (λ c n. c ≡ None → n ≡ old.disk.mark)
  pub made : asked.make ≡ true → IsAbsent old.disk → IsCutOff note ⊎ (new.disk.leaves None → ⊥)
  -- the host failed exactly where the note says so
  pub faults : Faults Host note old.disk.faults new.disk.faults
  pub built : IsNoteOf asked.action note
  pub no_usage : note ≡ Usage → ⊥

-- the end of a run, but for what standard error got
abbrev pub but_warned : DiskState → HostState → HostState → HostMoment
but_warned disk old new = moment disk (record new { warned = old.warned })

-- The random words that were drawn: none where the file does not open, and else those of the task, or fewer where it was cut off.
pub record DrawsFor (asked : Asked) (d : DiskState) (old new : Stream) (note : Note) : Type 0 where
  pub count : ℕ
  pub drawn : new ≡ words_after count old
  pub opened : WhereRead d (λ main. (s : DbState) → StartsFrom asked main s → (count ≤ (task_for asked s).words) × (IsCutOff note ⊎ (count ≡ (task_for asked s).words)))
  pub unopened : WhereRead d (λ main. (fault : OpenFault) → IsUnopened asked main fault → count ≡ 0)

-- An absent main file was made, and one that was there stays as it is.
pub record IsMade {T E : Type 0} (kind : DbKind) (d e : DiskState) (result : Result T E) : Type 0 where
  pub there : (bytes : List ℕ) → Reads d bytes → StaysAs d e × (e.fresh ≡ d.fresh)
  pub empty : OnOk result (IsAbsent d → Reads e kind.empty × IsDurable e)
  pub each : LeavesOnly d e (λ c n. (n ≡ d.mark) × (d.leaves c ⊎ (IsAbsent d × (c ≡ Some kind.empty))))
  pub mark : e.mark ≡ d.mark
