-- A task is done over an open database.
use Rattle.std.specs.Prelude.{◌≡◌, ◌⊎◌, ◌≤◌, ◌-◌, ℕ, false, true, List, [], ◌∷◌, Result, Ok, Err, IfErr, length}
use Rattle.base_bytes.specs.Transactions.{after_first}
use Rattle.base_bytes.specs.declared.change.Change.{Change}
use Rattle.base_devices.specs.CrashImages.{DiskState, LeavesOnly}
use Rattle.base_devices.specs.Frames.{OnlyPrints, KeepsCounts}
use Rattle.base_devices.specs.HostCalls.{HostState, HostMoment, moment, told_with}
use Rattle.base_notes.specs.declared.note.Device.{Device}
use Rattle.base_notes.specs.declared.note.Device.TheVariants.{Host}
use Rattle.base_notes.specs.declared.note.Note.{Note}
use Rattle.base_notes.specs.declared.note.Note.TheVariants.{Done, DeviceFault, Memory}
use Rattle.db_core.specs.Calls.{KeepsInPlace}
use Rattle.db_core.specs.Refusals.{IsDiskFault}
use Rattle.db_core.specs.Sessions.{DbKind, DbState, over, at_rest}
use Rattle.db_core.specs.WholeTransactions.{MakesWhole}
use Rattle.db_core.specs.declared.fault.DbFault.{DbFault}
use Rattle.db_tool.specs.Printing.{PrintsSome, Printed}
use Rattle.db_tool.specs.Tasks.{Task, KeepsPrefix, KeepsUpTo, words_after}
use Rattle.db_tool.specs.ToolNotes.{IsFault, IsCutOff, Faults, change_note}
use Rattle.rand_core.specs.Stream.{Stream}

-- a host with an open database at one moment
pub record ToolMoment : Type 1 where
  pub session : DbState
  pub host : HostMoment

abbrev pub during : DiskState → HostState → DbState → ToolMoment
during disk streams session = record { session = session; host = moment disk streams }

-- the stated end was reached
pub record IsStated (task : Task) (old new : ToolMoment) (note : Note) : Type 0 where
  pub ends : note ≡ task.note
  pub told : new.host.streams.told ≡ told_with old.host.streams.told task.output
  pub session : new.session ≡ task.end

-- So many of the task's transactions stand at an end.
pub record StandsAfter (kind : DbKind) (task : Task) (old new : ToolMoment) (note : Note) : Type 0 where
  pub count : ℕ
  pub within : count ≤ length task.transactions
  pub rests : new.session ≡ at_rest (after_first count old.session.committed task.transactions) new.session.load
  -- all of them, unless memory ran out
  pub whole : (note ≡ Memory → ⊥) → count ≡ length task.transactions
  pub memory : note ≡ Memory → task.may_stand (new.host.disk.mark - old.host.disk.mark) count
  -- and at no moment before did more stand
  pub no_more : LeavesOnly old.host.disk new.host.disk (λ c n. KeepsUpTo kind task old.session.committed count c)
  -- where none does, the session is as it was, and a file that would be rewritten whole was not begun
  pub same : count ≡ 0 → new.session ≡ old.session
  pub idle : count ≡ 0 → kind.works_in_place ≡ false → KeepsCounts old.host.disk new.host.disk

-- A task was done over a session at rest, or was cut off.
pub record DoesTask (kind : DbKind) (task : Task) (old new : ToolMoment) (note : Note) : Type 0 where
  -- at each moment the image opens to the map after a prefix of its transactions that holds each acknowledged one
  pub each : LeavesOnly old.host.disk new.host.disk
      (λ c n. (old.host.disk.mark ≤ n) × (n ≤ new.host.disk.mark) × KeepsPrefix kind task old.session.committed (n - old.host.disk.mark) c)
  -- at its end note, output and session are the stated ones, and at any end a prefix of the output was printed
  pub stated : IsCutOff note ⊎ IsStated task old new note
  pub prints : PrintsSome task.output old.host new.host
  pub stands : (IsFault note → ⊥) → StandsAfter kind task old new note
  -- what it does not do
  pub only_prints : task.only_prints ≡ true → OnlyPrints old.host.disk new.host.disk × (new.session ≡ old.session)
  pub in_place : KeepsInPlace kind old.host.disk new.host.disk
  -- the host failed exactly where the note says so, and there is no other device
  pub faults : Faults Host note old.host.disk.faults new.host.disk.faults
  pub device : (device : Device) → note ≡ DeviceFault device → device ≡ Host

-- the random words that were drawn: those of the task, and no more where it was cut off
pub record DrawsWords (task : Task) (old new : Stream) (note : Note) : Type 0 where
  pub count : ℕ
  pub drawn : new ≡ words_after count old
  pub within : count ≤ task.words
  pub whole : IsCutOff note ⊎ (count ≡ task.words)

-- ---- parts of a task

-- A map was looked at: all of this output was printed, with this note; in place of it comes a fault of the host, or
-- want of memory before anything was printed.
pub record Looks (wanted : Note) (output : List ℕ) (old new : HostMoment) (note : Note) : Type 0 where
  pub stated : IsCutOff note ⊎ ((note ≡ wanted) × Printed output old new)
  pub prints : PrintsSome output old new
  pub silent : note ≡ Memory → Printed [] old new × (new.disk.mark ≡ old.disk.mark)
  pub disk : OnlyPrints old.disk new.disk
  pub faults : Faults Host note old.disk.faults new.disk.faults
  pub device : (device : Device) → note ≡ DeviceFault device → device ≡ Host

-- the note of a transaction
abbrev pub note_of_whole : {T : Type 0} → Result T DbFault → Note
note_of_whole (Ok _) = Done
note_of_whole (Err fault) = change_note Host fault

-- One transaction of one change was made or refused, and the note says which.
pub record ChangesOnce (kind : DbKind) (change : Change) (old new : ToolMoment) (note : Note) : Type 0 where
  pub result : Result (Unit {0}) DbFault
  pub whole : MakesWhole kind (change ∷ []) (over old.host.disk old.session) (over new.host.disk new.session) result
  pub idle : kind.works_in_place ≡ false → IfErr result (λ fault. IsDiskFault fault ⊎ KeepsCounts old.host.disk new.host.disk)
  pub says : note ≡ note_of_whole result
  pub streams : new.host.streams ≡ old.host.streams
