-- A rebuild of a folder's index as a run does it: what the words ask for, its stated note and output, and what is left.
use Rattle.std.specs.Prelude.{◌≡◌, ◌⊎◌, ℕ, true, false, List, [], Some}
use Rattle.base_devices.specs.CrashImages.{DiskState, IsDurable}
use Rattle.base_devices.specs.Frames.{KeepsFile, LeavesBetween}
use Rattle.base_devices.specs.HostCalls.{HostMoment, told_with}
use Rattle.base_devices.specs.SpoolCalls.{SpoolState}
use Rattle.base_notes.specs.declared.action.Options.{Options}
use Rattle.base_notes.specs.declared.note.Device.TheVariants.{Host, Spool}
use Rattle.base_notes.specs.declared.note.LimitName.TheVariants.{File, Files, Modseq}
use Rattle.base_notes.specs.declared.note.Note.{Note}
use Rattle.base_notes.specs.declared.note.Note.TheVariants.{Done, Limit, DeviceFault, Memory}
use Rattle.db_tool.specs.ToolNotes.{Faults, IsCutOff}
use Rattle.mail_rebuild.specs.Rebuilds.{IsReport, LimitIsPassed, MayBeNew, NoLimitIsPassed, PrintsSome, Rebuilds, Task, WhereShown}
use Rattle.mail_rebuild.specs.declared.fault.RebuildFault.{RebuildFault}
use Rattle.mail_rebuild.specs.declared.fault.RebuildFault.TheVariants.{DiskFault, ModseqFull, NoMemory, SpoolFault, TooBig, TooMany, WriteFault}
use Rattle.mail_rebuild.specs.declared.report.Tally.{Tally}
use Rattle.tool_words.specs.declared.jobs.Job.{Job}
use Rattle.tool_words.specs.declared.jobs.Job.TheVariants.{Reconstruct}
use Rattle.cyr_top.specs.Asked.{built_job_of}

-- ---- what is asked for

-- P holds of the options of a job that rebuilds the index of one folder
abbrev pub OnFolder : (Options → Type 0) → Job → Type 0
OnFolder P (Reconstruct options folder) = P options
OnFolder P job = Unit {0}

-- P holds of the options with which the words ask for a rebuild
abbrev pub WhereRebuilding : List (List ℕ) → (Options → Type 0) → Type 0
WhereRebuilding words P = (job : Job) → built_job_of words ≡ Some job → OnFolder P job

-- a folder, the time in seconds since 1970, and options
pub record AskedRebuild : Type 0 where
  pub spool : SpoolState
  pub now : ℕ
  pub options : Options

abbrev pub rebuild_of : SpoolState → ℕ → Options → AskedRebuild
rebuild_of spool now options = record { spool = spool; now = now; options = options }

-- P holds of its task, where the folder and the old index are shown
abbrev pub OfTask : AskedRebuild → DiskState → (Task → Type 0) → Type 0
OfTask asked disk P = WhereShown asked.spool disk asked.now asked.options P

-- ---- how it ends

abbrev pub rebuild_note : RebuildFault → Note
rebuild_note SpoolFault = DeviceFault Spool
rebuild_note TooMany = Limit Files 1048577
rebuild_note (TooBig size) = Limit File size
rebuild_note ModseqFull = Limit Modseq 18446744073709551615
rebuild_note DiskFault = DeviceFault Host
rebuild_note WriteFault = DeviceFault Host
rebuild_note NoMemory = Memory

-- The notes of a rebuild. Of the devices the host and the spool are used.
abbrev pub IsRebuildNote : Note → Type 0
IsRebuildNote Done = Unit {0}
IsRebuildNote (Limit File _) = Unit {0}
IsRebuildNote (Limit Files _) = Unit {0}
IsRebuildNote (Limit Modseq _) = Unit {0}
IsRebuildNote (DeviceFault Host) = Unit {0}
IsRebuildNote (DeviceFault Spool) = Unit {0}
IsRebuildNote Memory = Unit {0}
IsRebuildNote note = ⊥

-- The stated note and output, by the files of the folder, the old index, and the options: the report, or nothing where a limit is passed.
pub data StatedRebuild (task : Task) (note : Note) (output : List ℕ) : Type 0 where
  rebuilt : NoLimitIsPassed task → IsReport task output → note ≡ Done → StatedRebuild task note output
  too_many : LimitIsPassed TooMany task → note ≡ rebuild_note TooMany → output ≡ [] → StatedRebuild task note output
  too_big : (size : ℕ) → LimitIsPassed (TooBig size) task → note ≡ rebuild_note (TooBig size) → output ≡ [] → StatedRebuild task note output
  number_full : LimitIsPassed ModseqFull task → note ≡ rebuild_note ModseqFull → output ≡ [] → StatedRebuild task note output

-- note and output are the stated ones
pub record IsStatedRebuild (task : Task) (old new : HostMoment) (note : Note) : Type 0 where
  pub output : List ℕ
  pub result : StatedRebuild task note output
  pub told : new.streams.told ≡ told_with old.streams.told output

-- whatever note and output are stated, these are they, unless the rebuild was cut off
abbrev pub IsExactly : HostMoment → HostMoment → Note → Task → Type 0
IsExactly old new note task =
    (wanted : Note) (output : List ℕ) → StatedRebuild task wanted output
    → IsCutOff note ⊎ ((note ≡ wanted) × (new.streams.told ≡ told_with old.streams.told output))

-- ---- a rebuild over a host

-- A rebuild ran over a host, and ended with a note.
pub record DoesRebuild (asked : AskedRebuild) (old new : HostMoment) (note : Note) : Type 0 where
  -- after `Done` the report was printed, and the index reads the stated bytes and a crash leaves nothing else, unless nothing was to be changed
  pub rebuilt : note ≡ Done → OfTask asked old.disk (λ task. (tally : Tally) × Rebuilds task old new tally)
  pub durable : note ≡ Done → asked.options.dry ≡ false → IsDurable new.disk
  -- wherever it stops, the index is one that could be left before, or the whole new one; in a dry run, and after a refusal before the new
  -- file was begun, it is one that could be left before
  pub each : LeavesBetween old.disk new.disk (λ c. old.disk.leaves c ⊎ OfTask asked old.disk (MayBeNew c))
  pub dry : asked.options.dry ≡ true → KeepsFile old.disk new.disk
  pub dry_reads : asked.options.dry ≡ true → note ≡ Done → new.disk.reads ≡ old.disk.reads
  pub refused : (note ≡ Done) ⊎ KeepsFile old.disk new.disk ⊎ ((note ≡ DeviceFault Host) × (new.streams.tell_faults ≡ old.streams.tell_faults))
  -- unless it was cut off, note and output are the stated ones, and no others are
  pub stated : OfTask asked old.disk (λ task. IsCutOff note ⊎ IsStatedRebuild task old new note)
  pub exactly : OfTask asked old.disk (IsExactly old new note)
  -- nothing was printed, or a prefix of the report, and nothing where it was refused without a fault of the host
  pub prints : OfTask asked old.disk (λ task. PrintsSome task old new)
  pub silent : (note ≡ Done → ⊥) → (note ≡ DeviceFault Host → ⊥) → new.streams.told ≡ old.streams.told
  pub warned : new.streams.warned ≡ old.streams.warned
  -- the host failed exactly where the note says so
  pub faults : Faults Host note old.disk.faults new.disk.faults
  pub notes : IsRebuildNote note
