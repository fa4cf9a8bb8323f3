-- A conversion as a run does it: what the words ask for, its stated note, and what is left of both files.
use Rattle.std.specs.Prelude.{◌≡◌, ◌⊎◌, ℕ, List, Option, Some, None, IsSome, length}
use Rattle.base_bytes.specs.OrderedMap.{Map}
use Rattle.base_devices.specs.CrashImages.{DiskState, Image, IsDurable, LeavesOnly, Reads, WhereRead}
use Rattle.base_devices.specs.Frames.{MayLeaveLess, StaysAs}
use Rattle.base_notes.specs.declared.note.Device.TheVariants.{Host, Second}
use Rattle.base_notes.specs.declared.note.LimitName.TheVariants.{Key, Value, File}
use Rattle.base_notes.specs.declared.note.Note.{Note}
use Rattle.base_notes.specs.declared.note.Note.TheVariants.{Absent, Damaged, DeviceFault, Done, Exists, Limit, Memory}
use Rattle.db_core.specs.Opening.{IsOpenRefusal, OpensTo, SameMap}
use Rattle.db_core.specs.Sessions.{DbKind, DbState}
use Rattle.db_core.specs.declared.fault.DbFault.{DbFault}
use Rattle.db_core.specs.declared.opening.OpenFault.{OpenFault}
use Rattle.db_core.specs.declared.opening.OpenFault.TheVariants.{NoMemory as NoRoom, DiskFault as NoDisk}
use Rattle.db_fill.specs.Filling.{DrawsUpTo, FillKind, fill_refusal, left_after}
use Rattle.db_tool.specs.ToolNotes.{Faults, IsCutOff, change_note, opening_note}
use Rattle.rand_core.specs.Stream.{Stream}
use Rattle.tool_words.specs.declared.jobs.Job.{Job}
use Rattle.tool_words.specs.declared.jobs.Job.TheVariants.{Convert}
use Rattle.cyr_top.specs.Asked.{built_job_of, fill_of, kind_of}

-- ---- what is asked for

-- the kind of the old file, and what the new one makes of a map
pub record AskedConversion : Type 1 where
  pub from : DbKind
  pub to : FillKind

abbrev pub converting : DbKind → FillKind → AskedConversion
converting from to = record { from = from; to = to }

-- P holds of a job that converts, by the kinds of its files
abbrev pub OnConversion : (AskedConversion → Type 0) → Job → Type 0
OnConversion P (Convert from from_kind to to_kind) = P (converting (kind_of from_kind) (fill_of to_kind))
OnConversion P job = Unit {0}

-- P holds of the conversion that the words ask for
abbrev pub WhereConverting : List (List ℕ) → (AskedConversion → Type 0) → Type 0
WhereConverting words P = (job : Job) → built_job_of words ≡ Some job → OnConversion P job

-- the disks of both files, and the random words to come
pub record BothMoment : Type 1 where
  pub from : DiskState
  pub to : DiskState
  pub words : Stream

abbrev pub with_both : DiskState → DiskState → Stream → BothMoment
with_both from to words = record { from = from; to = to; words = words }

-- ---- how it ends

-- why the old file does not open
abbrev pub DoesNotOpen : DbKind → Image → OpenFault → Type 0
DoesNotOpen kind main NoRoom = ⊥
DoesNotOpen kind main NoDisk = ⊥
DoesNotOpen kind main fault = IsOpenRefusal kind main fault

abbrev pub filled_note : Option DbFault → Note
filled_note None = Done
filled_note (Some fault) = change_note Second fault

-- The stated note, by what both files read: the new one must be absent, which is looked at first; the old one must open; and
-- its map must fit into the new one.
pub data StatedConversion (asked : AskedConversion) (words : Stream) (from to : Image) (note : Note) : Type 0 where
  exists : (bytes : List ℕ) → to ≡ Some bytes → note ≡ Exists → StatedConversion asked words from to note
  unopened : (fault : OpenFault) → to ≡ None → DoesNotOpen asked.from from fault → note ≡ opening_note Host fault → StatedConversion asked words from to note
  filled : (s : DbState) → to ≡ None → OpensTo asked.from from s → note ≡ filled_note (fill_refusal asked.to s.committed words) → StatedConversion asked words from to note

-- The notes of a conversion. Of the devices the host and the second one are used.
abbrev pub IsConversionNote : Note → Type 0
IsConversionNote Done = Unit {0}
IsConversionNote Absent = Unit {0}
IsConversionNote Exists = Unit {0}
IsConversionNote (Limit Key _) = Unit {0}
IsConversionNote (Limit Value _) = Unit {0}
IsConversionNote (Limit File _) = Unit {0}
IsConversionNote (DeviceFault Host) = Unit {0}
IsConversionNote (DeviceFault Second) = Unit {0}
IsConversionNote Memory = Unit {0}
IsConversionNote (Damaged _ _) = Unit {0}
IsConversionNote note = ⊥

-- ---- what is left

-- the map of the old file, where its disk shows what it reads
abbrev pub IsMapOf : AskedConversion → DiskState → Map → Type 0
IsMapOf asked d m = WhereRead d (λ main. asked.from.opens main m)

-- the image is the whole new file, of the map of the old one
pub record IsWhole (asked : AskedConversion) (old : BothMoment) (c : Image) : Type 0 where
  pub map : Map
  pub of_old : IsMapOf asked old.from map
  pub whole : c ≡ Some (asked.to.file_of map old.words)

-- The new file is there, made of the map of the old one by the next random words, and a crash leaves nothing else.
pub record IsConverted (asked : AskedConversion) (old new : BothMoment) : Type 0 where
  pub map : Map
  pub of_old : IsMapOf asked old.from map
  pub reads : IsSome old.to.reads → Reads new.to (asked.to.file_of map old.words)
  pub durable : IsDurable new.to
  pub words : new.words ≡ left_after (asked.to.words_for (length map)) old.words

-- The old file was opened, if anything: each image left opens to the map to which it opens, and a settled one is only synced.
pub record OnlyOpens (kind : DbKind) (old new : DiskState) : Type 0 where
  pub each : LeavesOnly old new (λ c n. (n ≡ old.mark) × (old.leaves c ⊎ SameMap kind old.reads c))
  pub mark : new.mark ≡ old.mark
  pub publishes : new.publishes ≡ old.publishes
  pub settled : WhereRead old (λ main. ((bytes : List ℕ) → main ≡ Some bytes → kind.is_settled bytes) → MayLeaveLess old new)

-- some words were drawn, no more than the conversion of the old file's map draws
pub record DrawsSome (asked : AskedConversion) (old new : BothMoment) : Type 0 where
  pub map : Map
  pub of_old : IsMapOf asked old.from map
  pub draws : DrawsUpTo (asked.to.words_for (length map)) old.words new.words

-- A conversion ran over both disks, and ended with a note.
pub record DoesConversion (asked : AskedConversion) (old new : BothMoment) (note : Note) : Type 0 where
  pub converted : note ≡ Done → IsConverted asked old new
  -- wherever it stops, the new file is one that could be left before, or the whole one; before it is begun nothing of it changes
  pub each : LeavesOnly old.to new.to (λ c n. (n ≡ old.to.mark) × (old.to.leaves c ⊎ IsWhole asked old c))
  pub kept : (note ≡ Done) ⊎ (note ≡ DeviceFault Second) ⊎ (StaysAs old.to new.to × (new.to.fresh ≡ old.to.fresh))
  -- the old file is opened, and not changed
  pub opens : OnlyOpens asked.from old.from new.from
  -- unless it was cut off, the note is the stated one, and no other is
  pub stated : WhereRead old.from (λ from. WhereRead old.to (λ to. IsCutOff note ⊎ StatedConversion asked old.words from to note))
  pub exactly : WhereRead old.from (λ from. WhereRead old.to (λ to. (wanted : Note)
      → StatedConversion asked old.words from to wanted → IsCutOff note ⊎ (note ≡ wanted)))
  pub drawn : (new.words ≡ old.words) ⊎ DrawsSome asked old new
  -- each device failed exactly where the note says so
  pub from_faults : Faults Host note old.from.faults new.from.faults
  pub to_faults : Faults Second note old.to.faults new.to.faults
  pub notes : IsConversionNote note
