-- The stated result of an action: its note and its output, by what the main file reads.
use Rattle.std.specs.Prelude.{◌≡◌, ◌⊎◌, ℕ, true, List, [], ◌++◌, None, codes, decimal}
use Rattle.base_bytes.specs.Flaws.{flaw_text}
use Rattle.base_bytes.specs.declared.flaw.Flaw.{Flaw}
use Rattle.base_devices.specs.CrashImages.{Image, DiskState}
use Rattle.base_devices.specs.HostCalls.{HostState, told_with}
use Rattle.base_notes.specs.Notes.{note_text}
use Rattle.base_notes.specs.declared.action.Action.{Action}
use Rattle.base_notes.specs.declared.action.Action.TheVariants.{Batch, Consistent}
use Rattle.base_notes.specs.declared.note.Device.TheVariants.{Host}
use Rattle.base_notes.specs.declared.note.LimitName.TheVariants.{Key, Value, File}
use Rattle.base_notes.specs.declared.note.Note.{Note}
use Rattle.base_notes.specs.declared.note.Note.TheVariants.{Done, Answer, Usage, BadLine, Absent, Limit, DeviceFault, Memory, Damaged}
use Rattle.db_core.specs.Opening.{OpensTo, IsOpenRefusal}
use Rattle.db_core.specs.Sessions.{DbState, at_rest}
use Rattle.db_core.specs.declared.opening.OpenFault.{OpenFault}
use Rattle.db_core.specs.declared.opening.OpenFault.TheVariants.{Absent as NoFile, NoMemory as NoRoom, DiskFault as NoDisk, Damaged as Flawed}
use Rattle.db_script.specs.Batch.{IsScriptNote}
use Rattle.db_tool.specs.ToolNotes.{Faults, opening_note}
use Rattle.cyr_top.specs.Asked.{Asked, task_for}
use Rattle.cyr_top.specs.Converting.{IsConversionNote}
use Rattle.cyr_top.specs.Rebuilding.{IsRebuildNote}

-- ---- what the main file stands for

-- the session over the empty database that is made
abbrev pub made_session : Asked → DbState
made_session asked = at_rest [] (asked.kind.load_of asked.kind.empty)

-- The session from which an action starts: the one of the main file, or that of the empty database where it is to be made.
abbrev pub StartsFrom : Asked → Image → DbState → Type 0
StartsFrom asked main s = OpensTo asked.kind main s ⊎ ((asked.make ≡ true) × (main ≡ None) × (s ≡ made_session asked))

-- why the main file does not open
abbrev pub IsUnopened : Asked → Image → OpenFault → Type 0
IsUnopened asked main NoFile = (main ≡ None) × (asked.make ≡ true → ⊥)
IsUnopened asked main NoRoom = ⊥
IsUnopened asked main NoDisk = ⊥
IsUnopened asked main fault = IsOpenRefusal asked.kind main fault

-- ---- how an action ends

-- A check prints the flaw of a file in a line of its own, and every other action refuses the file.
abbrev pub flaw_line : ℕ → Flaw → List ℕ
flaw_line at check = codes "not consistent: " ++ flaw_text check ++ codes " at " ++ decimal at ++ codes "\n"

abbrev pub unopened_note : Action → OpenFault → Note
unopened_note Consistent (Flawed _ _) = Answer
unopened_note action fault = opening_note Host fault

abbrev pub unopened_output : Action → OpenFault → List ℕ
unopened_output Consistent (Flawed at check) = flaw_line at check
unopened_output action fault = []

-- The stated note and output of an action, by what the main file reads.
pub data StatedResult (asked : Asked) (main : Image) (note : Note) (output : List ℕ) : Type 0 where
  acted : (s : DbState) → StartsFrom asked main s → note ≡ (task_for asked s).note → output ≡ (task_for asked s).output → StatedResult asked main note output
  unopened : (fault : OpenFault) → IsUnopened asked main fault → note ≡ unopened_note asked.action fault → output ≡ unopened_output asked.action fault → StatedResult asked main note output

-- The notes of the actions that are built, but for scripts, and of words that give no job. Of the devices only the host is used.
abbrev pub IsBuilt : Note → Type 0
IsBuilt Done = Unit {0}
IsBuilt Answer = Unit {0}
IsBuilt Usage = Unit {0}
IsBuilt (BadLine _) = Unit {0}
IsBuilt Absent = Unit {0}
IsBuilt (Limit Key _) = Unit {0}
IsBuilt (Limit Value _) = Unit {0}
IsBuilt (Limit File _) = Unit {0}
IsBuilt (DeviceFault Host) = Unit {0}
IsBuilt Memory = Unit {0}
IsBuilt (Damaged _ _) = Unit {0}
IsBuilt note = ⊥

-- the notes of an action
abbrev pub IsNoteOf : Action → Note → Type 0
IsNoteOf Batch note = IsBuilt note ⊎ IsScriptNote note
IsNoteOf action note = IsBuilt note

-- ---- what every run keeps

-- the note of a built action, of a script, of a conversion or of a rebuild, and the host failed exactly where it says so
pub record Ran (note : Note) (old new : DiskState) : Type 0 where
  pub built : IsBuilt note ⊎ IsScriptNote note ⊎ IsConversionNote note ⊎ IsRebuildNote note
  pub faults : Faults Host note old.faults new.faults

-- standard error gets the note's text, or the host ceases to show what it got
abbrev pub Warns : Note → HostState → HostState → Type 0
Warns note old new = (new.warned ≡ told_with old.warned (note_text note)) ⊎ (new.warned ≡ None)

-- nothing was printed to standard output
pub record SamePrints (old new : HostState) : Type 0 where
  pub told : new.told ≡ old.told
  pub tell_faults : new.tell_faults ≡ old.tell_faults
