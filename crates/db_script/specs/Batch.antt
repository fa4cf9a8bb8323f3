-- How a script is done, whatever its source: the devices that fail, and what is left of the session.
use Rattle.std.specs.Prelude.{◌≡◌, ◌⊎◌, ℕ, ◌+◌, Bool, false, if◌then◌else◌, Option, None, Some, Result, Ok, Err}
use Rattle.base_notes.specs.declared.note.Device.{Device}
use Rattle.base_notes.specs.declared.note.Device.TheVariants.{Host, Input}
use Rattle.base_notes.specs.declared.note.Note.{Note}
use Rattle.base_notes.specs.declared.note.Note.TheVariants.{Done, BadLine, Limit, DeviceFault, Memory}
use Rattle.db_core.specs.Calls.{KeepsInPlace}
use Rattle.db_core.specs.Sessions.{DbKind, DbMoment}
use Rattle.base_notes.specs.declared.note.LimitName.TheVariants.{File, Key, Script, Value}
use Rattle.base_bytes.specs.declared.limits.TheConstants.{SCRIPT_LIMIT}
use Rattle.db_script.specs.declared.script.ScriptFault.{ScriptFault}
use Rattle.db_script.specs.declared.script.ScriptFault.TheVariants.{TooLong, BadLine as IsBad, NoMemory, InputFault}
use Rattle.db_tool.specs.ToolNotes.{IsFault, Faults}

-- the note with which it ends, or none where it goes on
abbrev pub note_or_done : Option Note → Note
note_or_done None = Done
note_or_done (Some note) = note

-- a script that ends in a transaction is wrong at the line after its last
abbrev pub end_note : Bool → ℕ → Note
end_note in_one number = if in_one then BadLine number else Done

-- the note of a script that gives no line
abbrev pub script_note : ScriptFault → Note
script_note TooLong = Limit Script (SCRIPT_LIMIT + 1)
script_note (IsBad number) = BadLine number
script_note NoMemory = Memory
script_note InputFault = DeviceFault Input

-- no call of the host failed but where the note names it, the session is whole unless the note names a device, and a kind
-- that works in place published nothing
pub record GoesWell (kind : DbKind) (old new : DbMoment) (note : Note) : Type 0 where
  pub faults : Faults Host note old.disk.faults new.disk.faults
  pub sound : (IsFault note → ⊥) → new.session.is_broken ≡ false
  pub in_place : KeepsInPlace kind old.disk new.disk

-- the devices of a script: its host and its source
abbrev pub IsScriptDevice : Device → Type 0
IsScriptDevice device = (device ≡ Host) ⊎ (device ≡ Input)

-- a note names no other device
abbrev pub NamesScriptDevice : Note → Type 0
NamesScriptDevice note = (device : Device) → note ≡ DeviceFault device → IsScriptDevice device

-- the notes of a script
abbrev pub IsScriptNote : Note → Type 0
IsScriptNote Done = Unit {0}
IsScriptNote (BadLine _) = Unit {0}
IsScriptNote (Limit Key _) = Unit {0}
IsScriptNote (Limit Value _) = Unit {0}
IsScriptNote (Limit File _) = Unit {0}
IsScriptNote (Limit Script _) = Unit {0}
IsScriptNote (DeviceFault Host) = Unit {0}
IsScriptNote (DeviceFault Input) = Unit {0}
IsScriptNote Memory = Unit {0}
IsScriptNote note = ⊥

-- ---- the next line

-- the note of an answer that ends the script, or that it goes on
abbrev pub note_of_answer : {T : Type 0} → Result T Note → Note
note_of_answer (Ok x) = Done
note_of_answer (Err note) = note

-- the next line, or the note with which the script ends before it
abbrev pub found_or_note : {T : Type 0} → Bool → ℕ → Result (Option T) ScriptFault → Result T Note
found_or_note in_one lines (Ok (Some found)) = Ok found
found_or_note in_one lines (Ok None) = Err (end_note in_one (lines + 1))
found_or_note in_one lines (Err fault) = Err (script_note fault)
