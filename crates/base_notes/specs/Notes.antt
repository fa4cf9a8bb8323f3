-- What a run's note prints on standard error, and the status that it stands for.
use Rattle.std.specs.Prelude.{ℕ, List, [], ◌++◌, codes, decimal}
use Rattle.base_bytes.specs.Flaws.{flaw_text}
use Rattle.base_notes.specs.declared.note.LimitName.{LimitName}
use Rattle.base_notes.specs.declared.note.LimitName.TheVariants.{Key, Value, Script, File, Files, Modseq}
use Rattle.base_notes.specs.declared.note.Device.{Device}
use Rattle.base_notes.specs.declared.note.Device.TheVariants.{Host, Second, Spool, Input}
use Rattle.base_notes.specs.declared.note.Note.{Note}
use Rattle.base_notes.specs.declared.note.Note.TheVariants.{Done, Answer, Usage, BadLine, Absent, Limit, Exists, DeviceFault, Memory, Damaged}

abbrev pub limit_text : LimitName → List ℕ
limit_text Key = codes "key"
limit_text Value = codes "value"
limit_text Script = codes "script"
limit_text File = codes "file"
limit_text Files = codes "files"
limit_text Modseq = codes "modseq"

abbrev pub device_text : Device → List ℕ
device_text Host = codes "host"
device_text Second = codes "second"
device_text Spool = codes "spool"
device_text Input = codes "input"

abbrev pub note_text : Note → List ℕ
note_text Done = []
note_text Answer = []
note_text Usage = codes "usage\n"
note_text (BadLine line) = codes "line " ++ decimal line ++ codes ": wrong\n"
note_text Absent = codes "absent\n"
note_text (Limit limit number) = codes "limit " ++ limit_text limit ++ codes ": " ++ decimal number ++ codes "\n"
note_text Exists = codes "exists\n"
note_text (DeviceFault device) = codes "device fault: " ++ device_text device ++ codes "\n"
note_text Memory = codes "no memory\n"
note_text (Damaged at check) = codes "damaged: " ++ flaw_text check ++ codes " at " ++ decimal at ++ codes "\n"

abbrev pub status_of : Note → ℕ
status_of Done = 0
status_of Answer = 1
status_of Usage = 64
status_of (BadLine _) = 65
status_of Absent = 66
status_of (Limit _ _) = 70
status_of Exists = 73
status_of (DeviceFault _) = 74
status_of Memory = 75
status_of (Damaged _ _) = 76
