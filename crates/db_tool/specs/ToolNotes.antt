-- The notes with which a tool ends where an opening or a change is refused, and the devices that they name.
use Rattle.std.specs.Prelude.{◌≡◌, ◌⊎◌, ℕ}
use Rattle.base_devices.specs.Causes.{Rose}
use Rattle.base_notes.specs.declared.note.Device.{Device}
use Rattle.base_notes.specs.declared.note.LimitName.TheVariants.{Key, Value, File}
use Rattle.base_notes.specs.declared.note.Note.{Note}
use Rattle.base_notes.specs.declared.note.Note.TheVariants.{BadLine, Absent, Limit, DeviceFault, Memory, Damaged}
use Rattle.db_core.specs.declared.fault.DbFault.{DbFault}
use Rattle.db_core.specs.declared.fault.DbFault.TheVariants.{KeyEmpty, KeyTooLong, ValueTooLong, Full, NoMemory}
use Rattle.db_core.specs.declared.opening.OpenFault.{OpenFault}
use Rattle.db_core.specs.declared.opening.OpenFault.TheVariants.{Absent as NoFile, TooBig, NoMemory as NoRoom, DiskFault as NoDisk, Damaged as Flawed}

-- The note of a change that is refused, over a database on this device. In a broken session an earlier call met a
-- fault of the device.
abbrev pub change_note : Device → DbFault → Note
change_note device KeyEmpty = BadLine 1
change_note device (KeyTooLong length) = Limit Key length
change_note device (ValueTooLong length) = Limit Value length
change_note device (Full size) = Limit File size
change_note device NoMemory = Memory
change_note device fault = DeviceFault device

-- the note of a database on this device that is not opened
abbrev pub opening_note : Device → OpenFault → Note
opening_note device NoFile = Absent
opening_note device (TooBig size) = Limit File size
opening_note device NoRoom = Memory
opening_note device NoDisk = DeviceFault device
opening_note device (Flawed at check) = Damaged at check

-- a device failed
abbrev pub IsFault : Note → Type 0
IsFault (DeviceFault device) = Unit {0}
IsFault note = ⊥

-- a device failed, or memory ran out: the end is not the stated one
abbrev pub IsCutOff : Note → Type 0
IsCutOff note = IsFault note ⊎ (note ≡ Memory)

-- the device's count rose where the note names it, and stands where it does not
pub record Faults (device : Device) (note : Note) (before now : ℕ) : Type 0 where
  pub rose : note ≡ DeviceFault device → Rose before now
  pub stood : (note ≡ DeviceFault device → ⊥) → now ≡ before
