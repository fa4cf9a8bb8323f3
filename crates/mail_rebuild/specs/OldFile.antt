-- Why the file of an old index may not be read.
use Rattle.std.specs.Prelude.{◌≡◌, ℕ, ◌<◌, List, Some, length}
use Rattle.base_bytes.specs.declared.limits.TheConstants.{SKIP_LIMIT}
use Rattle.base_devices.specs.CrashImages.{Image}
use Rattle.mail_rebuild.specs.declared.fault.RebuildFault.{RebuildFault}
use Rattle.mail_rebuild.specs.declared.fault.RebuildFault.TheVariants.{TooBig, DiskFault, NoMemory}

-- the file has so many bytes, more than an index may have
pub record IsTooBig (main : Image) (size : ℕ) : Type 0 where
  pub bytes : List ℕ
  pub there : main ≡ Some bytes
  pub counted : size ≡ length bytes
  pub over : SKIP_LIMIT < size

-- the file is too big, its disk failed, or memory ran out
abbrev pub IsReadRefusal : Image → RebuildFault → Type 0
IsReadRefusal main (TooBig size) = IsTooBig main size
IsReadRefusal main DiskFault = Unit {0}
IsReadRefusal main NoMemory = Unit {0}
IsReadRefusal main other = ⊥

abbrev pub IsDiskFault : RebuildFault → Type 0
IsDiskFault DiskFault = Unit {0}
IsDiskFault other = ⊥

-- a refusal to read it
abbrev pub IsReadKind : RebuildFault → Type 0
IsReadKind (TooBig size) = Unit {0}
IsReadKind DiskFault = Unit {0}
IsReadKind NoMemory = Unit {0}
IsReadKind other = ⊥
