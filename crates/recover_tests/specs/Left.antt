-- Disks whose file opens to a map.
use Rattle.std.specs.Prelude.{◌≡◌, ℕ, List}
use Rattle.base_bytes.specs.OrderedMap.{Map}
use Rattle.base_devices.specs.CrashImages.{Image, DiskState, Reads, IsDurable}
use Rattle.skip_spec.specs.Opens.{Opens}
use Rattle.skip_lists.specs.Tie.{OnBytes}

-- the disk reads a file that opens to the map, and a stop leaves nothing else
pub record HasMap (m : Map) (disk : DiskState) : Type 0 where
  pub file : List ℕ
  pub reads : Reads disk file
  pub opens : Opens file m
  pub durable : IsDurable disk

-- a stop now leaves a file that opens to the map
abbrev pub LeavesMapNow : Map → DiskState → Type 0
LeavesMapNow m disk = (image : Image) → disk.leaves image → OnBytes (λ file. Opens file m) image
