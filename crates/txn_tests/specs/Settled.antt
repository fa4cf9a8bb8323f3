-- Tidy files, and the disks on which they lie.
use Rattle.std.specs.Prelude.{ℕ, ◌≤◌, List, length}
use Rattle.base_bytes.specs.declared.limits.TheConstants.{SKIP_LIMIT}
use Rattle.base_devices.specs.CrashImages.{DiskState, Reads, IsDurable}
use Rattle.skip_spec.specs.Opens as opens
use Rattle.skip_spec.specs.Opens.{Contents, Tidy}

-- the disk reads these bytes, and a stop leaves nothing else
pub record IsOn (bytes : List ℕ) (disk : DiskState) : Type 0 where
  pub reads : Reads disk bytes
  pub durable : IsDurable disk
  pub fits : length bytes ≤ SKIP_LIMIT

-- and they are a tidy file
pub record IsSettled (bytes : List ℕ) (disk : DiskState) : Type 0 where
  pub says : Contents
  pub committed : opens.Reads bytes says
  pub tidy : Tidy bytes says
  pub on : IsOn bytes disk
