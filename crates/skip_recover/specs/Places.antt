-- What calls of a repair keep, and calls that write nothing.
use Rattle.std.specs.Prelude.{◌≡◌, ℕ, ◌≤◌, List, length}
use Rattle.base_devices.specs.CrashImages.{DiskState}
use Rattle.skip_lists.specs.Tie.{StaysUpTo}

-- The file grew no longer, nor did an image of it that may be left; the mark stood, and nothing was published.
pub record RepairsInPlace (old new : List ℕ) (before now : DiskState) : Type 0 where
  pub no_longer : length new ≤ length old
  pub up_to : (most : ℕ) → length old ≤ most → StaysUpTo most before now
  pub mark : now.mark ≡ before.mark
  pub publishes : now.publishes ≡ before.publishes

-- nothing was written
pub record WritesNothing (old new : List ℕ) (before now : DiskState) : Type 0 where
  pub file : new ≡ old
  pub written : now.written ≡ before.written
