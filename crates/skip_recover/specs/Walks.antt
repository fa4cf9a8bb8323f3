-- How far a walk along the live records has repaired a file.
use Rattle.std.specs.Prelude.{◌≡◌, ℕ, ◌≤◌, List, ◌++◌}
use Rattle.base_devices.specs.CrashImages.{DiskState}
use Rattle.skip_spec.specs.Rows.{IsAmong}
use Rattle.skip_spec.specs.Chain.{Entry}
use Rattle.skip_spec.specs.Change.{heads_of}
use Rattle.skip_spec.specs.Opens.{Contents, IsTidyHead, on_level}
use Rattle.skip_spec.specs.Place.{AreLast}
use Rattle.skip_lists.specs.Levels.{LinksTo}
use Rattle.skip_lists.specs.Tie.{TiedToBase}

-- Some live records were passed, with the last of them on each level: up to these all levels are linked, and their
-- heads and the dummy's are tidy.
pub record Walked (says : Contents) (file last : List ℕ) (passed left : List Entry) : Type 0 where
  pub split : says.chain ≡ passed ++ left
  pub last_is : AreLast last passed
  pub linked : (level : ℕ) → 1 ≤ level → level ≤ 30 → LinksTo file level 64 (on_level level passed)
  pub tidy : (head : ℕ) → IsAmong (heads_of passed) head → IsTidyHead file says.header.current_size head

-- So of a file that is tied to its base, with the committed end.
pub record IsUnderWay (base : List ℕ) (says : Contents) (file : List ℕ) (disk : DiskState) (last : List ℕ) (passed left : List Entry) (end : ℕ) : Type 0 where
  pub tied : TiedToBase base says file disk
  pub walked : Walked says file last passed left
  pub size : says.header.current_size ≡ end
