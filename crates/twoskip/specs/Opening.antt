-- A file that was read, what settling it does, and what opening does to its disk.
use Rattle.std.specs.Prelude.{◌≡◌, ℕ, ◌≤◌, Bool, true, List, Some, length}
use Rattle.base_bytes.specs.Fields.{AreBytes}
use Rattle.base_bytes.specs.OrderedMap.{Map}
use Rattle.base_bytes.specs.declared.limits.TheConstants.{SKIP_LIMIT}
use Rattle.base_devices.specs.CrashImages as devices
use Rattle.base_devices.specs.CrashImages.{DiskState, IsDurable, LeavesOnly, Shows, WhereRead}
use Rattle.base_devices.specs.Frames.{MayLeaveLess}
use Rattle.db_core.specs.Sessions.{DbKind, at_rest}
use Rattle.skip_spec.specs.FirstFlaw.{end_of}
use Rattle.skip_spec.specs.Layout.{Repacked}
use Rattle.skip_spec.specs.Opens.{Contents, Opens, Reads, Tidy}
use Rattle.skip_lists.specs.Tie.{LeavesEach}
use Rattle.skip_image.specs.Verifying.{IsVerified}
use Rattle.skip_txn.specs.Sessions.{resting, session_state, Tied}

-- A file without a flaw, which the disk reads, and beside which a crash leaves no other.
pub record IsRead (file : List ℕ) (count : ℕ) (clean : Bool) (disk : DiskState) : Type 0 where
  pub bytes : AreBytes file
  pub within : length file ≤ SKIP_LIMIT
  pub verified : IsVerified file count clean
  pub reads : Shows disk → devices.Reads disk file
  pub durable : IsDurable disk

-- After Ok the file is tidy, and the session over it has the map and the load of the file that was read.
pub record IsSettled (old new : List ℕ) (disk : DiskState) : Type 0 where
  pub tidy : (says : Contents) × Reads new says × Tidy new says
  pub rests : (m : Map) → Opens old m → session_state (resting new) ≡ at_rest m (end_of old)
  pub tied : Tied (resting new) disk
  pub durable : IsDurable disk
  -- what may take its place could take the place of the one that was read
  pub repacked : (made : List ℕ) → Repacked new made → Repacked old made

-- Each image left is a file of the map of the one that was read, and of a clean one nothing changes.
pub record SettlesDisk (file : List ℕ) (clean : Bool) (before now : DiskState) : Type 0 where
  pub each : (m : Map) → Opens file m → LeavesEach (λ left. Opens left m × (length left ≤ SKIP_LIMIT)) before now
  pub mark : now.mark ≡ before.mark
  pub publishes : now.publishes ≡ before.publishes
  pub still : clean ≡ true → MayLeaveLess before now × (now.reads ≡ before.reads)

-- where the disk reads a file, it is one that opening does not write
abbrev pub WhereSettled : DbKind → DiskState → Type 0 → Type 0
WhereSettled kind disk P = WhereRead disk (λ main. ((file : List ℕ) → main ≡ Some file → kind.is_settled file) → P)
