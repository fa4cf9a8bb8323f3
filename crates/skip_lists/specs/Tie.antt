-- The bytes of a transaction that has changed something, or of a recovery, and the disk that they are written to.
use Rattle.std.specs.Prelude.{◌≡◌, ◌⊎◌, ℕ, ◌+◌, ◌<◌, ◌≤◌, List, Bool, true, false, if◌then◌else◌, length, Some}
use Rattle.base_bytes.specs.OrderedMap.{Map}
use Rattle.base_devices.specs.CrashImages.{Image, DiskState, Shows, Reads, LeavesOnly}
use Rattle.skip_spec.specs.Rows.{IsAmong}
use Rattle.skip_spec.specs.Chain.{Entry}
use Rattle.skip_spec.specs.Change.{heads_of}
use Rattle.skip_spec.specs.Opens as opens
use Rattle.skip_spec.specs.Opens.{Contents, Tidy, Opens, HasDirty, IsDirty}
use Rattle.skip_spec.specs.Live.{live_under}
use Rattle.skip_spec.specs.Near.{Near, heads}

-- the file is there, and has P
abbrev pub OnBytes : (List ℕ → Type 0) → Image → Type 0
OnBytes P image = (bytes : List ℕ) × (image ≡ Some bytes) × P bytes

-- an image that a transaction or a recovery may leave once it has changed something
abbrev pub IsLeft : List ℕ → List ℕ → Type 0
IsLeft base bytes = Near base bytes × HasDirty bytes

-- The disk reads the bytes, and they and each image that a crash leaves are images of a base that opens.
pub record TiedToBase (base : List ℕ) (says : Contents) (bytes : List ℕ) (disk : DiskState) : Type 0 where
  pub committed : opens.Reads base says
  pub sound : IsDirty says.header ⊎ Tidy base says
  pub own : IsLeft base bytes
  pub reads : Shows disk → Reads disk bytes
  pub left : (image : Image) → disk.leaves image → OnBytes (IsLeft base) image

-- a file, and the disk on which it lies, of which recovery makes a tidy one
abbrev pub Recoverable : List ℕ → DiskState → Type 0
Recoverable bytes disk = (base : List ℕ) × (says : Contents) × TiedToBase base says bytes disk

-- below the committed end the dummy and these records are heads of the base
abbrev pub AreKnown : Contents → List Entry → Type 0
AreKnown says es = (at : ℕ) → IsAmong (heads_of es) at → at < says.header.current_size → IsAmong (heads says) at

-- ---- a session

-- what a crash may leave of its base: the base alone, or once something has changed an image of it
abbrev pub MayLeave : List ℕ → Bool → List ℕ → Type 0
MayLeave base false file = file ≡ base
MayLeave base true file = IsLeft base file

-- The disk reads a session's bytes, whose base is tidy and holds all their records below the committed end; and
-- each image that a crash leaves is one of the base, no longer than the bytes.
pub record TiedBy (base : List ℕ) (says : Contents) (bytes : List ℕ) (changed : Bool) (disk : DiskState) : Type 0 where
  pub committed : opens.Reads base says
  pub tidy : Tidy base says
  pub own : MayLeave base changed bytes
  pub known : AreKnown says (live_under bytes (length bytes))
  pub reads : Shows disk → Reads disk bytes
  pub left : (image : Image) → disk.leaves image → OnBytes (λ file. MayLeave base changed file × (length file ≤ length bytes)) image

-- the bytes, and the commit record that is due once something has changed, are within a limit
abbrev pub IsWithin : ℕ → List ℕ → Bool → Type 0
IsWithin limit bytes changed = length bytes + (if changed then 24 else 0) ≤ limit

-- ---- moments

-- at each moment only files with P could be left, and the mark stood
abbrev pub LeavesEach : (List ℕ → Type 0) → DiskState → DiskState → Type 0
LeavesEach P old new = LeavesOnly old new (λ image mark. (mark ≡ old.mark) × OnBytes P image)

-- at each moment only files that open to this map could be left
abbrev pub LeavesMap : Map → DiskState → DiskState → Type 0
LeavesMap m old new = LeavesEach (λ file. Opens file m) old new

-- each image that a crash leaves is a file of so many bytes at most
abbrev pub IsUpTo : ℕ → DiskState → Type 0
IsUpTo most disk = (image : Image) → disk.leaves image → OnBytes (λ file. length file ≤ most) image

-- where each image was a file of so many bytes at most, it is so at each moment and at the end
abbrev pub StaysUpTo : ℕ → DiskState → DiskState → Type 0
StaysUpTo most old new = IsUpTo most old → IsUpTo most new × LeavesEach (λ file. length file ≤ most) old new
