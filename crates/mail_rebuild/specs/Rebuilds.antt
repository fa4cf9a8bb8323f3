-- What a rebuild does to a folder's index.
use Rattle.std.specs.Prelude.{◌≡◌, ◌⊎◌, ℕ, ◌+◌, ◌<◌, ◌≤◌, true, false, List, Some, length, take}
use Rattle.base_bytes.specs.declared.limits.TheConstants.{FILES_LIMIT}
use Rattle.base_devices.specs.CrashImages.{DiskState, Image, Reads}
use Rattle.base_devices.specs.HostCalls.{HostMoment, told_with}
use Rattle.base_devices.specs.SpoolCalls.{MessageFile, SpoolState, shown_files}
use Rattle.base_notes.specs.declared.action.Options.{Options}
use Rattle.mail_rebuild.specs.declared.fault.RebuildFault.{RebuildFault}
use Rattle.mail_rebuild.specs.declared.fault.RebuildFault.TheVariants.{DiskFault, ModseqFull, NoMemory, SpoolFault, TooBig, TooMany, WriteFault}
use Rattle.mail_rebuild.specs.declared.report.Tally.{Tally}
use Rattle.mail_rebuild.specs.OldFile.{IsTooBig}
use Rattle.mail_rebuild.specs.Rebuilt.{SortsFiles, change_is_due, dropped, fresh, old_header, rebuilt, whole_index}
use Rattle.mail_rebuild.specs.Report.{HasAllUids, report}

-- the files of a folder, its old index, the time in seconds since 1970, and what was asked for
pub record Task : Type 0 where
  pub files : List MessageFile
  pub old : Image
  pub now : ℕ
  pub options : Options

-- the messages of a folder by rising uid, its odd names, and the uids of the messages and of the usable records
pub record Contents : Type 0 where
  pub messages : List MessageFile
  pub odd : List (List ℕ)
  pub uids : List ℕ

pub record AreContents (files : List MessageFile) (old : Image) (contents : Contents) : Type 0 where
  pub sorted : SortsFiles files contents.messages contents.odd
  pub all_uids : HasAllUids old contents.messages contents.uids

-- the report that is asked for
abbrev pub IsReport : Task → List ℕ → Type 0
IsReport task text =
    (contents : Contents) × AreContents task.files task.old contents
    × (text ≡ report task.options task.old contents.messages contents.uids contents.odd)

-- the bytes of the new index
abbrev pub IsNewIndex : Task → List ℕ → Type 0
IsNewIndex task bytes =
    (contents : Contents) × AreContents task.files task.old contents × (bytes ≡ rebuilt task.old contents.messages task.now)

-- how many messages keep their records, how many are fresh, and how many usable records have no message
pub record Counts (old : Image) (messages : List MessageFile) (tally : Tally) : Type 0 where
  pub all : tally.kept + tally.fresh ≡ length messages
  pub fresh : tally.fresh ≡ length (fresh old messages)
  pub dropped : tally.dropped ≡ length (dropped old messages)

abbrev pub IsTally : Task → Tally → Type 0
IsTally task tally = (contents : Contents) × AreContents task.files task.old contents × Counts task.old contents.messages tally

-- P holds of the task, where the folder and the old index are shown
abbrev pub WhereShown : SpoolState → DiskState → ℕ → Options → (Task → Type 0) → Type 0
WhereShown spool disk now options P =
    (files : List MessageFile) (old : Image) → shown_files spool ≡ Some files → disk.reads ≡ Some old
    → P (record { files = files; old = old; now = now; options = options })

-- the whole report was printed, and the new index is read unless nothing was to be changed
pub record Rebuilds (task : Task) (old new : HostMoment) (tally : Tally) : Type 0 where
  pub text : List ℕ
  pub bytes : List ℕ
  pub report : IsReport task text
  pub printed : new.streams.told ≡ told_with old.streams.told text
  pub index : IsNewIndex task bytes
  pub reads : task.options.dry ≡ false → Reads new.disk bytes
  pub counts : IsTally task tally

-- nothing was printed, or a prefix of the report
abbrev pub PrintsSome : Task → HostMoment → HostMoment → Type 0
PrintsSome task old new =
    (new.streams.told ≡ old.streams.told)
    ⊎ ((text : List ℕ) × IsReport task text × (count : ℕ) × (new.streams.told ≡ told_with old.streams.told (take count text)))

-- the image is the whole new index
abbrev pub MayBeNew : Image → Task → Type 0
MayBeNew image task = (bytes : List ℕ) × IsNewIndex task bytes × (image ≡ Some bytes)

-- ---- refusals

-- a modification number is due after the last one
pub record IsModseqFull (old : Image) (messages : List MessageFile) : Type 0 where
  pub last : 18446744073709551615 ≤ (old_header (whole_index old)).highestmodseq
  pub due : change_is_due old messages ≡ true

-- the folder has no more files, and the old index no more bytes, than they may have
pub record IsWithinSizes (task : Task) : Type 0 where
  pub few : length task.files ≤ FILES_LIMIT
  pub small : (size : ℕ) → IsTooBig task.old size → ⊥

-- a refusal for a number says which limit is passed, the first one of these three
abbrev pub LimitIsPassed : RebuildFault → Task → Type 0
LimitIsPassed TooMany task = FILES_LIMIT < length task.files
LimitIsPassed (TooBig size) task = (length task.files ≤ FILES_LIMIT) × IsTooBig task.old size
LimitIsPassed ModseqFull task =
    IsWithinSizes task × (contents : Contents) × AreContents task.files task.old contents × IsModseqFull task.old contents.messages
LimitIsPassed other task = Unit {0}

-- none of them is passed
abbrev pub NoLimitIsPassed : Task → Type 0
NoLimitIsPassed task =
    IsWithinSizes task × (contents : Contents) × AreContents task.files task.old contents × (IsModseqFull task.old contents.messages → ⊥)

abbrev pub IsHostFault : RebuildFault → Type 0
IsHostFault DiskFault = Unit {0}
IsHostFault WriteFault = Unit {0}
IsHostFault other = ⊥

abbrev pub IsWriteFault : RebuildFault → Type 0
IsWriteFault WriteFault = Unit {0}
IsWriteFault other = ⊥

-- a refusal before the first output
abbrev pub IsEarly : RebuildFault → Type 0
IsEarly SpoolFault = Unit {0}
IsEarly TooMany = Unit {0}
IsEarly (TooBig size) = Unit {0}
IsEarly ModseqFull = Unit {0}
IsEarly NoMemory = Unit {0}
IsEarly other = ⊥
