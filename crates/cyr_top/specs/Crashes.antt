-- What a crash may leave of a database, in words of maps and transactions.
use Rattle.std.specs.Prelude.{◌≡◌, ◌⊎◌, ℕ, ◌-◌, ◌≤◌, true, List, None, length}
use Rattle.base_bytes.specs.OrderedMap.{Map}
use Rattle.base_bytes.specs.Transactions.{after_first}
use Rattle.base_devices.specs.CrashImages.{Image, DiskState, Shows, WhereRead, LeavesOnly}
use Rattle.base_devices.specs.HostCalls.{HostMoment, told_with}
use Rattle.base_notes.specs.declared.note.Note.{Note}
use Rattle.base_notes.specs.declared.note.Note.TheVariants.{Memory}
use Rattle.db_core.specs.Opening.{OpensTo}
use Rattle.db_core.specs.Sessions.{DbKind, DbState}
use Rattle.db_tool.specs.Tasks.{KeepsPrefix}
use Rattle.db_tool.specs.ToolNotes.{IsFault, IsCutOff}
use Rattle.cyr_top.specs.Asked.{Asked, task_for}
use Rattle.cyr_top.specs.Stated.{StatedResult, made_session}
use Rattle.cyr_top.specs.Actions.{DoesAction}

-- Each image that a crash now may leave opens to this map, and a later opening does not find it too big.
pub record EachOpens (kind : DbKind) (s : DiskState) (m : Map) : Type 0 where
  pub each : (c : Image) → s.leaves c → kind.opens c m

-- A run starts from this session: each image opens to its map, or the file is absent in each and is to be made.
pub data StartsAt (asked : Asked) (d : DiskState) (s : DbState) : Type 0 where
  opened : EachOpens asked.kind d s.committed → WhereRead d (λ main. OpensTo asked.kind main s) → StartsAt asked d s
  to_make : asked.make ≡ true → ((c : Image) → d.leaves c → c ≡ None) → s ≡ made_session asked → StartsAt asked d s

-- the file that is to be made is absent, before a byte was printed
pub record IsNotMade (asked : Asked) (printed : ℕ) (c : Image) : Type 0 where
  pub make : asked.make ≡ true
  pub absent : c ≡ None
  pub silent : printed ≡ 0

-- Wherever the run stops, the image opens to the map after a prefix of the committed transactions that holds every acknowledged
-- one, none in part; or the file that is to be made is not there yet.
abbrev pub LeavesPrefixes : Asked → DbState → DiskState → DiskState → Type 0
LeavesPrefixes asked s d e =
    LeavesOnly d e (λ c n. KeepsPrefix asked.kind (task_for asked s) s.committed (n - d.mark) c ⊎ IsNotMade asked (n - d.mark) c)

-- At an end without a fault of a device so many transactions stand in each image: all of them, unless memory ran out.
pub record LeavesAtEnd (asked : Asked) (s : DbState) (d e : DiskState) (note : Note) : Type 0 where
  pub count : ℕ
  pub within : count ≤ length (task_for asked s).transactions
  pub whole : (note ≡ Memory → ⊥) → count ≡ length (task_for asked s).transactions
  pub memory : note ≡ Memory → (task_for asked s).may_stand (e.mark - d.mark) count
  pub each : (c : Image) → e.leaves c → asked.kind.opens c (after_first count s.committed (task_for asked s).transactions)
      ⊎ ((asked.make ≡ true) × (c ≡ None) × (note ≡ Memory))

-- All that is promised of an action: wherever it stops, at its end, and of its note and output.
pub record KeepsPromises (asked : Asked) (old new : HostMoment) (note : Note) : Type 0 where
  pub crash : (s : DbState) → StartsAt asked old.disk s → LeavesPrefixes asked s old.disk new.disk
  pub end : (s : DbState) → Shows old.disk → (IsFault note → ⊥) → StartsAt asked old.disk s → LeavesAtEnd asked s old.disk new.disk note
  pub exactly : WhereRead old.disk (λ main. (wanted : Note) (output : List ℕ) → StatedResult asked main wanted output
      → IsCutOff note ⊎ ((note ≡ wanted) × (new.streams.told ≡ told_with old.streams.told output)))
  pub does : DoesAction asked old new note
