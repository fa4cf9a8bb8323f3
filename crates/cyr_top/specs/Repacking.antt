-- A repack as a run does it: what the words ask for, its stated note, and what is left of the file.
use Rattle.std.specs.Prelude.{◌≡◌, ◌⊎◌, ℕ, Bool, true, false, List, Option, Some, None, IsSome, length}
use Rattle.base_bytes.specs.OrderedMap.{Map}
use Rattle.base_devices.specs.CrashImages.{DiskState, Image, IsAbsent, IsDurable, LeavesOnly, Reads, WhereRead}
use Rattle.base_devices.specs.Frames.{KeepsFile}
use Rattle.base_notes.specs.declared.note.Device.TheVariants.{Host}
use Rattle.base_notes.specs.declared.note.Note.{Note}
use Rattle.base_notes.specs.declared.note.Note.TheVariants.{Done, Usage}
use Rattle.db_core.specs.Refusals.{size_refusal}
use Rattle.db_core.specs.declared.fault.DbFault.{DbFault}
use Rattle.db_core.specs.declared.opening.OpenFault.{OpenFault}
use Rattle.db_repack.specs.Repacking.{RepackKind}
use Rattle.db_tool.specs.ToolNotes.{Faults, IsCutOff, IsFault, change_note, opening_note}
use Rattle.tool_words.specs.declared.jobs.Job.{Job}
use Rattle.tool_words.specs.declared.jobs.Job.TheVariants.{Dbtool}
use Rattle.cyr_top.specs.Asked.{IfRepack, built_job_of, repack_of}
use Rattle.cyr_top.specs.Converting.{DoesNotOpen}
use Rattle.cyr_top.specs.Stated.{IsBuilt}

-- ---- what is asked for

-- a kind of file that is repacked, and whether it is made where it is absent
pub record AskedRepack : Type 1 where
  pub repack : RepackKind
  pub make : Bool

abbrev pub repacking : RepackKind → Bool → AskedRepack
repacking repack make = record { repack = repack; make = make }

-- P holds of a job that repacks a file
abbrev pub OnRepack : (AskedRepack → Type 0) → Job → Type 0
OnRepack P (Dbtool make file backend action) = IfRepack action (P (repacking (repack_of backend) make))
OnRepack P job = Unit {0}

-- P holds of the repack that the words ask for
abbrev pub WhereRepacking : List (List ℕ) → (AskedRepack → Type 0) → Type 0
WhereRepacking words P = (job : Job) → built_job_of words ≡ Some job → OnRepack P job

-- ---- the file that is repacked

abbrev pub or_empty : List ℕ → Image → Image
or_empty empty None = Some empty
or_empty empty (Some bytes) = Some bytes

-- the main file, or the empty one where it is absent and to be made
abbrev pub found : Bool → List ℕ → Image → Image
found true empty main = or_empty empty main
found false empty main = main

abbrev pub WhereFound : AskedRepack → DiskState → (Image → Type 0) → Type 0
WhereFound asked d P = WhereRead d (λ main. P (found asked.make asked.repack.kind.empty main))

-- ---- how it ends

abbrev pub repacked_note : Option DbFault → Note
repacked_note None = Done
repacked_note (Some fault) = change_note Host fault

-- The stated note, by the file that is repacked: it must open, and the file that takes its place must not be too big.
pub data StatedRepack (repack : RepackKind) (main : Image) (note : Note) : Type 0 where
  opened : (file made : List ℕ) (m : Map) → main ≡ Some file → repack.kind.opens main m → repack.repacked file made → note ≡ repacked_note (size_refusal repack.kind (length made)) → StatedRepack repack main note
  unopened : (fault : OpenFault) → DoesNotOpen repack.kind main fault → note ≡ opening_note Host fault → StatedRepack repack main note

-- ---- what is left

-- the image opens to the map of the file that is repacked
pub record HasFoundMap (asked : AskedRepack) (d : DiskState) (c : Image) : Type 0 where
  pub main : Image
  pub read : d.reads ≡ Some main
  pub map : Map
  pub opens : asked.repack.kind.opens (found asked.make asked.repack.kind.empty main) map
  pub same : asked.repack.kind.opens c map

-- The file is the one that takes the place of the one that was found, and a crash leaves nothing else.
pub record IsRewritten (asked : AskedRepack) (old new : DiskState) : Type 0 where
  pub made : List ℕ
  pub of_found : WhereFound asked old (λ main. (file : List ℕ) × (main ≡ Some file) × asked.repack.repacked file made)
  pub reads : IsSome old.reads → Reads new made
  pub durable : IsDurable new

-- A repack ran over a disk, and ended with a note.
pub record DoesRepack (asked : AskedRepack) (old new : DiskState) (note : Note) : Type 0 where
  pub rewritten : note ≡ Done → IsRewritten asked old new
  -- wherever it stops, the file is one that could be left before, or has the map that was found
  pub each : LeavesOnly old new (λ c n. (n ≡ old.mark) × (old.leaves c ⊎ HasFoundMap asked old c))
  pub mark : new.mark ≡ old.mark
  -- a file that does not open stays, and so does one that needs no repair where the new one would be too big
  pub unopened : (IsFault note → ⊥) → WhereFound asked old (λ main. (fault : OpenFault) → DoesNotOpen asked.repack.kind main fault → KeepsFile old new)
  pub kept : (IsFault note → ⊥) → (note ≡ Done → ⊥) → (bytes : List ℕ) → Reads old bytes → asked.repack.kind.is_settled bytes → KeepsFile old new
  -- unless it was cut off, the note is the stated one, and no other is
  pub stated : WhereFound asked old (λ main. IsCutOff note ⊎ StatedRepack asked.repack main note)
  pub exactly : WhereFound asked old (λ main. (wanted : Note) → StatedRepack asked.repack main wanted → IsCutOff note ⊎ (note ≡ wanted))
  -- a file that is to be made is there at the end, unless the repack was cut off
  pub made : asked.make ≡ true → IsAbsent old → IsCutOff note ⊎ (new.leaves None → ⊥)
  -- the host failed exactly where the note says so
  pub faults : Faults Host note old.faults new.faults
  pub built : IsBuilt note
  pub no_usage : note ≡ Usage → ⊥
