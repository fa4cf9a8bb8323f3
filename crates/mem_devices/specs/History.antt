-- What the past of a disk in memory did to its main file.
use Rattle.std.specs.Prelude.{◌≡◌, ◌⊎◌, ℕ, ◌+◌, ◌≤◌, nat_le, ◌&&◌, Bool, true, false, List, [], ◌∷◌, ◌++◌, Option, Some, None, Vec, length, take, drop}
use Rattle.std.specs.Option.{option_map}
use Rattle.std.specs.Borrow.{Bor}
use Rattle.std.specs.declared.alloc.Global.{Global}
use Rattle.base_devices.specs.CrashImages.{Image, Fresh}
use Rattle.base_devices.specs.DiskCalls.{OnFile}
use Rattle.base_bytes.specs.Landing.{written_at, Lands, Shortens}
use Rattle.mem_devices.specs.Landings.{line_count_of}
use Rattle.mem_devices.specs.Past.{after}
use Rattle.mem_devices.specs.declared.call_log.Event.{Event}
use Rattle.mem_devices.specs.declared.call_log.Event.TheVariants.{Kept, Began, Appended, Wrote, WritePending, Cut, CutPending, Synced, Published, PublishPending, Printed}
use Rattle.mem_devices.specs.declared.memory.NewFile.{NewFile}
use Rattle.mem_devices.specs.declared.memory.NewFile.TheVariants.{Absent, Begun, Whole}

-- one step of the past
pub data Step : Type 0 where
  kept : Step
  new_begun : Step
  new_extended : List ℕ → Step
  main_written : ℕ → List ℕ → Step
  write_pending : ℕ → List ℕ → Step
  main_cut : ℕ → Step
  cut_pending : ℕ → Step
  main_synced : Step
  new_published : Step
  publish_pending : Step
  output : ℕ → Step

-- how many bytes of the record are the event's own
abbrev pub size_of : Event → ℕ
size_of (Appended count) = count
size_of (Wrote at count) = count
size_of (WritePending at count made) = count
size_of _ = 0

-- what an event writes lies within so many bytes
abbrev pub is_within : ℕ → Event → Bool
is_within room (Wrote at size) = nat_le (at + size) room
is_within room (WritePending at size made) = nat_le (at + size) room && nat_le made size
is_within room _ = true

-- how many bytes of the record these events have for their own
abbrev pub total_size : List Event → ℕ
total_size [] = 0
total_size (e ∷ events) = size_of e + total_size events

-- the step that an event stands for, where these bytes begin with its own
abbrev pub step_of : Event → List ℕ → Step
step_of Kept bytes = kept
step_of Began bytes = new_begun
step_of (Appended count) bytes = new_extended (take count bytes)
step_of (Wrote at count) bytes = main_written at (take count bytes)
step_of (WritePending at count made) bytes = write_pending at (take made (take count bytes))
step_of (Cut to) bytes = main_cut to
step_of (CutPending to) bytes = cut_pending to
step_of Synced bytes = main_synced
step_of Published bytes = new_published
step_of PublishPending bytes = publish_pending
step_of (Printed count) bytes = output count

-- the steps of events whose bytes lie one after another
abbrev pub steps_of : List Event → List ℕ → List Step
steps_of [] bytes = []
steps_of (e ∷ events) bytes = step_of e bytes ∷ steps_of events (drop (size_of e) bytes)

-- a change of the main file that is not on the disk for sure
pub data Change : Type 0 where
  laid : ℕ → List ℕ → Change
  shortened : ℕ → Change
  replaced : List ℕ → Change

-- how many landings a change has: each line of a write, and one for a cut or a new file
abbrev pub landings_of : Change → ℕ
landings_of (laid at bytes) = line_count_of at (length bytes)
landings_of (shortened to) = 1
landings_of (replaced bytes) = 1

-- how many landings these changes have
abbrev pub landing_count : List Change → ℕ
landing_count [] = 0
landing_count (change ∷ changes) = landing_count changes + landings_of change

-- What stands after some steps: what the main file reads, what was last on the disk for sure, the changes since, the
-- newest first, the landings made, the bytes printed, and what the new file holds.
pub record Moment : Type 0 where
  pub reads : Image
  pub base : Image
  pub pending : List Change
  pub landings : ℕ
  pub mark : ℕ
  pub new_bytes : List ℕ

-- at first this image is on the disk, nothing has landed since, and nothing was printed
abbrev pub first_moment : Image → Moment
first_moment image = record {
  reads = image;
  base = image;
  pending = [];
  landings = 0;
  mark = 0;
  new_bytes = [];
}

-- a write is pending, unless it has no bytes
abbrev pub with_write : ℕ → List ℕ → List Change → List Change
with_write at [] pending = pending
with_write at (b ∷ bytes) pending = laid at (b ∷ bytes) ∷ pending

-- what one step changes
abbrev pub moment_step : Moment → Step → Moment
moment_step m kept = m
moment_step m new_begun = record m { new_bytes = [] }
moment_step m (new_extended bytes) = record m { new_bytes = m.new_bytes ++ bytes }
moment_step m (main_written at bytes) = record m {
  reads = option_map (written_at at bytes) m.reads;
  pending = with_write at bytes m.pending;
  landings = m.landings + line_count_of at (length bytes);
}
moment_step m (write_pending at bytes) = record m {
  pending = with_write at bytes m.pending;
  landings = m.landings + line_count_of at (length bytes);
}
moment_step m (main_cut to) = record m {
  reads = option_map (λ b. take to b) m.reads;
  pending = shortened to ∷ m.pending;
  landings = m.landings + 1;
}
moment_step m (cut_pending to) = record m { pending = shortened to ∷ m.pending; landings = m.landings + 1 }
moment_step m main_synced = record m { base = m.reads; pending = [] }
moment_step m new_published = record m {
  reads = Some m.new_bytes;
  base = Some m.new_bytes;
  pending = [];
  landings = m.landings + 1;
  new_bytes = [];
}
moment_step m publish_pending = record m {
  pending = replaced m.new_bytes ∷ m.pending;
  landings = m.landings + 1;
}
moment_step m (output count) = record m { mark = m.mark + count }

-- a change landed, whole, in part or not at all
abbrev pub Happens : Change → Image → Image → Type 0
Happens (laid at bytes) before now = OnFile (λ b c. Lands b at bytes c) before now
Happens (shortened to) before now = OnFile (λ b c. Shortens b to c) before now
Happens (replaced bytes) before now = (now ≡ before) ⊎ (now ≡ Some bytes)

-- an image on the disk for sure, with what landed of the changes since
abbrev pub LeftBy : Image → List Change → Image → Type 0
LeftBy base [] c = c ≡ base
LeftBy base (change ∷ pending) c = (d : Image) × LeftBy base pending d × Happens change d c

-- what a crash may leave: what is read, or an image on the disk for sure with what landed of the changes since
abbrev pub IsImage : Moment → Image → Type 0
IsImage m c = (c ≡ m.reads) ⊎ LeftBy m.base m.pending c

-- the bytes printed by a moment
abbrev pub mark_of : Moment → ℕ
mark_of m = m.mark

-- what stands after all these steps
abbrev pub moment_after : Moment → List Step → Moment
moment_after start steps = after moment_step IsImage mark_of start steps

-- the main file of a buffer that may stand for none
abbrev pub image_of : Bool → List ℕ → Image
image_of true bytes = Some bytes
image_of false bytes = None

-- the main file that a disk began with
abbrev pub start_image : Option (Vec ℕ Global) → Image
start_image None = None
start_image (Some bytes) = Some bytes.items

-- how many bytes it has
abbrev pub image_size : Image → ℕ
image_size None = 0
image_size (Some bytes) = length bytes

-- the main file that a caller gives or reads
abbrev pub given_image : Option (Bor (List ℕ)) → Image
given_image None = None
given_image (Some bytes) = Some bytes.now

-- a main file that is given has at most so many bytes
abbrev pub FitsIn : ℕ → Option (Bor (List ℕ)) → Type 0
FitsIn room None = Unit {0}
FitsIn room (Some bytes) = length bytes.now ≤ room

-- the new file as the disk's state has it
abbrev pub fresh_of : NewFile → List ℕ → Option Fresh
fresh_of Absent bytes = None
fresh_of Begun bytes = Some (record { bytes = bytes; is_synced = false })
fresh_of Whole bytes = Some (record { bytes = bytes; is_synced = true })
