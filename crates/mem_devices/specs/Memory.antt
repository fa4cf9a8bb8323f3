-- A disk in memory as its trait sees it, and when its calls fail.
use Rattle.std.specs.Prelude.{◌≡◌, ◌⊎◌, ◌↔◌, ℕ, ◌+◌, ◌-◌, ◌<◌, ◌≤◌, ◌^◌, ◌*◌, min, max, List, Option, Some, None, Result, OnOk, OnErr, Contains, length, take}
use Rattle.std.proofs.Common.{inl, refl}
use Rattle.base_devices.specs.CrashImages.{Image, Fresh, DiskState, IsMoment, GoesOn, LeavesOnly, IsDurable}
use Rattle.base_devices.specs.DiskCalls.{OnFile, new_image}
use Rattle.base_bytes.specs.Landing.{Lands, Shortens}
use Rattle.base_devices.specs.Frames.{KeepsFiles}
use Rattle.base_devices.specs.Time.{goes_same, goes_then}
use Rattle.mem_devices.specs.Past.{LeftSince, past_now, past_counts, past_earlier}
use Rattle.mem_devices.specs.History.{Step, Moment, landing_count, moment_step, first_moment, moment_after, IsImage, mark_of, start_image, fresh_of}
use Rattle.mem_devices.specs.Landings.{line_count_of, first_bytes_of, landings_before, PassesStop}
use Rattle.mem_devices.specs.CallLog.{log_steps, log_spare, log_next, last_moment}
use Rattle.mem_devices.specs.declared.memory.MemDisk.{MemDisk}

-- a disk by what it began with, its steps, its new file and its counts
abbrev pub state_of : Moment → List Step → Option Fresh → ℕ → ℕ → ℕ → DiskState
state_of start steps fresh faults written publishes =
    let now : Moment = moment_after start steps in
    record {
      reads = Some now.reads;
      leaves = λ c. IsImage now c;
      clock = length steps;
      mark = now.mark;
      left_since = LeftSince moment_step IsImage mark_of start steps;
      fresh = fresh;
      faults = faults;
      written = written;
      publishes = publishes;
    }

-- what the disk reads, may leave and counts
abbrev pub mem_state : MemDisk → DiskState
mem_state d =
    state_of (first_moment (start_image d.start)) (log_steps d.log) (fresh_of d.new_file d.new_bytes.items)
    d.log.faults d.written d.publishes

-- what stands now
abbrev pub now_of : MemDisk → Moment
now_of d = last_moment d.start d.log

-- the laws of each state
pub mem_moment : (d : MemDisk) → IsMoment (mem_state d)
mem_moment d =
    let start = first_moment (start_image d.start) in
    record {
      now = λ c n left. past_now moment_step IsImage mark_of start (log_steps d.log) c n left;
      counts_now = λ c left. past_counts moment_step IsImage mark_of start (log_steps d.log) c left;
      earlier = λ t u c n le _ left. past_earlier moment_step IsImage mark_of start (log_steps d.log) t u c n le left;
      reads_left = λ c is. inl (cc);
      tells = λ t c n left. refl;
    }

-- the numbers of the calls that are to fail, where the first call has number 1
abbrev pub fail_list : MemDisk → List ℕ
fail_list d = d.log.fails.items

-- the number of the next call
abbrev pub next_call : MemDisk → ℕ
next_call d = log_next d.log

-- how many bytes the record of calls has room for in all
abbrev pub record_room : MemDisk → ℕ
record_room d = d.log.room

-- how many bytes of it remain
abbrev pub record_spare : MemDisk → ℕ
record_spare d = log_spare d.log

-- how many landings were made
abbrev pub landings_made : MemDisk → ℕ
landings_made d = (now_of d).landings

-- how many of them are not on the disk for sure
abbrev pub landings_pending : MemDisk → ℕ
landings_pending d = landing_count (now_of d).pending

-- after how many landings every call fails, where that is set
abbrev pub stop_of : MemDisk → Option ℕ
stop_of d = d.landings.stop

-- A disk of which no call was made: it holds this main file, all of it synced, has room for so many bytes, and no stop.
pub record IsNewDisk (d : MemDisk) (image : Image) (size : ℕ) : Type 0 where
  pub reads : (mem_state d).reads ≡ Some image
  pub durable : IsDurable (mem_state d)
  pub leaves : (mem_state d).leaves image
  pub clock : (mem_state d).clock ≡ 0
  pub mark : (mem_state d).mark ≡ 0
  pub fresh : (mem_state d).fresh ≡ None
  pub faults : (mem_state d).faults ≡ 0
  pub written : (mem_state d).written ≡ 0
  pub publishes : (mem_state d).publishes ≡ 0
  pub next : next_call d ≡ 1
  pub room : record_room d ≡ size
  pub spare : record_spare d ≡ size
  pub made : landings_made d ≡ 0
  pub pending : landings_pending d ≡ 0
  pub stop : stop_of d ≡ None

-- the stop is met, or so many further landings pass it
abbrev pub IsStopped : MemDisk → ℕ → Type 0
IsStopped d count = PassesStop (stop_of d) (landings_made d + max 1 count)

-- the next call is to fail by the list, or by the stop where it makes so many landings
abbrev pub IsRefused : MemDisk → ℕ → Type 0
IsRefused d count = Contains (fail_list d) (next_call d) ⊎ IsStopped d count

-- the next call, which makes no landing, is to fail, or the record has no room for it
abbrev pub CannotServe : MemDisk → ℕ → Type 0
CannotServe d cost = IsRefused d 0 ⊎ (record_spare d < cost)

-- the record has room for a call, and what is pending for one landing
pub record HasLandingRoom (d : MemDisk) : Type 0 where
  pub recorded : 64 ≤ record_spare d
  pub pends : 64 * (landings_pending d + 1) ≤ record_room d

-- the next call, which makes one landing, is to fail, or there is no room for it
abbrev pub CannotLand : MemDisk → Type 0
CannotLand d = IsRefused d 1 ⊎ (HasLandingRoom d → ⊥)

-- the record has room for a write and its bytes, the main file for the bytes, and what is pending for each line
pub record HasWriteRoom (d : MemDisk) (at size : ℕ) : Type 0 where
  pub recorded : 64 + size ≤ record_spare d
  pub inside : at + size ≤ record_room d
  pub pends : 64 * (landings_pending d + line_count_of at size) ≤ record_room d

-- the next call, a write of so many bytes, is to fail, or there is no room for it
abbrev pub CannotWrite : MemDisk → ℕ → ℕ → Type 0
CannotWrite d at size = IsRefused d (line_count_of at size) ⊎ (HasWriteRoom d at size → ⊥)

-- a call with room makes its landings, so many, up to the stop
pub record MakesLandings (old new : MemDisk) (fits : Type 0) (count : ℕ) : Type 0 where
  pub covered : fits
      → landings_made new ≡ landings_made old + landings_before (stop_of old) (landings_made old) count
  pub lacking : (fits → ⊥) → landings_made new ≡ landings_made old

-- room of the record is taken where there is room for the call, and none otherwise
pub record TakesRoom (old new : MemDisk) (fits : Type 0) (cost : ℕ) : Type 0 where
  pub covered : fits → record_spare new + cost ≡ record_spare old
  pub lacking : (fits → ⊥) → record_spare new ≡ record_spare old

-- a call has its number and takes its room
pub record CountsCall (old new : MemDisk) (fits : Type 0) (cost : ℕ) : Type 0 where
  pub next : next_call new ≡ min (next_call old + 1) (2 ^ 64 - 1)
  pub takes : TakesRoom old new fits cost

-- what every step keeps of a disk in memory
pub record MemRest (old new : MemDisk) : Type 0 where
  pub time : GoesOn (mem_state old) (mem_state new)
  pub fails : fail_list new ≡ fail_list old
  pub room : record_room new ≡ record_room old
  pub stop : stop_of new ≡ stop_of old

-- A call that failed, and may have changed the file. It reads as before. A crash leaves what it could leave before, and,
-- where there was room for the call, what that call makes of it; and nothing else.
pub record Pends (old new : MemDisk) (fits : Type 0) (makes : Image → Image → Type 0) : Type 0 where
  pub reads : (mem_state new).reads ≡ (mem_state old).reads
  pub keeps : (c : Image) → (mem_state old).leaves c → (mem_state new).leaves c
  pub adds : fits → (b c : Image) → (mem_state old).leaves b → makes b c → (mem_state new).leaves c
  pub only : (c : Image) → (mem_state new).leaves c
      → (mem_state old).leaves c ⊎ ((b : Image) × (mem_state old).leaves b × makes b c)

-- how many of a write's bytes lie in lines before the stop
abbrev pub bytes_before_stop : MemDisk → ℕ → ℕ → ℕ
bytes_before_stop d at size =
    first_bytes_of at size (landings_before (stop_of d) (landings_made d) (line_count_of at size))

-- some bytes of the write are before the stop, and land
abbrev pub MakesLines : MemDisk → ℕ → List ℕ → Image → Image → Type 0
MakesLines d at bytes b c =
    let made = bytes_before_stop d at (length bytes) in
    (0 < made) × OnFile (λ was is. Lands was at (take made bytes) is) b c

-- a failed write
abbrev pub WritePends : MemDisk → MemDisk → ℕ → List ℕ → Type 0
WritePends old new at bytes = Pends old new (HasWriteRoom old at (length bytes)) (MakesLines old at bytes)

-- a failed cut
abbrev pub CutPends : MemDisk → MemDisk → ℕ → Type 0
CutPends old new to =
    Pends old new (HasLandingRoom old)
    (λ b c. (IsStopped old 1 → ⊥) × OnFile (λ was is. Shortens was to is) b c)

-- a failed publish
abbrev pub PublishPends : MemDisk → MemDisk → Type 0
PublishPends old new =
    Pends old new (HasLandingRoom old)
    (λ b c. (IsStopped old 1 → ⊥) × (new_image (mem_state old).fresh ≡ Some c))

-- all but the stop is as before
pub record SameButStop (old new : MemDisk) : Type 0 where
  pub now : now_of new ≡ now_of old
  pub time : (mem_state new).clock ≡ (mem_state old).clock
  pub left_since : (t : ℕ) (c : Image) (n : ℕ)
      → (mem_state new).left_since t c n ↔ (mem_state old).left_since t c n
  pub fresh : (mem_state new).fresh ≡ (mem_state old).fresh
  pub faults : (mem_state new).faults ≡ (mem_state old).faults
  pub written : (mem_state new).written ≡ (mem_state old).written
  pub publishes : (mem_state new).publishes ≡ (mem_state old).publishes
  pub fails : fail_list new ≡ fail_list old
  pub next : next_call new ≡ next_call old
  pub room : record_room new ≡ record_room old
  pub spare : record_spare new ≡ record_spare old

-- a print of the host around the disk: the mark moves on, and a crash in the call leaves one of the two marks
pub record NotesPrint {T E : Type 0} (old new : MemDisk) (count : ℕ) (result : Result T E) : Type 0 where
  pub ok : OnOk result ((mem_state new).mark ≡ (mem_state old).mark + count)
  pub err : OnErr result ((mem_state new).mark ≡ (mem_state old).mark)
  pub each : LeavesOnly (mem_state old) (mem_state new)
      (λ c n. (mem_state old).leaves c × ((mem_state old).mark ≤ n) × (n ≤ (mem_state new).mark))
  pub stands : (mem_state new).clock ≡ (mem_state old).clock → (mem_state new).mark ≡ (mem_state old).mark
  pub keeps : KeepsFiles (mem_state old) (mem_state new)
  pub next : next_call new ≡ next_call old
  pub rest : MemRest old new

-- what steps keep of a disk passes on from step to step
pub mem_rest_same : (d : MemDisk) → MemRest d d
mem_rest_same d = record { time = goes_same (mem_state d); fails = refl; room = refl; stop = refl }

pub mem_rest_then : (a b c : MemDisk) → MemRest a b → MemRest b c → MemRest a c
mem_rest_then a b c ab bc = record {
  time = goes_then (mem_state a) (mem_state b) (mem_state c) (mem_moment c) ab.time bc.time;
  fails = cc (ab.fails, bc.fails);
  room = cc (ab.room, bc.room);
  stop = cc (ab.stop, bc.stop);
}
