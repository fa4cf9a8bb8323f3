-- The record of calls that a disk in memory keeps.
use Rattle.std.specs.Prelude.{◌≡◌, ℕ, ◌+◌, ◌-◌, ◌*◌, ◌^◌, ◌<◌, ◌≤◌, ◌⊎◌, min, Bool, IsTrue, List, [], ◌∷◌, ◌++◌, length, vec_len, Option, Vec, Contains, Result, OnErr, OnOk}
use Rattle.std.specs.declared.alloc.Global.{Global}
use Rattle.base_devices.specs.Causes.{Rose}
use Rattle.mem_devices.specs.History.{Step, Moment, kept, output, step_of, steps_of, first_moment, start_image, moment_after}
use Rattle.mem_devices.specs.declared.call_log.CallLog.{CallLog}
use Rattle.mem_devices.specs.declared.call_log.Event.{Event}
use Rattle.mem_devices.specs.declared.call_log.Admission.{Admission}
use Rattle.mem_devices.specs.declared.call_log.Admission.TheVariants.{Served, Refused, NoRoom}

-- the past that the record shows
abbrev pub log_steps : CallLog → List Step
log_steps log = steps_of log.events.items log.bytes.items

-- what stands after the record, on a main file that a disk began with
abbrev pub last_moment : Option (Vec ℕ Global) → CallLog → Moment
last_moment start log = moment_after (first_moment (start_image start)) (log_steps log)

-- how many bytes of room remain
abbrev pub log_spare : CallLog → ℕ
log_spare log = log.room - (64 * vec_len log.events + vec_len log.bytes)

-- the number of the next call
abbrev pub log_next : CallLog → ℕ
log_next log = min (log.calls + 1) (2 ^ 64 - 1)

-- the next call is to fail by the list, or since the stop is met
abbrev pub IsRefused : CallLog → Bool → Type 0
IsRefused log is_stopped = Contains log.fails.items (log_next log) ⊎ IsTrue is_stopped

-- a record that is just begun
pub record IsNewLog (log : CallLog) (size : ℕ) (numbers : List ℕ) : Type 0 where
  pub steps : log_steps log ≡ []
  pub spare : log_spare log ≡ size
  pub room : log.room ≡ size
  pub fails : log.fails.items ≡ numbers
  pub calls : log.calls ≡ 0
  pub faults : log.faults ≡ 0

-- room and list stay
pub record KeepsBounds (old new : CallLog) : Type 0 where
  pub room : new.room ≡ old.room
  pub fails : new.fails.items ≡ old.fails.items

-- one failure is counted
pub record CountsFault (old new : CallLog) : Type 0 where
  pub later : old.faults ≤ new.faults
  pub rose : Rose old.faults new.faults

-- one step more, which takes so many bytes of room
pub record NotesStep (step : Step) (cost : ℕ) (old new : CallLog) : Type 0 where
  pub steps : log_steps new ≡ log_steps old ++ step ∷ []
  pub spare : log_spare new + cost ≡ log_spare old
  pub calls : new.calls ≡ old.calls
  pub faults : new.faults ≡ old.faults
  pub room : new.room ≡ old.room
  pub fails : new.fails.items ≡ old.fails.items

-- A call that is to be noted: whether it is to fail, the step that it makes where it is served, the one that it makes
-- where it fails, and the room that it takes.
pub record Asked : Type 1 where
  pub refused : Type 0
  pub done : Step
  pub failed : Step
  pub cost : ℕ

-- a call whose two events have these bytes for their own
abbrev pub asked_of : CallLog → Bool → Event → Event → List ℕ → Asked
asked_of log is_stopped done failed bytes = record {
  refused = IsRefused log is_stopped;
  done = step_of done bytes;
  failed = step_of failed bytes;
  cost = 64 + length bytes;
}

-- a print of so many bytes, of which none is printed where it fails
abbrev pub print_asked : Bool → ℕ → Asked
print_asked is_refused count = record {
  refused = IsTrue is_refused;
  done = output count;
  failed = output 0;
  cost = 64;
}

-- a call that is served: its step is noted
pub record ServesCall (asked : Asked) (old new : CallLog) : Type 0 where
  pub steps : log_steps new ≡ log_steps old ++ asked.done ∷ []
  pub spare : log_spare new + asked.cost ≡ log_spare old
  pub admitted : asked.refused → ⊥
  pub faults : new.faults ≡ old.faults

-- a call that fails by the list or the stop: its step is noted too
pub record FailsCall (asked : Asked) (old new : CallLog) : Type 0 where
  pub steps : log_steps new ≡ log_steps old ++ asked.failed ∷ []
  pub spare : log_spare new + asked.cost ≡ log_spare old
  pub cause : asked.refused
  pub fault : CountsFault old new

-- a call that finds no room: nothing is noted
pub record LacksRoom (asked : Asked) (old new : CallLog) : Type 0 where
  pub steps : log_steps new ≡ log_steps old
  pub spare : log_spare new ≡ log_spare old
  pub lacks : log_spare old < asked.cost
  pub fault : CountsFault old new

-- what a call notes and takes, by what becomes of it
abbrev pub NotesCall : Asked → CallLog → CallLog → Admission → Type 0
NotesCall asked old new Served = ServesCall asked old new
NotesCall asked old new Refused = FailsCall asked old new
NotesCall asked old new NoRoom = LacksRoom asked old new

-- a call that only reads: it notes nothing
pub record NotesNoRead {T E : Type 0} (old new : CallLog) (result : Result T E) : Type 0 where
  pub steps : log_steps new ≡ log_steps old
  pub spare : log_spare new ≡ log_spare old
  pub served : OnOk result (new.faults ≡ old.faults)
  pub fault : OnErr result (CountsFault old new)

-- a call after the stop: it takes its room where there is so much, and does nothing
pub record NotesStopped (old new : CallLog) : Type 0 where
  pub steps : (log_steps new ≡ log_steps old ++ kept ∷ []) ⊎ (log_steps new ≡ log_steps old)
  pub covered : 64 ≤ log_spare old → log_spare new + 64 ≡ log_spare old
  pub lacking : log_spare old < 64 → log_spare new ≡ log_spare old
  pub fault : CountsFault old new

-- a call that makes one landing, where so many are pending, and that finds no room for one more, or the stop: it takes its
-- room where there is so much of both, and does nothing
pub record TurnsAway (pending : ℕ) (old new : CallLog) : Type 0 where
  pub steps : (log_steps new ≡ log_steps old ++ kept ∷ []) ⊎ (log_steps new ≡ log_steps old)
  pub covered : 64 ≤ log_spare old → 64 * (pending + 1) ≤ old.room → log_spare new + 64 ≡ log_spare old
  pub lacking : log_spare old < 64 → log_spare new ≡ log_spare old
  pub full : old.room < 64 * (pending + 1) → log_spare new ≡ log_spare old
  pub fault : CountsFault old new

-- one failure is counted, and nothing is noted
pub record OnlyCountsFault (old new : CallLog) : Type 0 where
  pub steps : log_steps new ≡ log_steps old
  pub spare : log_spare new ≡ log_spare old
  pub fault : CountsFault old new
