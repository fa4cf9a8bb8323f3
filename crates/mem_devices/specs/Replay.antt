-- A replay of a record of calls, and what it shows.
use Rattle.std.specs.Prelude.{◌≡◌, ℕ, Bool, List, drop}
use Rattle.base_devices.specs.CrashImages.{Image}
use Rattle.mem_devices.specs.History.{Moment, landing_count, image_of}
use Rattle.mem_devices.specs.Left.{with_changes}
use Rattle.mem_devices.specs.declared.replay.Replay.{Replay}

-- the main file as it reads
abbrev pub main_of : Replay → Image
main_of r = image_of r.has_main r.main.items

-- the main file as a stop leaves it
abbrev pub left_of : Replay → Image
left_of r = image_of r.has_left r.left.items

-- what is read, the new file and the room stay
pub record SameMain (old new : Replay) : Type 0 where
  pub main : main_of new ≡ main_of old
  pub new_bytes : new.new_bytes.items ≡ old.new_bytes.items
  pub room : new.room ≡ old.room

-- what a stop leaves, the new file, the room and the place in the list stay
pub record SameLeft (old new : Replay) : Type 0 where
  pub left : left_of new ≡ left_of old
  pub new_bytes : new.new_bytes.items ≡ old.new_bytes.items
  pub used : new.used ≡ old.used
  pub room : new.room ≡ old.room

-- so many further entries of the list are used up
abbrev pub UsesUp : List Bool → ℕ → Replay → Replay → Type 0
UsesUp landed count old new = drop new.used landed ≡ drop count (drop old.used landed)

-- The replay stands at this moment: what the main file reads, what a stop leaves of it where just the listed landings
-- landed, the new file, and how much of the list is used up.
pub record ShowsMoment (landed : List Bool) (r : Replay) (m : Moment) : Type 0 where
  pub reads : main_of r ≡ m.reads
  pub left : left_of r ≡ with_changes m.base m.pending landed
  pub new_bytes : r.new_bytes.items ≡ m.new_bytes
  pub ahead : drop r.used landed ≡ drop (landing_count m.pending) landed
