-- What the real devices show: how often they failed and published, how much they wrote, and nothing of their contents.
use Rattle.std.specs.Prelude.{ℕ, ◌+◌, ◌-◌, ◌^◌, min, None}
use Rattle.base_devices.specs.CrashImages.{DiskState, IsMoment}
use Rattle.base_devices.specs.HostCalls.{HostState}
use Rattle.base_devices.specs.Untold.{counts_only, counts_moment}

-- how often a call of a real disk failed, how many bytes were passed to writes into its main file, and how often its
-- new file was to take the main file's place
pub record FileCounts : Type 0 where
  pub faults : ℕ
  pub written : ℕ
  pub publishes : ℕ

-- no call was made yet
abbrev pub no_calls : FileCounts
no_calls = record { faults = 0; written = 0; publishes = 0 }

-- the next count, which stands still at the greatest number of 64 bits
abbrev pub next_count : ℕ → ℕ
next_count count = min (count + 1) (2 ^ 64 - 1)

-- the count after so many more, which stands still at the same number
abbrev pub raised_by : ℕ → ℕ → ℕ
raised_by more count = min (count + more) (2 ^ 64 - 1)

-- A real disk shows its counts, and nothing of what it reads or may leave.
abbrev pub file_state : FileCounts → DiskState
file_state counts = counts_only counts.faults counts.written counts.publishes

pub file_moment : (counts : FileCounts) → IsMoment (file_state counts)
file_moment counts = counts_moment counts.faults counts.written counts.publishes

-- the counts of a real host: those of its disk, and how often a print failed
pub record HostCounts : Type 0 where
  pub disk : FileCounts
  pub tell_faults : ℕ

-- A real host shows nothing of what it printed.
abbrev pub file_streams : HostCounts → HostState
file_streams counts = record { told = None; warned = None; tell_faults = counts.tell_faults }
