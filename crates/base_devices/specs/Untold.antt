-- A disk whose contents are not told.
use Rattle.std.specs.Prelude.{ℕ, None}
use Rattle.base_devices.specs.CrashImages.{DiskState, IsMoment}

-- It tells how often it failed, how much was written and how often it published.
abbrev pub counts_only : (faults written publishes : ℕ) → DiskState
counts_only faults written publishes = record {
  reads = None;
  leaves = λ _. ⊥;
  clock = 0;
  mark = 0;
  left_since = λ _ _ _. ⊥;
  fresh = None;
  faults = faults;
  written = written;
  publishes = publishes;
}

pub counts_moment : (faults written publishes : ℕ) → IsMoment (counts_only faults written publishes)
counts_moment faults written publishes = record {
  now = λ c n left. absurd left;
  counts_now = λ c left. left;
  earlier = λ t u c n _ _ left. left;
  reads_left = λ c is. cc;
  tells = λ t c n left. absurd left;
}
