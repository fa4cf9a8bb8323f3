-- What the calls of a host do besides those of its disk.
use Rattle.std.specs.Option.{option_map}
use Rattle.std.specs.Prelude.{◌≡◌, ℕ, ◌+◌, ◌≤◌, List, ◌++◌, Option, Result, OnOk, IsSome, length}
use Rattle.base_devices.specs.CrashImages.{DiskState, LeavesOnly}

-- what was printed, and how often that failed
pub record HostState : Type 0 where
  -- to standard output, where the host tells it
  pub told : Option (List ℕ)
  -- to standard error, where the host tells it
  pub warned : Option (List ℕ)
  pub tell_faults : ℕ

-- a host at one moment
pub record HostMoment : Type 1 where
  pub disk : DiskState
  pub streams : HostState

abbrev pub moment : DiskState → HostState → HostMoment
moment disk streams = record { disk = disk; streams = streams }

-- The mark moves on by the bytes told, and each pair that is added has an image that may be left and a mark from the old one to the new one.
pub record MovesMark {T E : Type 0} (told : Option (List ℕ)) (old new : DiskState) (bytes : List ℕ) (result : Result T E) : Type 0 where
  pub from : old.mark ≤ new.mark
  pub to : new.mark ≤ old.mark + length bytes
  pub whole : IsSome told → OnOk result (new.mark ≡ old.mark + length bytes)
  pub each : LeavesOnly old new (λ c n. old.leaves c × (old.mark ≤ n) × (n ≤ new.mark))
  -- the clock rises where the mark changes
  pub stands : new.clock ≡ old.clock → new.mark ≡ old.mark

-- these bytes join those printed before
abbrev pub told_with : Option (List ℕ) → List ℕ → Option (List ℕ)
told_with told bytes = option_map (λ (l : List ℕ). l ++ bytes) told
