-- What is printed of a map, and how output is gathered and printed in pieces.
use Rattle.std.specs.Prelude.{◌≡◌, ℕ, ◌+◌, ◌≤◌, List, [], ◌∷◌, ◌++◌, Option, None, Some, Result, OnOk, IsSome, length}
use Rattle.base_bytes.specs.OrderedMap.{Map}
use Rattle.base_devices.specs.Causes.{HasCause}
use Rattle.base_devices.specs.CrashImages.{DiskState}
use Rattle.base_devices.specs.Frames.{OnlyPrints}
use Rattle.base_devices.specs.HostCalls.{HostState, HostMoment, moment, told_with}

-- ---- texts

-- a value is printed with a line feed behind it
abbrev pub value_line : Option (List ℕ) → List ℕ
value_line None = []
value_line (Some value) = value ++ (10 ∷ [])

-- a pair is printed as its key, TAB, its value and a line feed, byte for byte
abbrev pub pair_text : List ℕ × List ℕ → List ℕ
pair_text p = p.0 ++ (9 ∷ (p.1 ++ (10 ∷ [])))

abbrev pub shown : Map → List ℕ
shown [] = []
shown (p ∷ m) = pair_text p ++ shown m

-- ---- calls

-- These bytes were printed to standard output, and nothing else; the mark moved on by them.
pub record Printed (bytes : List ℕ) (old new : HostMoment) : Type 0 where
  pub told : new.streams.told ≡ told_with old.streams.told bytes
  pub warned : new.streams.warned ≡ old.streams.warned
  pub later : old.disk.mark ≤ new.disk.mark
  pub most : new.disk.mark ≤ old.disk.mark + length bytes
  pub marked : IsSome old.streams.told → new.disk.mark ≡ old.disk.mark + length bytes

-- a prefix of the output was printed
pub record PrintsSome (output : List ℕ) (old new : HostMoment) : Type 0 where
  pub printed : List ℕ
  pub unprinted : List ℕ
  pub whole : printed ++ unprinted ≡ output
  pub grew : Printed printed old new

-- a host at one moment, with bytes that are held back
pub record PrintMoment : Type 1 where
  pub held : List ℕ
  pub host : HostMoment

abbrev pub holding : List ℕ → DiskState → HostState → PrintMoment
holding held disk streams = record { held = held; host = moment disk streams }

-- Of what was held and these bytes a prefix was printed, and after Ok the others are held.
pub record Prints {T E : Type 0} (bytes : List ℕ) (old new : PrintMoment) (result : Result T E) : Type 0 where
  pub some : PrintsSome (old.held ++ bytes) old.host new.host
  pub rest : OnOk result (new.held ≡ some.unprinted)
  pub disk : OnlyPrints old.host.disk new.host.disk
  pub cause : HasCause old.host.disk.faults new.host.disk.faults result

-- Output was printed in full, or a prefix of it before the host failed.
pub record PrintsAll {T E : Type 0} (output : List ℕ) (old new : HostMoment) (result : Result T E) : Type 0 where
  pub some : PrintsSome output old new
  pub all : OnOk result (Printed output old new)
  pub disk : OnlyPrints old.disk new.disk
  pub cause : HasCause old.disk.faults new.disk.faults result
