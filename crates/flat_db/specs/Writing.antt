-- A new file is written in pieces: the bytes that are gathered go behind those that are in it.
use Rattle.std.specs.Option.{option_map}
use Rattle.std.specs.Result.{IsOk}
use Rattle.std.specs.Prelude.{◌≡◌, List, ℕ, ◌+◌, ◌<◌, ◌++◌, Option, Result, OnOk, is_some, length}
use Rattle.base_bytes.specs.declared.limits.TheConstants.{PIECE_SIZE}
use Rattle.base_devices.specs.Causes.{HasCause}
use Rattle.base_devices.specs.CrashImages.{DiskState, Fresh}
use Rattle.base_devices.specs.Frames.{StaysAs}
use Rattle.base_devices.specs.DiskCalls.{fresh_bytes}

-- the new file with what is gathered for it
abbrev pub with_piece : Option Fresh → List ℕ → Option (List ℕ)
with_piece fresh piece = option_map (λ (b : List ℕ). b ++ piece) (fresh_bytes fresh)

-- a disk at one moment, with what is gathered for its new file
pub record Filling : Type 1 where
  pub disk : DiskState
  pub piece : List ℕ

abbrev pub filling : DiskState → List ℕ → Filling
filling disk piece = record { disk = disk; piece = piece }

-- these bytes were added to the new file, or are gathered for it, and nothing else of the disk was touched
pub record AddsBytes {T E : Type 0} (bytes : List ℕ) (old new : Filling) (result : Result T E) : Type 0 where
  pub added : OnOk result (with_piece new.disk.fresh new.piece ≡ option_map (λ (b : List ℕ). b ++ bytes) (with_piece old.disk.fresh old.piece))
  pub begun : OnOk result (is_some new.disk.fresh ≡ is_some old.disk.fresh)
  pub stays : StaysAs old.disk new.disk
  pub cause : HasCause old.disk.faults new.disk.faults result

-- A disk is touched only where the piece is full: bytes that leave room in it are gathered there, and nothing is written.
pub record Gathers {D T E : Type 0} (bytes : List ℕ) (old new : D × List ℕ) (result : Result T E) : Type 0 where
  pub all : length old.1 + length bytes < PIECE_SIZE → (new.0 ≡ old.0) × (new.1 ≡ old.1 ++ bytes) × IsOk result
