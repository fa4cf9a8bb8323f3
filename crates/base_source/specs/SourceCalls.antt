-- What the call of a source of bytes does.
use Rattle.std.specs.Prelude.{◌≡◌, ℕ, ◌<◌, ◌≤◌, List, Option, None, length, take, drop}
use Rattle.std.specs.Option.{option_map}

-- a source: the bytes that it has left, where it shows them, and how often its calls failed
pub record SourceState : Type 0 where
  pub left : Option (List ℕ)
  pub faults : ℕ

-- So many of the bytes that were left were taken from their front into the slice: none only where none was left, or where
-- the slice has no room.
pub record Takes (left : List ℕ) (into : List ℕ) (count : ℕ) : Type 0 where
  pub within : count ≤ length left
  pub bytes : take count into ≡ take count left
  pub some : 0 < length into → 0 < length left → 0 < count

-- what is left once so many bytes are taken
abbrev pub left_behind : ℕ → Option (List ℕ) → Option (List ℕ)
left_behind count left = option_map (drop count) left

-- a source that shows its count of faults alone
abbrev pub untold_source : ℕ → SourceState
untold_source faults = record { left = None; faults = faults }
