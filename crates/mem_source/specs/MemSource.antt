-- A source in memory as its trait sees it, and when its calls fail.
use Rattle.std.specs.Prelude.{◌≡◌, ℕ, ◌+◌, ◌-◌, ◌^◌, min, List, Some, Result, IsErr, Contains, ◌↔◌, drop}
use Rattle.base_devices.specs.Causes.{HasCause}
use Rattle.base_source.specs.SourceCalls.{SourceState}
use Rattle.mem_source.specs.declared.mem_source.MemSource.{MemSource}

abbrev pub mem_left : MemSource → List ℕ
mem_left s = drop s.at s.bytes.items

abbrev pub mem_source_state : MemSource → SourceState
mem_source_state s = record { left = Some (mem_left s); faults = s.faults }

-- how many bytes a read gives at most
abbrev pub source_piece : MemSource → ℕ
source_piece s = s.piece

-- the numbers of the calls that are to fail, where the first call has number 1
abbrev pub source_fails : MemSource → List ℕ
source_fails s = s.fails.items

-- the number of the next call
abbrev pub next_source_call : MemSource → ℕ
next_source_call s = min (s.calls + 1) (2 ^ 64 - 1)

-- one call: it fails exactly where its number is on the list
pub record CountsSourceCall {T E : Type 0} (old new : MemSource) (result : Result T E) : Type 0 where
  pub failed : IsErr result ↔ Contains (source_fails old) (next_source_call old)
  pub cause : HasCause old.faults new.faults result
  pub calls : new.calls ≡ next_source_call old
  pub fails : new.fails ≡ old.fails
  pub piece : new.piece ≡ old.piece
