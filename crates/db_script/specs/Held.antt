-- A buffer, what of it is held, and how more is read behind that.
use Rattle.std.specs.Prelude.{◌≡◌, ℕ, ◌+◌, ◌-◌, ◌≤◌, List, [], ◌++◌, length, take, drop, vec_len, Some, Result, IfOk, OnErr}
use Rattle.base_devices.specs.Causes.{FaultHasCause}
use Rattle.base_source.specs.SourceCalls.{SourceState}
use Rattle.db_script.specs.Buffers.{IsWithin, command_in}
use Rattle.db_script.specs.Lines.{Command}
use Rattle.db_script.specs.declared.buffer.Buffer.{Buffer}
use Rattle.db_script.specs.declared.script.ScriptFault.{ScriptFault}
use Rattle.db_script.specs.declared.script.ScriptFault.TheVariants.{InputFault}
use Rattle.db_script.specs.declared.buffer.Found.{Found}

abbrev pub held_in : Buffer → List ℕ
held_in b = take (b.end - b.at) (drop b.at b.bytes.items)

-- what a line in the buffer asks for
abbrev pub found_in : Buffer → Found → Command
found_in b found = command_in (drop found.start b.bytes.items) found.form

pub record IsFound (b : Buffer) (found : Found) : Type 0 where
  pub starts : found.start ≤ vec_len b.bytes
  pub within : IsWithin 0 (vec_len b.bytes - found.start) found.form

-- So many bytes came from the source behind those that were held: none only at its end.
pub record Comes (held now left rest : List ℕ) (count : ℕ) : Type 0 where
  pub bytes : now ++ rest ≡ held ++ left
  pub none : count ≡ 0 → rest ≡ []

abbrev pub IsInputFault : ScriptFault → Type 0
IsInputFault InputFault = Unit {0}
IsInputFault fault = ⊥

-- More was read, or it was refused.
pub record ReadsMore {E : Type 0} (IsFault : E → Type 0) (held now : List ℕ) (most : ℕ) (a b : SourceState) (result : Result ℕ E) : Type 0 where
  pub front : take (length held) now ≡ held
  pub size : IfOk result (λ count. (length now ≡ length held + count) × (count ≤ most))
  pub comes : IfOk result (λ count. (left : List ℕ) → a.left ≡ Some left → (rest : List ℕ) × (b.left ≡ Some rest) × Comes held now left rest count)
  pub failed : OnErr result ((now ≡ held) × (b.left ≡ a.left))
  pub cause : FaultHasCause IsFault a.faults b.faults result
