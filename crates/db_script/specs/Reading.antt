-- A script is read line by line: what is answered, and what is still to come.
use Rattle.std.specs.Prelude.{◌≡◌, ◌⊎◌, ℕ, ◌+◌, ◌<◌, ◌≤◌, Bool, ◌||◌, nat_lt, List, [], ◌∷◌, ◌++◌, length, Option, Some, None, is_some, Result, Ok, Err, IfOk, IfErr, IfSome, if◌then◌else◌}
use Rattle.base_bytes.specs.declared.limits.TheConstants.{SCRIPT_LIMIT}
use Rattle.base_devices.specs.Causes.{FaultHasCause}
use Rattle.base_source.specs.SourceCalls.{SourceState}
use Rattle.db_script.specs.Fields.{before, behind}
use Rattle.db_script.specs.Held.{held_in, IsInputFault}
use Rattle.db_script.specs.Lines.{Command, command_of, lines_of, read_line}
use Rattle.db_script.specs.declared.line.Line.{Line}
use Rattle.db_script.specs.declared.script.Script.{Script}
use Rattle.db_script.specs.declared.script.ScriptFault.{ScriptFault}
use Rattle.db_script.specs.declared.script.ScriptFault.TheVariants.{TooLong, BadLine, NoMemory, InputFault}

-- A script that was read in part.
pub record ScriptState : Type 0 where
  -- the bytes taken from its source that are in no line handed out so far
  pub held : List ℕ
  -- how many lines were handed out, and how many bytes they have, each LF among them
  pub lines : ℕ
  pub size : ℕ
  -- the source gave its end, and is not read again
  pub is_over : Bool

abbrev pub script_state : Script → ScriptState
script_state s = record { held = held_in s.buffer; lines = s.lines; size = s.size; is_over = s.is_over }

-- the bytes of the script that are in no line handed out so far, where the source has these left
abbrev pub to_come : ScriptState → List ℕ → List ℕ
to_come s left = s.held ++ (if s.is_over then [] else left)

-- nothing more is read for the next line: it is held whole, or the script is over or too long
abbrev pub is_gathered : ScriptState → Bool
is_gathered s = s.is_over || nat_lt SCRIPT_LIMIT (s.size + length s.held) || is_some (behind 10 s.held)

-- no line was handed out
abbrev pub SameLines : ScriptState → ScriptState → Type 0
SameLines s t = (t.lines ≡ s.lines) × (t.size ≡ s.size)

-- no byte of the script was lost
pub record KeepsScript (s t : ScriptState) (a b : SourceState) : Type 0 where
  pub counts : SameLines s t
  pub keeps : (left : List ℕ) → a.left ≡ Some left → (now : List ℕ) × (b.left ≡ Some now) × (to_come t now ≡ to_come s left)

-- More of the script was read, if need be until the next line is held whole.
pub record Gathers {T : Type 0} (s t : ScriptState) (a b : SourceState) (result : Result T ScriptFault) : Type 0 where
  pub script : KeepsScript s t a b
  pub cause : FaultHasCause IsInputFault a.faults b.faults result
  pub refused : IfErr result (λ fault. (fault ≡ NoMemory) ⊎ ((fault ≡ InputFault) × (behind 10 t.held ≡ None)))

-- the first line of what is to come
pub record IsFirst (script line : List ℕ) : Type 0 where
  pub others : List (List ℕ)
  pub is : lines_of script ≡ line ∷ others

-- The next line was handed out, with the counts that go with it.
pub record HandsOut (s t : ScriptState) (script rest : List ℕ) (command : Command) : Type 0 where
  pub line : List ℕ
  pub is : lines_of script ≡ line ∷ lines_of rest
  pub asks : read_line (before 10 line) ≡ Some command
  pub lines : t.lines ≡ s.lines + 1
  pub size : t.size ≡ s.size + length line
  pub within : t.size ≤ SCRIPT_LIMIT

-- the next line is refused, and is still to come
pub record Refuses (P : List ℕ → Type 0) (s t : ScriptState) (script rest : List ℕ) : Type 0 where
  pub stays : rest ≡ script
  pub counts : SameLines s t
  pub line : List ℕ
  pub first : IsFirst script line
  pub why : P line

-- What is answered where this is to come: the next line, its refusal, or that there is none. After the answer the rest is to
-- come.
abbrev pub AnswersLine : {T : Type 0} → (T → Command) → ScriptState → ScriptState → List ℕ → List ℕ → Result (Option T) ScriptFault → Type 0
AnswersLine said s t script rest (Ok None) = (script ≡ []) × (rest ≡ []) × SameLines s t
AnswersLine said s t script rest (Ok (Some line)) = HandsOut s t script rest (said line)
AnswersLine said s t script rest (Err TooLong) = Refuses (λ line. SCRIPT_LIMIT < s.size + length line) s t script rest
AnswersLine said s t script rest (Err (BadLine number)) =
    Refuses (λ line. (s.size + length line ≤ SCRIPT_LIMIT) × (read_line (before 10 line) ≡ None) × (number ≡ s.lines + 1)) s t script rest
AnswersLine said s t script rest (Err NoMemory) = (rest ≡ script) × SameLines s t
AnswersLine said s t script rest (Err InputFault) = (rest ≡ script) × SameLines s t × (behind 10 t.held ≡ None)

-- The first line of a script, where it asks for this.
pub record Asks (s : ScriptState) (script : List ℕ) (command : Command) : Type 0 where
  pub line : List ℕ
  pub first : IsFirst script line
  pub asks : read_line (before 10 line) ≡ Some command
  pub within : s.size + length line ≤ SCRIPT_LIMIT

-- the first line of a script is refused for this
pub record IsRefused (P : List ℕ → Type 0) (script : List ℕ) : Type 0 where
  pub line : List ℕ
  pub first : IsFirst script line
  pub why : P line

-- what is answered where this is to come, whatever comes after it
abbrev pub SaysLine : ScriptState → List ℕ → Result (Option Line) ScriptFault → Type 0
SaysLine s script (Ok None) = script ≡ []
SaysLine s script (Ok (Some line)) = Asks s script (command_of line)
SaysLine s script (Err TooLong) = IsRefused (λ line. SCRIPT_LIMIT < s.size + length line) script
SaysLine s script (Err (BadLine number)) =
    IsRefused (λ line. (s.size + length line ≤ SCRIPT_LIMIT) × (read_line (before 10 line) ≡ None) × (number ≡ s.lines + 1)) script
SaysLine s script (Err fault) = Unit {0}

-- The next line of a script, whose fields spell what was said.
pub record ReadsLine {T : Type 0} (said : T → Command) (s t : ScriptState) (a b : SourceState) (result : Result (Option T) ScriptFault) : Type 0 where
  pub answers : (left : List ℕ) → a.left ≡ Some left → (now : List ℕ) × (b.left ≡ Some now) × AnswersLine said s t (to_come s left) (to_come t now) result
  pub counts : IfOk result (λ answer. IfSome answer (λ _. t.lines ≡ s.lines + 1))
  pub cause : FaultHasCause IsInputFault a.faults b.faults result
