-- A script's buffer, and where in it the fields of a line stand.
use Rattle.std.specs.Prelude.{◌≡◌, ℕ, ◌-◌, ◌≤◌, List, length, take, drop, Option, Some, None, IsSome}
use Rattle.std.specs.Option.{option_map}
use Rattle.db_script.specs.Fields.{field_bytes}
use Rattle.db_script.specs.Lines.{Command, begin, commit, abort, show, get, set, delete, key_bytes, set_of}
use Rattle.db_script.specs.declared.form.Span.{Span}
use Rattle.db_script.specs.declared.form.Form.{Form}
use Rattle.db_script.specs.declared.form.Form.TheVariants.{Begin, Commit, Abort, Show, Get, Set, Delete}

-- ---- fields

abbrev pub part_of : List ℕ → Span → List ℕ
part_of buffer span = take (span.end - span.start) (drop span.start buffer)

-- what the fields spell that stand there
abbrev pub spelled_in : List ℕ → Form → Option Command
spelled_in buffer Begin = Some begin
spelled_in buffer Commit = Some commit
spelled_in buffer Abort = Some abort
spelled_in buffer (Show prefix) = option_map show (field_bytes (part_of buffer prefix))
spelled_in buffer (Get key) = option_map get (key_bytes (part_of buffer key))
spelled_in buffer (Set key value) = set_of (key_bytes (part_of buffer key)) (field_bytes (part_of buffer value))
spelled_in buffer (Delete key) = option_map delete (key_bytes (part_of buffer key))

-- what the fields are that stand there, once they are unescaped
abbrev pub command_in : List ℕ → Form → Command
command_in buffer Begin = begin
command_in buffer Commit = commit
command_in buffer Abort = abort
command_in buffer (Show prefix) = show (part_of buffer prefix)
command_in buffer (Get key) = get (part_of buffer key)
command_in buffer (Set key value) = set (part_of buffer key) (part_of buffer value)
command_in buffer (Delete key) = delete (part_of buffer key)

-- the span stands between two offsets
abbrev pub IsSpan : ℕ → ℕ → Span → Type 0
IsSpan from to span = (from ≤ span.start) × (span.start ≤ span.end) × (span.end ≤ to)

abbrev pub IsWithin : ℕ → ℕ → Form → Type 0
IsWithin from to (Show prefix) = IsSpan from to prefix
IsWithin from to (Get key) = IsSpan from to key
IsWithin from to (Set key value) = IsSpan from value.start key × IsSpan key.end to value
IsWithin from to (Delete key) = IsSpan from to key
IsWithin from to form = Unit {0}

-- a line that asks for this, wherever its fields stand
pub record IsLone (asks : Option Command) (line : List ℕ) (form : Form) : Type 0 where
  pub reads : asks ≡ spelled_in line form
  pub spelled : IsSome (spelled_in line form)
  pub within : IsWithin 0 (length line) form

-- a line that asks for this, and where its fields stand from an offset on; or one that is wrong
abbrev pub IsPart : ℕ → Option Command → List ℕ → Option Form → Type 0
IsPart from asks line None = asks ≡ None
IsPart from asks line (Some form) = (asks ≡ spelled_in line form) × IsSome (spelled_in line form) × IsWithin from (length line) form
