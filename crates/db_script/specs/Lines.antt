-- The lines of a script, and what each asks for.
use Rattle.std.specs.Prelude.{ℕ, Bool, List, [], ◌∷◌, ◌==◌, Option, Some, None, is_some, codes, nat_eq, option_and_then, if◌then◌else◌}
use Rattle.std.specs.Cmp.Lexicographic.{pointwise}
use Rattle.std.specs.Option.{option_map}
use Rattle.db_script.specs.Fields.{before, behind, field_bytes}
use Rattle.db_script.specs.declared.line.Line.{Line}
use Rattle.db_script.specs.declared.line.Line.TheVariants.{Begin, Commit, Abort, Show, Get, Set, Delete}

-- ---- lines

-- a byte at the front of the first line
abbrev pub at_front : ℕ → List (List ℕ) → List (List ℕ)
at_front byte [] = (byte ∷ []) ∷ []
at_front byte (line ∷ lines) = (byte ∷ line) ∷ lines

-- A script is cut after each LF. The last line may lack its own.
unfoldable pub lines_of : List ℕ → List (List ℕ)
lines_of [] = []
lines_of (byte ∷ bytes) = if byte == 10 then (10 ∷ []) ∷ lines_of bytes else at_front byte (lines_of bytes)

-- ---- what a line asks for

pub data Command : Type 0 where
  begin : Command
  commit : Command
  abort : Command
  show : (prefix : List ℕ) → Command
  get : (key : List ℕ) → Command
  set : (key value : List ℕ) → Command
  delete : (key : List ℕ) → Command

abbrev pub command_of : Line → Command
command_of Begin = begin
command_of Commit = commit
command_of Abort = abort
command_of (Show prefix) = show prefix.now
command_of (Get key) = get key.now
command_of (Set key value) = set key.now value.now
command_of (Delete key) = delete key.now

abbrev pub is_word : List ℕ → List ℕ → Bool
is_word line word = pointwise nat_eq line word

-- a line that is one word
abbrev pub lone_word : List ℕ → Option Command
lone_word word =
    if is_word word (codes "BEGIN") then Some begin
    else (if is_word word (codes "COMMIT") then Some commit
    else (if is_word word (codes "ABORT") then Some abort
    else (if is_word word (codes "SHOW") then Some (show []) else None)))

-- a key has a byte
abbrev pub some_key : List ℕ → Option (List ℕ)
some_key [] = None
some_key (byte ∷ bytes) = Some (byte ∷ bytes)

abbrev pub key_bytes : List ℕ → Option (List ℕ)
key_bytes field = option_and_then some_key (field_bytes field)

-- the only field of a line has no TAB
abbrev pub only_field : (List ℕ → Option (List ℕ)) → List ℕ → Option (List ℕ)
only_field read field = if is_some (behind 9 field) then None else read field

abbrev pub set_of : Option (List ℕ) → Option (List ℕ) → Option Command
set_of (Some key) (Some value) = Some (set key value)
set_of key value = None

-- a key, TAB, and the value, which is all the rest
abbrev pub pair_of : List ℕ → Option (List ℕ) → Option Command
pair_of key (Some value) = set_of (key_bytes key) (field_bytes value)
pair_of key None = None

-- a word, TAB, and what its fields are
abbrev pub word_with : List ℕ → List ℕ → Option Command
word_with word fields =
    if is_word word (codes "SET") then pair_of (before 9 fields) (behind 9 fields)
    else (if is_word word (codes "GET") then option_map get (only_field key_bytes fields)
    else (if is_word word (codes "DELETE") then option_map delete (only_field key_bytes fields)
    else (if is_word word (codes "SHOW") then option_map show (only_field field_bytes fields) else None)))

abbrev pub line_command : List ℕ → Option (List ℕ) → Option Command
line_command word None = lone_word word
line_command word (Some fields) = word_with word fields

-- what a line asks for without its LF, or none where it is wrong
unfoldable pub read_line : List ℕ → Option Command
read_line line = line_command (before 9 line) (behind 9 line)
