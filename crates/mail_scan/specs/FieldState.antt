-- Where in the search for a Date field the bytes read so far end.
use Rattle.std.specs.Prelude.{◌≡◌, ◌<◌, ℕ, true, false, List, [], ◌∷◌, ◌++◌, map, take, length, codes, Some, if◌then◌else◌}
use Rattle.std.specs.Char.{to_ascii_lowercase}
use Rattle.mail_scan.specs.declared.field_state.FieldState.{FieldState}
use Rattle.mail_scan.specs.declared.field_state.FieldState.TheVariants.{Name, InLine, Value, ValueCr, ValueLf, Done}
use Rattle.mail_scan.specs.MessageText.{begins_blank, field_value, date_value_from, date_value}

-- so many first bytes of the name, letters in either case
pub record IsDateName (line : List ℕ) (size : ℕ) : Type 0 where
  pub some_missing : size < 5
  pub spelled : map to_ascii_lowercase line ≡ take size (codes "date:")
  pub whole : length line ≡ size

-- the header ends in this front of a line, and has no Date field before it
abbrev pub ReadsLine : List ℕ → List ℕ → Type 0
ReadsLine line header = (rest : List ℕ) → date_value (header ++ rest) ≡ date_value_from true (line ++ rest)

-- How the header reads on, where it stands so: `value` is the value so far, as far as there is one.
abbrev pub ReadsOn : FieldState → List ℕ → List ℕ → Type 0
ReadsOn (Name size) value header = (value ≡ []) × ((line : List ℕ) × IsDateName line size × ReadsLine line header)
ReadsOn InLine value header = (value ≡ []) × ((rest : List ℕ) → date_value (header ++ rest) ≡ date_value_from false rest)
ReadsOn Value value header = (rest : List ℕ) → date_value (header ++ rest) ≡ Some (value ++ field_value rest)
ReadsOn ValueCr value header = (rest : List ℕ) → date_value (header ++ rest) ≡ Some (value ++ field_value (13 ∷ rest))
ReadsOn ValueLf value header =
    (rest : List ℕ) → date_value (header ++ rest) ≡ Some (value ++ (if begins_blank rest then field_value rest else []))
ReadsOn Done value header = (rest : List ℕ) → date_value (header ++ rest) ≡ Some value
