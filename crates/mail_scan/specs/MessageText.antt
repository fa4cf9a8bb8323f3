-- What stands in the bytes of a message: its header, its lines, and its date.
use Rattle.std.specs.Prelude.{ℕ, ◌==◌, Bool, true, false, ◌&&◌, List, [], ◌∷◌, map, take, drop, count_by, nat_eq, codes, Option, None, Some, option_and_then, if◌then◌else◌}
use Rattle.std.specs.Char.{to_ascii_lowercase}
use Rattle.std.specs.Cmp.Lexicographic.{pointwise}
use Rattle.mail_scan.specs.DateGrammar.{is_blank, date_seconds_of}

-- the text begins with the byte
abbrev pub begins_with : ℕ → List ℕ → Bool
begins_with byte [] = false
begins_with byte (first ∷ text) = first == byte

-- The text up to its first empty line, with that: LF alone or CR LF. The flag says that a line starts here.
unfoldable pub header_from : Bool → List ℕ → List ℕ
header_from starts [] = []
header_from starts (byte ∷ text) =
    if starts && (byte == 10) then 10 ∷ []
    else if starts && (byte == 13) && begins_with 10 text then 13 ∷ 10 ∷ []
    else byte ∷ header_from (byte == 10) text

-- the header of a message, which is all of it where no line is empty
abbrev pub header_of : List ℕ → List ℕ
header_of message = header_from true message

-- a line ends with LF
abbrev pub line_count : List ℕ → ℕ
line_count text = count_by (λ byte. byte == 10) text

-- the text begins with `Date:`, letters in either case
abbrev pub begins_date : List ℕ → Bool
begins_date text = pointwise nat_eq (map to_ascii_lowercase (take 5 text)) (codes "date:")

-- the text begins with white space
abbrev pub begins_blank : List ℕ → Bool
begins_blank [] = false
begins_blank (byte ∷ text) = is_blank byte

-- The value of a field: its line without LF or CR LF, and joined to it the following lines that begin with white space.
unfoldable pub field_value : List ℕ → List ℕ
field_value [] = []
field_value (byte ∷ text) =
    if byte == 10 then (if begins_blank text then field_value text else [])
    else if (byte == 13) && begins_with 10 text then field_value text
    else byte ∷ field_value text

-- the value of the first line that begins with `Date:`; the flag says that a line starts here
unfoldable pub date_value_from : Bool → List ℕ → Option (List ℕ)
date_value_from starts [] = None
date_value_from starts (byte ∷ text) =
    if starts && begins_date (byte ∷ text) then Some (field_value (drop 5 (byte ∷ text)))
    else date_value_from (byte == 10) text

abbrev pub date_value : List ℕ → Option (List ℕ)
date_value header = date_value_from true header

-- the date of a message, by the first 128 bytes of its Date field
abbrev pub date_of : List ℕ → Option ℕ
date_of message = option_and_then (λ value. date_seconds_of (take 128 value)) (date_value (header_of message))
