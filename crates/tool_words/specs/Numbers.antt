-- Counts and uids as words: decimal digits alone, with no sign.
use Rattle.std.specs.Prelude.{ℕ, ◌&&◌, Bool, List, length, Option, None, Some, codes, if◌then◌else◌, nat_eq, nat_le, nat_lt}
use Rattle.std.specs.Char.{is_ascii_digit}
use Rattle.std.specs.List.{list_all, starts_with}
use Rattle.std.specs.Str.Parse.{digits_value}

abbrev pub is_digits : List ℕ → Bool
is_digits text = list_all is_ascii_digit text

-- the text is one to `digits` digits, and the number that they write is at most `most`
abbrev pub is_count : ℕ → ℕ → List ℕ → Bool
is_count digits most text =
    is_digits text && (nat_lt 0 (length text) && (nat_le (length text) digits && nat_le (digits_value 10 text) most))

-- a count may have leading zeros
abbrev pub count_of : ℕ → ℕ → List ℕ → Option ℕ
count_of digits most text = if is_count digits most text then Some (digits_value 10 text) else None

-- the rounds of `exercise`
abbrev pub rounds_of : List ℕ → Option ℕ
rounds_of text = count_of 5 10000 text

-- a number of `ipurge`
abbrev pub number_of : List ℕ → Option ℕ
number_of text = count_of 10 4294967295 text

-- a uid has no leading zero, and so is above 0
abbrev pub uid_of : List ℕ → Option ℕ
uid_of text = if starts_with nat_eq text (codes "0") then None else number_of text
