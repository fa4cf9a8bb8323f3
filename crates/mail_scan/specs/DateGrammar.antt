-- A date as mail has it. Each definition reads one part from the front of a text.
use Rattle.std.specs.Prelude.{ℕ, ◌+◌, ◌-◌, ◌*◌, ◌==◌, Bool, true, false, ◌&&◌, ◌||◌, nat_le, nat_eq, min, ℤ, pos, negsuc, neg_ℤ, ◌+ℤ◌, ◌-ℤ◌, ◌*ℤ◌, List, [], ◌∷◌, drop, position, codes, Option, Some, None, option_map, option_and_then, if◌then◌else◌}
use Rattle.std.specs.Char.{is_ascii_digit, is_ascii_alphabetic, to_ascii_lowercase}
use Rattle.std.specs.Cmp.Lexicographic.{pointwise}
use Rattle.std.specs.List.{prefix_len}
use Rattle.std.specs.Option.{option_or}
use Rattle.std.specs.Borrow.{Bor}
use Rattle.jiff_core.specs.Calendar.{days_in_month, days_from_civil}

-- a value and the text behind it
abbrev pub Part : Type 0 → Type 0
Part A = Option (A × List ℕ)

-- what a function read, without the references
abbrev pub part_of : {A : Type 0} → Option (A × Bor (List ℕ)) → Part A
part_of read = option_map (λ p. (p.0, p.1.now)) read

abbrev pub rest_of : Option (Bor (List ℕ)) → Option (List ℕ)
rest_of rest = option_map (λ r. r.now) rest

infixl 10 ◌>>=◌
abbrev pub ◌>>=◌ : {A B : Type 0} → Option A → (A → Option B) → Option B
part >>= next = option_and_then next part

-- ---- white space and digits

-- a space or a TAB
abbrev pub is_blank : ℕ → Bool
is_blank byte = (byte == 32) || (byte == 9)

-- behind white space that may be absent
abbrev pub behind_blanks : List ℕ → List ℕ
behind_blanks text = drop (prefix_len is_blank text) text

-- behind white space
unfoldable pub behind_gap : List ℕ → Option (List ℕ)
behind_gap text = if prefix_len is_blank text == 0 then None else Some (behind_blanks text)

-- one digit
unfoldable pub one_digit : List ℕ → Part ℕ
one_digit [] = None
one_digit (digit ∷ rest) = if is_ascii_digit digit then Some (digit - 48, rest) else None

-- two digits
unfoldable pub two_digits : List ℕ → Part ℕ
two_digits (high ∷ low ∷ rest) =
    if is_ascii_digit high && is_ascii_digit low
    then Some ((high - 48) * 10 + (low - 48), rest)
    else None
two_digits _ = None

-- four digits
unfoldable pub four_digits : List ℕ → Part ℕ
four_digits text = do
  high ← two_digits text
  low ← two_digits high.1
  Some (high.0 * 100 + low.0, low.1)

-- ---- the day

-- behind three letters, a comma and white space that may be absent, where a text begins so
unfoldable pub behind_day_name : List ℕ → List ℕ
behind_day_name (a ∷ b ∷ c ∷ comma ∷ rest) =
    if is_ascii_alphabetic a && is_ascii_alphabetic b && is_ascii_alphabetic c && (comma == 44)
    then behind_blanks rest
    else a ∷ b ∷ c ∷ comma ∷ rest
behind_day_name text = text

-- the day of the month, of one or two digits
unfoldable pub day_of_month : List ℕ → Part ℕ
day_of_month text = option_or (two_digits text) (one_digit text)

-- three letters, as small ones
unfoldable pub three_letters : List ℕ → Part (List ℕ)
three_letters (a ∷ b ∷ c ∷ rest) =
    Some (to_ascii_lowercase a ∷ to_ascii_lowercase b ∷ to_ascii_lowercase c ∷ [], rest)
three_letters _ = None

abbrev pub month_names : List (List ℕ)
month_names =
    codes "jan" ∷ codes "feb" ∷ codes "mar" ∷ codes "apr" ∷ codes "may" ∷ codes "jun"
    ∷ codes "jul" ∷ codes "aug" ∷ codes "sep" ∷ codes "oct" ∷ codes "nov" ∷ codes "dec" ∷ []

-- the month, from 1 to 12, by its name
unfoldable pub month_of : List ℕ → Part ℕ
month_of text = do
  name ← three_letters text
  place ← position (λ month. pointwise nat_eq month name.0) month_names
  Some (place + 1, name.1)

-- the number of a civil day since 1970, where the calendar has it
unfoldable pub day_number : ℕ → ℕ → ℕ → Option ℤ
day_number year month day =
    if nat_le 1 day && nat_le day (days_in_month (pos year) month)
    then Some (days_from_civil (pos year) month day)
    else None

-- the day: its name, the day of the month, the month and the year
unfoldable pub civil_day : List ℕ → Part ℤ
civil_day text = do
  day ← day_of_month (behind_day_name (behind_blanks text))
  month_text ← behind_gap day.1
  month ← month_of month_text
  year_text ← behind_gap month.1
  year ← four_digits year_text
  number ← day_number year.0 month.0 day.0
  Some (number, year.1)

-- ---- the time of the day

-- a colon
unfoldable pub behind_colon : List ℕ → Option (List ℕ)
behind_colon [] = None
behind_colon (byte ∷ rest) = if byte == 58 then Some rest else None

-- a colon and the seconds, which may be absent
unfoldable pub second_of : List ℕ → Part ℕ
second_of [] = Some (0, [])
second_of (byte ∷ rest) = if byte == 58 then two_digits rest else Some (0, byte ∷ rest)

-- the seconds since midnight; a second 60 counts as 59
unfoldable pub clock_of : List ℕ → Part ℕ
clock_of text = do
  hour ← two_digits text
  minute_text ← behind_colon hour.1
  minute ← two_digits minute_text
  second ← second_of minute.1
  if nat_le hour.0 23 && nat_le minute.0 59 && nat_le second.0 60
      then Some (hour.0 * 3600 + minute.0 * 60 + min second.0 59, second.1)
      else None

-- the hours and minutes of a zone, in seconds
unfoldable pub zone_shift : List ℕ → Part ℕ
zone_shift text = do
  hours ← two_digits text
  minutes ← two_digits hours.1
  if nat_le hours.0 23 && nat_le minutes.0 59
      then Some (hours.0 * 3600 + minutes.0 * 60, minutes.1)
      else None

-- UT, letters in either case
unfoldable pub behind_ut : List ℕ → Option (List ℕ)
behind_ut (a ∷ b ∷ rest) =
    if (to_ascii_lowercase a == 117) && (to_ascii_lowercase b == 116) then Some rest else None
behind_ut _ = None

-- GMT, letters in either case
unfoldable pub behind_gmt : List ℕ → Option (List ℕ)
behind_gmt text = do
  name ← three_letters text
  if pointwise nat_eq name.0 (codes "gmt") then Some name.1 else None

-- the sign of a zone: whether its clocks are behind
unfoldable pub sign_of : List ℕ → Part Bool
sign_of [] = None
sign_of (byte ∷ rest) =
    if byte == 43 then Some (false, rest) else (if byte == 45 then Some (true, rest) else None)

-- a sign and a shift
unfoldable pub shifted_zone : List ℕ → Part ℤ
shifted_zone text = do
  sign ← sign_of text
  shift ← zone_shift sign.1
  Some (if sign.0 then neg_ℤ (pos shift.0) else pos shift.0, shift.1)

-- the zone, in seconds by which its clocks are ahead
unfoldable pub zone_of : List ℕ → Part ℤ
zone_of text =
    option_or (shifted_zone text)
    (option_map (λ rest. (pos 0, rest)) (option_or (behind_ut text) (behind_gmt text)))

-- the time of the day and the zone, as seconds from midnight in UTC
unfoldable pub time_of : List ℕ → Part ℤ
time_of text = do
  clock ← clock_of text
  zone_text ← behind_gap clock.1
  zone ← zone_of zone_text
  Some (pos clock.0 -ℤ zone.0, zone.1)

-- ---- the whole

-- a text ends, or white space follows
abbrev pub is_done : List ℕ → Bool
is_done [] = true
is_done (byte ∷ rest) = is_blank byte

-- a number of 32 bits
abbrev pub u32_of : ℤ → Option ℕ
u32_of (pos n) = if nat_le n 4294967295 then Some n else None
u32_of (negsuc n) = None

-- the seconds since 1970 in UTC of the date that a text begins with
unfoldable pub date_seconds_of : List ℕ → Option ℕ
date_seconds_of text = do
  day ← civil_day text
  time_text ← behind_gap day.1
  time ← time_of time_text
  if is_done time.1 then u32_of (day.0 *ℤ pos 86400 +ℤ time.0) else None
