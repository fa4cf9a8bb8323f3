-- What the parts of a date say where the parts before them are known.
use Rattle.std.proofs.Common.{◌≡◌, ℕ, ◌+◌, true, nat_abs, List, Some, None, Result, Ok, Err, nat_eq, ℤ, pos, negsuc, neg_ℤ, ◌+ℤ◌, ◌*ℤ◌, ◌≤ℤ◌, w32, w64, refl, ap, subst, ◌∙◌, arith}
use Rattle.std.specs.Result.{IfOk, OkIff, result_ok}
use Rattle.std.specs.Int.{FitsUnsignedBits}
use Rattle.std.proofs.lemmas.Bool.Decides.{nat_tests}
use Rattle.std.proofs.lemmas.Grind.{common_steps}
use Rattle.std.proofs.lemmas.Int.{ints}
use mir.Val.{to_z, of_z}
use Rattle.std.specs.Cmp.Lexicographic.{pointwise}
use Rattle.std.specs.List.{position}
use Rattle.jiff_core.specs.declared.civil.date.Date.{Date}
use Rattle.jiff_core.specs.Date.{epoch_day}
use Rattle.mail_scan.specs.DateGrammar.{three_letters, month_names, month_of, day_number, civil_day, behind_gap, time_of, is_done, u32_of, date_seconds_of}

-- no month has this name
pub month_of-none : (text name rest : List ℕ) → three_letters text ≡ Some (name, rest) → position (λ month. pointwise nat_eq month name) month_names ≡ None → month_of text ≡ None
unfolding month_of
month_of-none text name rest letters none = rw (letters, none)

-- the month at this place has it
pub month_of-some : (text name rest : List ℕ) (place : ℕ) → three_letters text ≡ Some (name, rest) → position (λ month. pointwise nat_eq month name) month_names ≡ Some place → month_of text ≡ Some (place + 1, rest)
unfolding month_of
month_of-some text name rest place letters found = rw (letters, found)

-- a date of the calendar has its day number
pub day_number-some : (year month day : ℕ) (date : Date) → date.year ≡ pos year → date.month ≡ month → date.day ≡ day → day_number year month day ≡ Some (epoch_day date)
unfolding day_number
day_number-some year month day date y m d = rw (← y, ← m, ← d) (grind (arith, nat_tests, common_steps, date.day_in))

-- what is said of the value holds of it
pub ok_holds : {T E : Type 0} (P : T → Type 0) (r : Result T E) (x : T) → IfOk r P → Some x ≡ result_ok r → P x
ok_holds P (Ok y) x holds same = let e : y ≡ x = cc in subst P e holds
ok_holds P (Err e) x holds same = absurd (cc)

-- a number that fits 32 bits, and no other
u32_of-is : {E : Type 0} (z : ℤ) (r : Result ℕ E) → OkIff r (FitsUnsignedBits 32 z) (nat_abs z) → result_ok r ≡ u32_of z
u32_of-is (pos n) (Ok x) (fits, same) = grind (arith, nat_tests, common_steps)
u32_of-is (pos n) (Err e) unfit = grind (arith, nat_tests, common_steps)
u32_of-is (negsuc n) (Ok x) (fits, same) = grind (arith, nat_tests, common_steps)
u32_of-is (negsuc n) (Err e) unfit = refl

-- the seconds as the program computes them, which no step of it cuts
abbrev computed : ℤ → ℤ → ℤ
computed day time = to_z w64 (of_z w64 (to_z w64 (of_z w64 (to_z w64 (of_z w64 (to_z w32 (of_z w32 day))) *ℤ pos 86400)) +ℤ to_z w64 (of_z w64 (to_z w32 (of_z w32 time)))))

computed-is : (day time : ℤ) → neg_ℤ (pos 4371587) ≤ℤ day → day ≤ℤ pos 2932896 → neg_ℤ (pos 86400) ≤ℤ time → time ≤ℤ pos 172800 → computed day time ≡ day *ℤ pos 86400 +ℤ time
computed-is day time low high from to = omega (arith, ints)

pub seconds_fit : {E : Type 0} (day time : ℤ) (r : Result ℕ E) → (neg_ℤ (pos 4371587) ≤ℤ day) × (day ≤ℤ pos 2932896) → (neg_ℤ (pos 86400) ≤ℤ time) × (time ≤ℤ pos 172800) → OkIff r (FitsUnsignedBits 32 (computed day time)) (nat_abs (computed day time)) → result_ok r ≡ u32_of (day *ℤ pos 86400 +ℤ time)
seconds_fit day time r days times made = u32_of-is (computed day time) r made ∙ ap u32_of (computed-is day time days.0 days.1 times.0 times.1)

-- the seconds where each part is there and the text ends
pub date_seconds_of-is : (text after gap end : List ℕ) (day time : ℤ) → civil_day text ≡ Some (day, after) → behind_gap after ≡ Some gap → time_of gap ≡ Some (time, end) → is_done end ≡ true → date_seconds_of text ≡ u32_of (day *ℤ pos 86400 +ℤ time)
unfolding date_seconds_of
date_seconds_of-is text after gap end day time d g t done = rw (d, g, t, done)
