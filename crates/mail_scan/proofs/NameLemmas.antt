-- Which names are those of messages.
use Rattle.std.proofs.Common.{◌≡◌, ℕ, zero, suc, Bool, true, false, ◌&&◌, nat_le, unwrap_or, nat_eq, take, length-append, take_at, ◌-◌, ◌^◌, ◌<◌, ◌≤◌, List, [], ◌∷◌, ◌++◌, Result, Ok, Err, Option, Some, None, length, get_or, if◌then◌else◌, sym, ap, ◌∙◌, arith, refl}
use Rattle.std.proofs.lemmas.List.{append_cancel_right}
use Rattle.std.proofs.lemmas.Str.Parse.{IsNumeralModel, numerals_by_value, tells_digits, parse_plain}
use Rattle.std.proofs.lemmas.Fmt.{decimal_is_IsNumeral, first_decimal, decimal_digit, decimal_nonempty, decimal-digits_value, parse-decimal, digits_value-decimal}
use Rattle.std.specs.Fmt.{decimal}
use Rattle.std.specs.Option.{MatchOption}
use Rattle.std.specs.Result.{result_ok}
use Rattle.std.specs.Str.Parse.{AllDigits, digits_value, ParsesUnsigned}
use Rattle.std.proofs.lemmas.Str.Parse.{digit_at}
use Rattle.std.specs.Cmp.Lexicographic.{pointwise}
use Rattle.std.proofs.lemmas.Bool.Decides.{nat_tests, Decides-eqb}
use Rattle.std.proofs.lemmas.Grind.{common_steps}
use Rattle.std.proofs.lemmas.Slice.Eq.{slice_eq-Decides}
use Rattle.mail_scan.specs.Names.{IsMessageName, name_of}
use Rattle.mail_scan.specs.Listing.{number_before_dot, is_message_name, uid_in}

own : IsNumeralModel (AllDigits 10) (digits_value 10)
own = numerals_by_value (AllDigits 10) tells_digits

-- what stands before the dot is the uid in decimal
digits_are : (name digits : List ℕ) (uid : ℕ) → name ≡ digits ++ (46 ∷ []) → IsMessageName name uid → decimal uid ≡ digits
digits_are name digits uid e is = append_cancel_right _ _ (46 ∷ []) (sym is.spelled ∙ e)

-- a name without a dot at its end is none
pub no_dot : (name : List ℕ) → ((front : List ℕ) → name ≡ front ++ (46 ∷ []) → ⊥) → (uid : ℕ) → IsMessageName name uid → ⊥
no_dot name none uid is = none (decimal uid) is.spelled

-- a message's name begins with a digit that is not 0
pub first_digit : (name digits : List ℕ) → name ≡ digits ++ (46 ∷ []) → (uid : ℕ) → IsMessageName name uid → (0 < length digits) × (49 ≤ get_or digits 0 0) × (get_or digits 0 0 ≤ 57)
first_digit name digits e uid is =
    let same = digits_are name digits uid e is in
    let least : 1 ≤ uid = is.least in
    let small : uid < 2 ^ 64 = omega (arith, is.most) in
    let some : 0 < length digits = rw (← same) (decimal_nonempty uid small) in
    let first : 48 < get_or digits 0 0 = rw (← same) (first_decimal uid (omega arith) small) in
    let all : AllDigits 10 digits = rw (← same) (decimal_is_IsNumeral uid small).0.1 in
    let last = digit_at digits 0 all some in
    (some, omega arith, omega (arith, last))

-- digits that do not begin with 0 are those of a number that is not 0
is_positive : (digits : List ℕ) → 49 ≤ get_or digits 0 0 → (uid : ℕ) → decimal uid ≡ digits → 1 ≤ uid
is_positive digits first zero same =
    let zero_is : decimal 0 ≡ 48 ∷ [] = decimal_digit 0 (omega arith) in
    let byte : get_or digits 0 0 ≡ 48 = ap (λ ds. get_or ds 0 0) (sym same ∙ zero_is) in
    absurd (omega arith)
is_positive digits first (suc n) same = omega arith

-- what `parse` reads before the dot, where the first digit is not 0
pub parsed : {E : Type 0} (name digits : List ℕ) (r : Result ℕ E) → name ≡ digits ++ (46 ∷ []) → 49 ≤ get_or digits 0 0 → ParsesUnsigned 32 10 digits r → MatchOption (result_ok r) ((uid : ℕ) → IsMessageName name uid → ⊥) (λ uid. IsMessageName name uid)
parsed {E} name digits (Ok uid) e first h =
    let plain = parse_plain own {E = E} 32 digits (Ok uid) h (λ plus. omega (arith, plus)) in
    let small : digits_value 10 digits < 2 ^ 64 = omega (arith, plain.0.2) in
    let same : decimal (digits_value 10 digits) ≡ digits = decimal-digits_value own digits plain.0.0 plain.0.1 (λ zero. absurd (omega (arith, zero))) small in
    let value : uid ≡ digits_value 10 digits = omega (arith, plain.1) in
    record {
      least = is_positive digits first uid (ap decimal value ∙ same);
      most = omega (arith, plain.0.2);
      spelled = e ∙ ap (λ ds. ds ++ (46 ∷ [])) (sym (ap decimal value ∙ same));
    }
parsed {E} name digits (Err error) e first h = λ uid is.
    let same = digits_are name digits uid e is in
    let read = parse-decimal 32 uid digits (Err error) (omega (arith, is.most)) (omega (arith, is.most)) (sym same) h in
    cc

-- what stands before the dot
number_of_name : (uid : ℕ) → uid ≤ 4294967295 → number_before_dot (name_of uid) ≡ uid
number_of_name uid most =
    let small : uid < 2 ^ 64 = omega (arith, most) in
    let size : length (name_of uid) - 1 ≡ length (decimal uid) = omega (arith, length-append (decimal uid) (46 ∷ [])) in
    let before : take (length (name_of uid) - 1) (name_of uid) ≡ decimal uid = rw size (take_at (decimal uid) (46 ∷ []) (length (decimal uid)) refl) in
    ap (digits_value 10) before ∙ digits_value-decimal own uid small

pub before_dot : (name : List ℕ) (uid : ℕ) → IsMessageName name uid → number_before_dot name ≡ uid
before_dot name uid is = ap number_before_dot is.spelled ∙ number_of_name uid is.most

-- two texts are the same where the test says so
pub same_text : (a b : List ℕ) → pointwise nat_eq a b ≡ true → a ≡ b
same_text a b same = (slice_eq-Decides Decides-eqb a b (pointwise nat_eq a b) refl).0 same

pub text_same : (a b : List ℕ) → a ≡ b → pointwise nat_eq a b ≡ true
text_same a b same = (slice_eq-Decides Decides-eqb a b (pointwise nat_eq a b) refl).1 same

pub both_true : (a b : Bool) → (a && b) ≡ true → (a ≡ true) × (b ≡ true)
both_true true true h = (refl, refl)
both_true true false h = absurd (cc)
both_true false b h = absurd (cc)

-- the test tells the names of messages
pub tells_message : (name : List ℕ) (uid : ℕ) → IsMessageName name uid → is_message_name name ≡ true
tells_message name uid is =
    let number = before_dot name uid is in
    let spelled = text_same name (decimal uid ++ (46 ∷ [])) is.spelled in
    let least : 1 ≤ uid = is.least in
    let most : uid ≤ 4294967295 = is.most in
    rw number (grind (arith, nat_tests, common_steps))

pub tells_no_other : (name : List ℕ) → is_message_name name ≡ true → IsMessageName name (number_before_dot name)
tells_no_other name is =
    let parts = both_true (pointwise nat_eq name (decimal (number_before_dot name) ++ (46 ∷ [])) && nat_le 1 (number_before_dot name)) (nat_le (number_before_dot name) 4294967295) is in
    let first = both_true (pointwise nat_eq name (decimal (number_before_dot name) ++ (46 ∷ []))) (nat_le 1 (number_before_dot name)) parts.0 in
    record { least = grind (arith, nat_tests, first.1); most = grind (arith, nat_tests, parts.1); spelled = same_text _ _ first.0 }

-- the uid by which the names are put in order
pub uid_is : (uid : Option ℕ) (name : List ℕ) → MatchOption uid ((n : ℕ) → IsMessageName name n → ⊥) (IsMessageName name) → unwrap_or uid 0 ≡ uid_in name
uid_is None name none =
    elim (is_message_name name) as (λ b. is_message_name name ≡ b → 0 ≡ uid_in name) [
      | true ↦ λ e. absurd (none (number_before_dot name) (tells_no_other name e))
      | false ↦ λ e. rw e refl
    ] refl
uid_is (Some uid) name is = rw (tells_message name uid is) (sym (before_dot name uid is))

-- the uid of the name that it spells
pub spelled_uid : (uid : ℕ) → uid ≤ 4294967295 → uid_in (name_of uid) ≡ uid
spelled_uid uid most = go uid refl (is_message_name (name_of uid)) refl
  where
    go : (n : ℕ) → n ≡ uid → (b : Bool) → is_message_name (name_of uid) ≡ b → (if b then number_before_dot (name_of uid) else 0) ≡ uid
    go n same true is = number_of_name uid most
    go zero same false is = same
    go (suc n) same false is =
        let tells = tells_message (name_of uid) uid (record { least = omega (arith, same); most = most; spelled = refl }) in
        absurd (cc)
