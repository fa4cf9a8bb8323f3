-- A text of digits that `parse` refuses writes a number past the type.
use Rattle.std.proofs.Common.{arith, refl, ◌≡◌, ◌≤◌, ◌<◌, ◌^◌, ◌&&◌, ℕ, Bool, true, false, List, length, Result, Option, Some, None, Err, Ok, if◌then◌else◌, nat_le, le-leb, leb-true, ltb-true}
use Rattle.std.specs.Char.{is_ascii_digit}
use Rattle.std.specs.Str.Parse.{ParsesUnsigned, digits_value}
use Rattle.std.proofs.lemmas.Str.Parse.{IsDigitsTest, numerals_by_value, parse_gives}
use Rattle.clap.proofs.WalkLemmas.{both}
use Rattle.tool_words.specs.Numbers.{count_of, is_count, is_digits}

tells_digits : IsDigitsTest (λ text. is_digits text ≡ true)
tells_digits = record {
  empty = refl;
  parts = λ c cs e. let k = both (is_ascii_digit c) (is_digits cs) e in ((leb-true 48 c (both (nat_le 48 c) (nat_le c 57) k.0).0, leb-true c 57 (both (nat_le 48 c) (nat_le c 57) k.0).1), k.1);
  more = λ c cs k e. rw (le-leb 48 c k.0, le-leb c 57 k.1, e) refl;
}

abbrev refused_is : (E : Type 0) → E → ℕ → Type 0
refused_is E error number = let refused : Result ℕ E = Err error in refused ≡ Ok number

reads : (E : Type 0) (digits most : ℕ) (text : List ℕ) (error : E) → most < 2 ^ 32 → ParsesUnsigned {E = E} 32 10 text (Err error)
    → is_count digits most text ≡ true → refused_is E error (digits_value 10 text)
reads E digits most text error fits refused is =
    let a = both (is_digits text) _ is in
    let b = both _ _ a.1 in
    let c = both _ _ b.1 in
    let small = leb-true (digits_value 10 text) most c.1 in
    parse_gives (numerals_by_value _ tells_digits) 32 text (Err error) refused a.0 (ltb-true 0 (length text) b.0) (omega arith)

pub no_count : (E : Type 0) (digits most : ℕ) (text : List ℕ) (error : E) → most < 2 ^ 32 → ParsesUnsigned {E = E} 32 10 text (Err error)
    → None ≡ count_of digits most text
no_count E digits most text error fits refused = go (is_count digits most text) (reads E digits most text error fits refused)
  where
    go : (b : Bool) → (b ≡ true → refused_is E error (digits_value 10 text)) → None ≡ (if b then Some (digits_value 10 text) else None)
    go true h = let e = h refl in cc
    go false h = refl
