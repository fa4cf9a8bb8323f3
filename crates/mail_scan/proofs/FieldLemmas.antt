-- How a header reads on in the search for its Date field.
use Rattle.std.proofs.Common.{◌≡◌, ◌≢◌, ℕ, zero, suc, ◌==◌, ◌+◌, ◌<◌, nat_eq, Bool, true, false, not, ◌&&◌, List, [], ◌∷◌, ◌++◌, map, take, drop, length, cond, get_or, codes, Option, None, Some, refl, sym, ap, ◌∙◌, arith, append_assoc, take_at, length-append, length-take, ◌↔◌, Result, Ok, Err, IsOk, OnOk, OnErr}
use Rattle.std.proofs.lemmas.List.{take_all, append-nil, drop_at, length-map, map-append, take_more}
use Rattle.std.specs.Cmp.Lexicographic.{pointwise, unequal}
use Rattle.arrayvec.specs.ArrayVec.{ArrayVec}
use Rattle.std.specs.Char.{to_ascii_lowercase}
use Rattle.std.specs.List.{list_all}
use Rattle.mail_scan.specs.DateGrammar.{is_blank, date_seconds_of}
use Rattle.std.specs.Option.{option_and_then}
use Rattle.mail_scan.specs.MessageText.{begins_date, begins_blank, field_value, date_value_from, date_value}
use Rattle.mail_scan.specs.FieldState.{IsDateName, ReadsLine, ReadsOn}
use Rattle.mail_scan.specs.declared.field_state.FieldState.TheVariants.{Name, Value, ValueCr, ValueLf, Done}
use Rattle.mail_scan.proofs.HeaderLemmas.{differs}
use Rattle.mail_scan.proofs.NameLemmas.{text_same}

-- ---- the bytes that are kept

pub kept_more : {A E : Type 0} (pushed : Result A E) (kept after : ArrayVec ℕ) (byte : ℕ) → (IsOk pushed ↔ (length kept.items < 128)) → OnOk pushed (after.items ≡ kept.items ++ byte ∷ []) → OnErr pushed (after ≡ kept) → OnErr pushed (length kept.items ≡ 128) → after.items ≡ take 128 (kept.items ++ byte ∷ [])
kept_more (Ok a) kept after byte room pushed_one same full =
    let short : length kept.items < 128 = room.0 refl in
    pushed_one ∙ sym (take_all 128 (kept.items ++ byte ∷ []) (omega (arith, length-append kept.items (byte ∷ []))))
kept_more (Err e) kept after byte room pushed_one same full = ap (λ v. v.items) same ∙ sym (take_at kept.items (byte ∷ []) 128 full)

-- the front of a value and one byte more
pub take_push : (value : List ℕ) (byte n : ℕ) → take n (take n value ++ byte ∷ []) ≡ take n (value ++ byte ∷ [])
take_push value byte zero = refl
take_push [] byte (suc n) = refl
take_push (x ∷ value) byte (suc n) = ap (λ l. x ∷ l) (take_push value byte n)

-- ---- a line that is not the field's

-- a small letter of the name is no LF
free_of_feeds : (size : ℕ) → list_all (λ byte. not (byte == 10)) (take size (codes "date:")) ≡ true
free_of_feeds zero = refl
free_of_feeds (suc zero) = refl
free_of_feeds (suc (suc zero)) = refl
free_of_feeds (suc (suc (suc zero))) = refl
free_of_feeds (suc (suc (suc (suc zero)))) = refl
free_of_feeds (suc (suc (suc (suc (suc zero))))) = refl
free_of_feeds (suc (suc (suc (suc (suc (suc n)))))) = refl

not_both : (a b : Bool) → (not a && b) ≡ true → (a ≡ false) × (b ≡ true)
not_both true b h = absurd (cc)
not_both false b h = (refl, h)

lower_feed : (byte : ℕ) → (to_ascii_lowercase byte == 10) ≡ false → (byte == 10) ≡ false
lower_feed byte other = differs byte 10 (λ is. let e : (to_ascii_lowercase byte == 10) ≡ true = rw is refl in absurd (cc))

-- the bytes of a line that holds no LF are passed over
pass_line : (line rest : List ℕ) → list_all (λ byte. not (byte == 10)) (map to_ascii_lowercase line) ≡ true → date_value_from false (line ++ rest) ≡ date_value_from false rest
unfolding date_value_from
pass_line [] rest free = refl
pass_line (byte ∷ line) rest free =
    let parts = not_both (to_ascii_lowercase byte == 10) (list_all (λ b. not (b == 10)) (map to_ascii_lowercase line)) free in
    rw (lower_feed byte parts.0) (pass_line line rest parts.1)

and_false : (a : Bool) → (a && false) ≡ false
and_false true = refl
and_false false = refl

-- a byte that the name does not have at its place
other_byte : (line name rest : List ℕ) (byte : ℕ) → map to_ascii_lowercase line ≡ take (length line) name → length line < length name → to_ascii_lowercase byte ≢ get_or name (length line) 0 → pointwise nat_eq (map to_ascii_lowercase (take (length name) (line ++ byte ∷ rest))) name ≡ false
other_byte line [] rest byte front short other = absurd (omega arith)
other_byte [] (letter ∷ name) rest byte front short other = rw (differs (to_ascii_lowercase byte) letter other) refl
other_byte (first ∷ line) (letter ∷ name) rest byte front short other =
    let tail : map to_ascii_lowercase line ≡ take (length line) name = ap (drop 1) front in
    ap (λ b. (to_ascii_lowercase first == letter) && b) (other_byte line name rest byte tail (omega arith) other) ∙ and_false (to_ascii_lowercase first == letter)

begins_no_date : (line rest : List ℕ) (byte size : ℕ) → IsDateName line size → to_ascii_lowercase byte ≢ get_or (codes "date:") size 0 → begins_date (line ++ byte ∷ rest) ≡ false
begins_no_date line rest byte size name other =
    other_byte line (codes "date:") rest byte (name.spelled ∙ ap (λ n. take n (codes "date:")) (sym name.whole)) (omega (arith, name.whole, name.some_missing)) (λ same. other (same ∙ ap (λ n. get_or (codes "date:") n 0) name.whole))

pub no_name : (line rest : List ℕ) (byte size : ℕ) → IsDateName line size → to_ascii_lowercase byte ≢ get_or (codes "date:") size 0 → date_value_from true (line ++ byte ∷ rest) ≡ date_value_from (byte == 10) rest
unfolding date_value_from
no_name [] rest byte size name other =
    let none : begins_date (byte ∷ rest) ≡ false = begins_no_date [] rest byte size name other in
    rw none refl
no_name (first ∷ line) rest byte size name other =
    let free : list_all (λ b. not (b == 10)) (map to_ascii_lowercase (first ∷ line)) ≡ true = ap (list_all (λ b. not (b == 10))) name.spelled ∙ free_of_feeds size in
    let parts = not_both (to_ascii_lowercase first == 10) (list_all (λ b. not (b == 10)) (map to_ascii_lowercase line)) free in
    let none : begins_date (first ∷ (line ++ byte ∷ rest)) ≡ false = begins_no_date (first ∷ line) rest byte size name other in
    rw (none, lower_feed first parts.0) (pass_line line (byte ∷ rest) parts.1)

-- a header that ends in the front of the name has no Date field
pub unfinished_name : (line : List ℕ) (size : ℕ) → IsDateName line size → date_value_from true line ≡ None
unfolding date_value_from
unfinished_name [] size name = refl
unfinished_name (first ∷ line) size name =
    let free : list_all (λ b. not (b == 10)) (map to_ascii_lowercase (first ∷ line)) ≡ true = ap (list_all (λ b. not (b == 10))) name.spelled ∙ free_of_feeds size in
    let parts = not_both (to_ascii_lowercase first == 10) (list_all (λ b. not (b == 10)) (map to_ascii_lowercase line)) free in
    let short : length (map to_ascii_lowercase (take 5 (first ∷ line))) ≢ length (codes "date:") = λ same. omega (arith, same, length-map (take 4 line) to_ascii_lowercase, length-take 4 line, name.whole, name.some_missing) in
    let none : begins_date (first ∷ line) ≡ false = unequal nat_eq (map to_ascii_lowercase (take 5 (first ∷ line))) (codes "date:") short in
    rw (none, lower_feed first parts.0) (ap (date_value_from false) (sym (append-nil line)) ∙ pass_line line [] parts.1)

-- the name is whole
pub whole_name : (line rest : List ℕ) → map to_ascii_lowercase line ≡ codes "date:" → date_value_from true (line ++ rest) ≡ Some (field_value rest)
unfolding date_value_from
whole_name [] rest name = absurd (cc)
whole_name (first ∷ line) rest name =
    let four : length line ≡ 4 = omega (arith, ap length name, length-map line to_ascii_lowercase) in
    let front : take 5 (first ∷ (line ++ rest)) ≡ first ∷ line = ap (λ l. first ∷ l) (take_at line rest 4 four) in
    let behind : drop 5 (first ∷ (line ++ rest)) ≡ rest = drop_at line rest 4 four in
    let found : begins_date (first ∷ (line ++ rest)) ≡ true = ap (λ l. pointwise nat_eq (map to_ascii_lowercase l) (codes "date:")) front ∙ text_same (map to_ascii_lowercase (first ∷ line)) (codes "date:") name in
    rw (found, behind) refl

-- ---- the value

pub value_line_feed : (text : List ℕ) → field_value (10 ∷ text) ≡ cond (begins_blank text) (field_value text) []
unfolding field_value
value_line_feed text = refl

pub value_return_feed : (text : List ℕ) → field_value (13 ∷ 10 ∷ text) ≡ field_value (10 ∷ text)
unfolding field_value
value_return_feed text = refl

pub value_return_other : (byte : ℕ) (text : List ℕ) → byte ≢ 10 → field_value (13 ∷ byte ∷ text) ≡ 13 ∷ field_value (byte ∷ text)
unfolding field_value
value_return_other byte text other = rw (differs byte 10 other) refl

pub value_other : (byte : ℕ) (text : List ℕ) → byte ≢ 10 → byte ≢ 13 → field_value (byte ∷ text) ≡ byte ∷ field_value text
unfolding field_value
value_other byte text feed return = rw (differs byte 10 feed, differs byte 13 return) refl

-- ---- one byte more

-- the value goes on with this byte
abbrev pub ReadsValue : List ℕ → List ℕ → ℕ → Type 0
ReadsValue header value byte = (rest : List ℕ) → date_value (header ++ byte ∷ rest) ≡ Some (value ++ field_value (byte ∷ rest))

one_more : (header rest : List ℕ) (byte : ℕ) → date_value ((header ++ byte ∷ []) ++ rest) ≡ date_value (header ++ byte ∷ rest)
one_more header rest byte = ap date_value (append_assoc header (byte ∷ []) rest)

pub reads_feed : (header value : List ℕ) (byte : ℕ) → byte ≡ 10 → ReadsValue header value byte → ReadsOn ValueLf value (header ++ byte ∷ [])
reads_feed header value byte is reads rest =
    one_more header rest byte ∙ reads rest ∙ ap (λ b. Some (value ++ field_value (b ∷ rest))) is ∙ ap (λ v. Some (value ++ v)) (value_line_feed rest)

pub reads_return : (header value : List ℕ) (byte : ℕ) → byte ≡ 13 → ReadsValue header value byte → ReadsOn ValueCr value (header ++ byte ∷ [])
reads_return header value byte is reads rest =
    one_more header rest byte ∙ reads rest ∙ ap (λ b. Some (value ++ field_value (b ∷ rest))) is

pub reads_byte : (header value : List ℕ) (byte : ℕ) → byte ≢ 10 → byte ≢ 13 → ReadsValue header value byte → ReadsOn Value (value ++ byte ∷ []) (header ++ byte ∷ [])
reads_byte header value byte feed return reads rest =
    one_more header rest byte ∙ reads rest ∙ ap (λ v. Some (value ++ v)) (value_other byte rest feed return) ∙ ap (λ v. Some v) (sym (append_assoc value (byte ∷ []) (field_value rest)))

-- behind a CR that belongs to the value, and behind one that does not
pub after_return : (header value : List ℕ) (byte : ℕ) → byte ≢ 10 → ReadsOn ValueCr value header → ReadsValue header (value ++ 13 ∷ []) byte
after_return header value byte other reads rest =
    reads (byte ∷ rest) ∙ ap (λ v. Some (value ++ v)) (value_return_other byte rest other) ∙ ap (λ v. Some v) (sym (append_assoc value (13 ∷ []) (field_value (byte ∷ rest))))

pub after_line_end : (header value : List ℕ) (byte : ℕ) → byte ≡ 10 → ReadsOn ValueCr value header → ReadsValue header value byte
after_line_end header value byte is reads rest =
    reads (byte ∷ rest) ∙ ap (λ b. Some (value ++ field_value (13 ∷ b ∷ rest))) is ∙ ap (λ v. Some (value ++ v)) (value_return_feed rest) ∙ ap (λ b. Some (value ++ field_value (b ∷ rest))) (sym is)

-- the next line goes on with the value, or ends it
pub goes_on : (header value : List ℕ) (byte : ℕ) → is_blank byte ≡ true → ReadsOn ValueLf value header → ReadsValue header value byte
goes_on header value byte blank reads rest = reads (byte ∷ rest) ∙ ap (λ t. Some (value ++ cond t (field_value (byte ∷ rest)) [])) blank

pub ends_value : (header value : List ℕ) (byte : ℕ) → is_blank byte ≡ false → ReadsOn ValueLf value header → ReadsOn Done value (header ++ byte ∷ [])
ends_value header value byte other reads rest =
    one_more header rest byte ∙ reads (byte ∷ rest) ∙ ap (λ t. Some (value ++ cond t (field_value (byte ∷ rest)) [])) other ∙ ap (λ v. Some v) (append-nil value)

pub stays_done : (header value : List ℕ) (byte : ℕ) → ReadsOn Done value header → ReadsOn Done value (header ++ byte ∷ [])
stays_done header value byte reads rest = one_more header rest byte ∙ reads (byte ∷ rest)

pub in_line : (header : List ℕ) (byte : ℕ) → ((rest : List ℕ) → date_value (header ++ rest) ≡ date_value_from false rest) → (rest : List ℕ) → date_value (header ++ byte ∷ rest) ≡ date_value_from (byte == 10) rest
unfolding date_value_from
in_line header byte reads rest = reads (byte ∷ rest)

pub other_line : (header : List ℕ) (byte : ℕ) → ((rest : List ℕ) → date_value (header ++ byte ∷ rest) ≡ date_value_from (byte == 10) rest) → (rest : List ℕ) → date_value ((header ++ byte ∷ []) ++ rest) ≡ date_value_from (byte == 10) rest
other_line header byte reads rest = one_more header rest byte ∙ reads rest

-- ---- the end of the header

whole : (header : List ℕ) → date_value (header ++ []) ≡ date_value header
whole header = ap date_value (append-nil header)

pub ends_in_name : (header line : List ℕ) (size : ℕ) → IsDateName line size → ReadsLine line header → date_value header ≡ None
ends_in_name header line size name reads = sym (whole header) ∙ reads [] ∙ ap (date_value_from true) (append-nil line) ∙ unfinished_name line size name

pub ends_in_line : (header : List ℕ) → ((rest : List ℕ) → date_value (header ++ rest) ≡ date_value_from false rest) → date_value header ≡ None
unfolding date_value_from
ends_in_line header reads = sym (whole header) ∙ reads []

pub ends_in_value : (header value : List ℕ) → ReadsOn Value value header → date_value header ≡ Some value
unfolding field_value
ends_in_value header value reads = sym (whole header) ∙ reads [] ∙ ap (λ v. Some v) (append-nil value)

pub ends_in_return : (header value : List ℕ) → ReadsOn ValueCr value header → date_value header ≡ Some (value ++ 13 ∷ [])
unfolding field_value
ends_in_return header value reads = sym (whole header) ∙ reads []

pub ends_behind_line : (header value : List ℕ) → ReadsOn ValueLf value header → date_value header ≡ Some value
ends_behind_line header value reads = sym (whole header) ∙ reads [] ∙ ap (λ v. Some v) (append-nil value)

pub ends_behind_value : (header value : List ℕ) → ReadsOn Done value header → date_value header ≡ Some value
ends_behind_value header value reads = sym (whole header) ∙ reads []

-- the name of the field, one byte longer
pub longer_name : (line : List ℕ) (byte size : ℕ) → IsDateName line size → to_ascii_lowercase byte ≡ get_or (codes "date:") size 0 → map to_ascii_lowercase (line ++ byte ∷ []) ≡ take (size + 1) (codes "date:")
longer_name line byte size name same =
    map-append to_ascii_lowercase line (byte ∷ []) ∙ ap (λ l. l ++ to_ascii_lowercase byte ∷ []) name.spelled ∙ ap (λ b. take size (codes "date:") ++ b ∷ []) same ∙ sym (take_more (codes "date:") size 0 name.some_missing)

pub reads_name : (header line : List ℕ) (byte size : ℕ) → IsDateName line size → ReadsLine line header → to_ascii_lowercase byte ≡ get_or (codes "date:") size 0 → size + 1 < 5 → ReadsOn (Name (size + 1)) [] (header ++ byte ∷ [])
reads_name header line byte size name reads same short = (
  refl,
  (
    line ++ byte ∷ [],
    record { some_missing = short; spelled = longer_name line byte size name same; whole = omega (arith, length-append line (byte ∷ []), name.whole) },
    λ rest. one_more header rest byte ∙ reads (byte ∷ rest) ∙ ap (date_value_from true) (sym (append_assoc line (byte ∷ []) rest)),
  ),
)

pub reads_whole_name : (header line : List ℕ) (byte size : ℕ) → IsDateName line size → ReadsLine line header → to_ascii_lowercase byte ≡ get_or (codes "date:") size 0 → size ≡ 4 → ReadsOn Value [] (header ++ byte ∷ [])
reads_whole_name header line byte size name reads same four rest =
    let spelled : map to_ascii_lowercase (line ++ byte ∷ []) ≡ codes "date:" = longer_name line byte size name same ∙ ap (λ n. take (n + 1) (codes "date:")) four in
    one_more header rest byte ∙ reads (byte ∷ rest) ∙ ap (date_value_from true) (sym (append_assoc line (byte ∷ []) rest)) ∙ whole_name (line ++ byte ∷ []) rest spelled

pub reads_no_name : (header line : List ℕ) (byte size : ℕ) → IsDateName line size → ReadsLine line header → to_ascii_lowercase byte ≢ get_or (codes "date:") size 0 → (rest : List ℕ) → date_value (header ++ byte ∷ rest) ≡ date_value_from (byte == 10) rest
reads_no_name header line byte size name reads other rest = reads (byte ∷ rest) ∙ no_name line rest byte size name other

-- the date of a value of which the front is kept
pub date_is : (date : Option ℕ) (kept value header : List ℕ) → date ≡ date_seconds_of kept → kept ≡ take 128 value → date_value header ≡ Some value → date ≡ option_and_then (λ v. date_seconds_of (take 128 v)) (date_value header)
date_is date kept value header is front there = is ∙ ap date_seconds_of front ∙ ap (option_and_then (λ v. date_seconds_of (take 128 v))) (sym there)
