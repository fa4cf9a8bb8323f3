use Rattle.std.proofs.Common.{◌≡◌, ◌≤◌, Some, None, get_or, length, ap, arith}
use Rattle.std.proofs.lemmas.Str.Pattern.{strip_suffix_char}
use Rattle.mail_scan.proofs.NameLemmas.{no_dot, first_digit, parsed}
use Rattle.mail_scan.proofs.names.uid_of_name.Goals as goal

pub returns-in_err-digits : goal.returns-in_err-digits
returns-in_err-digits c =
    let none = strip_suffix_char 46 c.args.name.now None c.in_err-digits.ensures.cases (omega arith) in
    rw c.from_residual.ensures (no_dot c.args.name.now none)

pub returns-in-49-to-57 : goal.returns-in-49-to-57
returns-in-49-to-57 c =
    let whole = strip_suffix_char 46 c.args.name.now (Some c.in_ok-digits.digits) c.in_ok-digits.ensures.cases (omega arith) in
    let same : c.as_bytes.result.now ≡ c.in_ok-digits.digits.now = c.as_bytes.ensures.value in
    let first : 49 ≤ get_or c.in_ok-digits.digits.now 0 0 = omega (arith, ap (λ ds. get_or ds 0 0) same) in
    let read = parsed c.args.name.now c.in_ok-digits.digits.now c.parse.result whole first c.parse.ensures.value.0 in
    rw c.ok.ensures.value read

pub returns-in_default : goal.returns-in_default
returns-in_default c uid is =
    let whole = strip_suffix_char 46 c.args.name.now (Some c.in_ok-digits.digits) c.in_ok-digits.ensures.cases (omega arith) in
    let same : c.as_bytes.result.now ≡ c.in_ok-digits.digits.now = c.as_bytes.ensures.value in
    let first = first_digit c.args.name.now c.in_ok-digits.digits.now whole uid is in
    omega (arith, first, ap (λ ds. get_or ds 0 0) same, ap length same)

pub returns-in_default-2 : goal.returns-in_default-2
returns-in_default-2 c uid is =
    let whole = strip_suffix_char 46 c.args.name.now (Some c.in_ok-digits.digits) c.in_ok-digits.ensures.cases (omega arith) in
    let same : c.as_bytes.result.now ≡ c.in_ok-digits.digits.now = c.as_bytes.ensures.value in
    let first = first_digit c.args.name.now c.in_ok-digits.digits.now whole uid is in
    omega (arith, first, ap (λ ds. get_or ds 0 0) same, ap length same)

pub returns-in_default-3 : goal.returns-in_default-3
returns-in_default-3 c uid is =
    let whole = strip_suffix_char 46 c.args.name.now (Some c.in_ok-digits.digits) c.in_ok-digits.ensures.cases (omega arith) in
    let same : c.as_bytes.result.now ≡ c.in_ok-digits.digits.now = c.as_bytes.ensures.value in
    let first = first_digit c.args.name.now c.in_ok-digits.digits.now whole uid is in
    omega (arith, first, ap (λ ds. get_or ds 0 0) same, ap length same)
