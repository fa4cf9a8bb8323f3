use Rattle.std.proofs.Common.{Some, ap, sym, ◌∙◌, arith}
use Rattle.std.proofs.lemmas.Int.{ints}
use Rattle.mail_scan.proofs.DateLemmas.{ok_holds, day_number-some}
use Rattle.mail_scan.proofs.dates.day_since_1970.Goals as goal

pub returns-clause-value : goal.returns-clause-value
returns-clause-value c =
    let parts = ok_holds _ _ c.in_ok-date.date c.new.ensures.value c.in_ok-date.ensures.value in
    let number = day_number-some c.args.year c.args.month c.args.day c.in_ok-date.date (omega (arith, ints, parts)) (omega (arith, ints, parts)) (omega (arith, ints, parts)) in
    ap (λ n. Some n) (omega (arith, ints, c.to_unix_epoch_day.ensures.value, c.to_unix_epoch_day.ensures.bound)) ∙ sym number
