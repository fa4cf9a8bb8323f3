use Rattle.std.proofs.Common.{◌≡◌, true, sym, ◌∙◌, rules}
use Rattle.mail_scan.specs.DateGrammar.{is_done}
use Rattle.mail_scan.proofs.DateLemmas.{seconds_fit, date_seconds_of-is}
use Rattle.mail_scan.proofs.dates.date_seconds.Goals as goal

pub returns : goal.returns
returns c =
    let number = seconds_fit c.in_ok-day.day c.in_ok-time.time c.try_from.result c.in_ok-day.ensures.bound c.in_ok-time.ensures.bound c.try_from.ensures in
    let ends : is_done c.in_ok-time.text.now ≡ true = search rules in
    let seconds = date_seconds_of-is c.args.text.now c.in_ok-day.text.now c.in_ok-skip_gap.field-0.now c.in_ok-time.text.now c.in_ok-day.day c.in_ok-time.time (sym c.in_ok-day.ensures.value) (sym c.in_ok-skip_gap.ensures) (sym c.in_ok-time.ensures.value) ends in
    c.ok.ensures.value ∙ number ∙ sym seconds
