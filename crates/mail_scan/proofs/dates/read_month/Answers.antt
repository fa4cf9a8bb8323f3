use Rattle.std.proofs.Common.{◌≡◌, ◌∙◌, sym, nat_eq, rules, tests}
use Rattle.std.proofs.lemmas.Iterator.{YieldsList-from_slice}
use Rattle.std.proofs.lemmas.Iterator.Search.{position_from_yields_List}
use Rattle.std.specs.Cmp.Lexicographic.{pointwise}
use Rattle.std.specs.List.{position}
use Rattle.mail_scan.specs.DateGrammar.{month_names}
use Rattle.mail_scan.proofs.DateLemmas.{month_of-none, month_of-some}
use Rattle.mail_scan.proofs.dates.read_month.Goals as goal

pub returns-in_err-place-clause-value : goal.returns-in_err-place-clause-value
returns-in_err-place-clause-value c =
    let found : c.position.result ≡ position (λ month. pointwise nat_eq month c.in_ok-name.name) month_names = position_from_yields_List (λ month. pointwise nat_eq month c.in_ok-name.name) _ _ c.position.result c.position.ensures.ran (YieldsList-from_slice month_names cc) (λ x b q k. search (rules, tests)) in
    let none = month_of-none c.args.text.now c.in_ok-name.name c.in_ok-name.text.now (sym c.in_ok-name.ensures) (sym found ∙ c.in_err-place.was) in
    rw c.from_residual-in_err-place.ensures (sym none)

pub returns-clause-value : goal.returns-clause-value
returns-clause-value c =
    let found : c.position.result ≡ position (λ month. pointwise nat_eq month c.in_ok-name.name) month_names = position_from_yields_List (λ month. pointwise nat_eq month c.in_ok-name.name) _ _ c.position.result c.position.ensures.ran (YieldsList-from_slice month_names cc) (λ x b q k. search (rules, tests)) in
    sym (month_of-some c.args.text.now c.in_ok-name.name c.in_ok-name.text.now c.in_ok-place.place (sym c.in_ok-name.ensures) (sym found ∙ c.in_ok-place.was))
