-- Where a search begins.
use Rattle.std.proofs.Common.{◌≡◌, ℕ, suc, ◌≤◌, List, [], ◌∷◌, ◌++◌, length, take, refl, sym, ap, subst, ◌∙◌, arith}
use Rattle.std.specs.List.{AllByRecursion}
use Rattle.std.proofs.lemmas.List.{take_at}
use Rattle.skip_form.specs.Flaws.{head_in}
use Rattle.skip_form.specs.Spelling.{IsLevelOf}
use Rattle.skip_spec.specs.Chain.{Entry, Chain}
use Rattle.skip_spec.specs.SearchBound.{count_above, search_bound}
use Rattle.skip_spec.proofs.Kept.{row_at}
use Rattle.skip_spec.specs.Live.{Listed, Live}
use Rattle.skip_spec.specs.Place.{Place}
use Rattle.skip_seek.specs.Climbing.{left, Standing}
use Rattle.skip_seek.specs.Searches.{levels_of}
use Rattle.skip_seek.proofs.Left.{at_top, count_not}
use Rattle.skip_seek.proofs.Walking.{levels-append}

levels_low : (b starts : List ℕ) (es : List Entry) → Listed b starts es → AllByRecursion (λ e. e.level ≤ 31) es
levels_low b starts es l = go 64 [] es l.log.chain
  where
    go : (at : ℕ) (k : List ℕ) (es : List Entry) → Chain b (length b) starts at k es → AllByRecursion (λ e. e.level ≤ 31) es
    go at k [] ch = record {}
    go at k (e ∷ es) ch =
        let is = row_at b 336 starts (length b) e.at l.log.rows ch.1.start in
        let level = subst (λ k. IsLevelOf k (head_in b e.at).level) ch.1.kind is.head.level in
        (omega (arith, level.1, ch.1.level), go e.at e.key es ch.3)

low_front : (front back : List Entry) → AllByRecursion (λ e. e.level ≤ 31) (front ++ back) → AllByRecursion (λ e. e.level ≤ 31) front
low_front [] back all = record {}
low_front (e ∷ es) back all = (all.0, low_front es back all.1)

none_higher : (es : List Entry) → AllByRecursion (λ e. e.level ≤ 31) es → count_above 31 (levels_of es) ≡ 0
none_higher [] all = refl
none_higher (e ∷ es) all = count_not 31 e.level (levels_of es) all.0 ∙ none_higher es all.1

length-levels : (es : List Entry) → length (levels_of es) ≡ length es
length-levels [] = refl
length-levels (e ∷ es) = ap suc (length-levels es)

pub top : (b starts : List ℕ) (es : List Entry) (key : List ℕ) → Live b starts es → (place : Place es key) → (due : ℕ) × Standing place.front 30 64 due × (due ≡ search_bound (levels_of es) (length place.front))
top b starts es key live place =
    let behind = place.dropped ++ place.rest in
    let front_is : take (length place.front) (levels_of es) ≡ levels_of place.front =
    ap (λ (l : List Entry). take (length place.front) (levels_of l)) place.split
    ∙ ap (take (length place.front)) (levels-append place.front behind)
    ∙ take_at (levels_of place.front) (levels_of behind) (length place.front) (length-levels place.front) in
    let low = low_front place.front behind (subst (λ (l : List Entry). AllByRecursion (λ e. e.level ≤ 31) l) place.split (levels_low b starts es live.listed)) in
    let none : count_above 31 (take (length place.front) (levels_of es)) ≡ 0 = ap (count_above 31) front_is ∙ none_higher place.front low in (
      left 30 (levels_of place.front),
      record { front = []; mid = place.front; parts = refl; last = λ lower le. refl; cost = refl },
      sym (ap (left 30) front_is) ∙ at_top (levels_of es) (length place.front) none,
    )
