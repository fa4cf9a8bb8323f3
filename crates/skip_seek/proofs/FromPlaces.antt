-- The pairs from a key on are those of the records from its place on.
use Rattle.std.proofs.Common.{◌≡◌, ℕ, Bool, false, List, [], ◌∷◌, ◌++◌, refl, ap, ◌∙◌}
use Rattle.std.specs.Prelude.{not, filter}
use Rattle.std.specs.List.{AllByRecursion}
use Rattle.base_bytes.specs.OrderedMap.{IsBelow, pairs_from}
use Rattle.skip_spec.specs.Chain.{Entry, pairs}
use Rattle.skip_spec.specs.Live.{Live}
use Rattle.skip_spec.specs.Place.{Place}
use Rattle.skip_spec.proofs.Successors.{chosen_first, chosen_second}
use Rattle.skip_seek.specs.Climbing.{comes_before}
use Rattle.skip_seek.proofs.Walking.{is_less, from_key}

module _ (key : List ℕ) where
  abbrev From : List ℕ × List ℕ → Bool
  From p = not (comes_before p.0 key)

  passed : (front back : List Entry) → AllByRecursion (λ e. IsBelow e.key key) front → filter From (pairs (front ++ back)) ≡ filter From (pairs back)
  passed [] back all = refl
  passed (e ∷ front) back all =
      chosen_second (From (e.key, e.value)) ((e.key, e.value) ∷ filter From (pairs (front ++ back))) (filter From (pairs (front ++ back))) (ap not (is_less _ all.0))
      ∙ passed front back all.1

  kept : (es : List Entry) → ((more : List Entry) (e : Entry) (rest : List Entry) → es ≡ more ++ e ∷ rest → comes_before e.key key ≡ false) → filter From (pairs es) ≡ pairs es
  kept [] none = refl
  kept (e ∷ es) none =
      chosen_first (From (e.key, e.value)) ((e.key, e.value) ∷ filter From (pairs es)) (filter From (pairs es)) (ap not (none [] e es refl))
      ∙ ap (λ (m : List (List ℕ × List ℕ)). (e.key, e.value) ∷ m) (kept es (λ more f rest split. none (e ∷ more) f rest (ap (λ (l : List Entry). e ∷ l) split)))

pub from_place : (b starts : List ℕ) (es : List Entry) (key : List ℕ) → Live b starts es → (place : Place es key) → pairs_from (pairs es) key ≡ pairs (place.dropped ++ place.rest)
unfolding pairs_from
from_place b starts es key live place =
    ap (λ (l : List Entry). filter (From key) (pairs l)) place.split
    ∙ passed key place.front (place.dropped ++ place.rest) place.below
    ∙ kept key (place.dropped ++ place.rest) (from_key b starts es key live place)
