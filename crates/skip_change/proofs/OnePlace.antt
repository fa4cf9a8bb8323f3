-- A key has one place among live records.
use Rattle.std.proofs.Common.{◌≡◌, ℕ, List, [], ◌∷◌, ◌++◌, refl, sym, ap, subst, ◌∙◌, inl, inr, ◌⊎◌}
use Rattle.std.specs.List.{AllByRecursion}
use Rattle.base_bytes.specs.OrderedMap.{IsBelow, BeginsAbove}
use Rattle.skip_spec.specs.Chain.{Entry, pairs}
use Rattle.skip_spec.specs.Change.{first_at}
use Rattle.skip_spec.specs.Live.{Live}
use Rattle.skip_spec.specs.Place.{Place, AreLast}
use Rattle.skip_spec.proofs.Lives.{bytes_live}
use Rattle.skip_spec.proofs.Splice.{below_trans, below_not_same}
use Rattle.skip_change.specs.Changing.{HasSpot}
use Rattle.skip_change.specs.declared.spot.Spot.{Spot}

-- the first of these is not below the key
abbrev BeginsNotBelow : List ℕ → List Entry → Type 0
BeginsNotBelow key m = (e : Entry) (es : List Entry) → m ≡ e ∷ es → IsBelow e.key key → ⊥

front_same : (key : List ℕ) (f m g n : List Entry) → f ++ m ≡ g ++ n → AllByRecursion (λ e. IsBelow e.key key) f → AllByRecursion (λ e. IsBelow e.key key) g → BeginsNotBelow key m → BeginsNotBelow key n → (f ≡ g) × (m ≡ n)
front_same key [] m [] n e bf bg nm nn = (refl, e)
front_same key [] m (y ∷ g) n e bf bg nm nn = absurd (nm y (g ++ n) e bg.0)
front_same key (x ∷ f) m [] n e bf bg nm nn = absurd (nn x (f ++ m) (sym e) bf.0)
front_same key (x ∷ f) m (y ∷ g) n e bf bg nm nn =
    let head : x ≡ y = cc e in
    let tail : f ++ m ≡ g ++ n = cc e in
    let rest = front_same key f m g n tail bf.1 bg.1 nm nn in
    (cc (head, rest.0), rest.1)

not_above : (key : List ℕ) (rest : List Entry) → BeginsAbove key (pairs rest) → BeginsNotBelow key rest
not_above key [] above e es is below = absurd (cc is)
not_above key (r ∷ rest) above e es is below =
    let same : r ≡ e = cc is in
    below_not_same key key (below_trans key e.key key (subst (λ (x : Entry). IsBelow key x.key) same above) below) refl

not_below : (es : List Entry) (key : List ℕ) (place : Place es key) → BeginsNotBelow key (place.dropped ++ place.rest)
not_below es key place = of place.dropped place.same_key
  where
    of : (ds : List Entry) → (ds ≡ []) ⊎ ((e : Entry) × (ds ≡ e ∷ []) × (e.key ≡ key)) → BeginsNotBelow key (ds ++ place.rest)
    of ds (inl none) = subst (λ (x : List Entry). BeginsNotBelow key (x ++ place.rest)) (sym none) (not_above key place.rest place.above)
    of ds (inr one) = subst (λ (x : List Entry). BeginsNotBelow key (x ++ place.rest)) (sym one.1) (λ e es is below.
        let same : one.0 ≡ e = cc is in
        below_not_same e.key key below (ap (λ (x : Entry). x.key) (sym same) ∙ one.2))

dropped_same : (key : List ℕ) (ds rest es more : List Entry) → ds ++ rest ≡ es ++ more → (ds ≡ []) ⊎ ((e : Entry) × (ds ≡ e ∷ []) × (e.key ≡ key)) → (es ≡ []) ⊎ ((e : Entry) × (es ≡ e ∷ []) × (e.key ≡ key)) → BeginsAbove key (pairs rest) → BeginsAbove key (pairs more) → (ds ≡ es) × (rest ≡ more)
dropped_same key ds rest es more e (inl none) (inl nothing) above beyond = (none ∙ sym nothing, sym (ap (λ (x : List Entry). x ++ rest) none) ∙ e ∙ ap (λ (x : List Entry). x ++ more) nothing)
dropped_same key ds rest es more e (inl none) (inr one) above beyond =
    let is : rest ≡ one.0 ∷ more = sym (ap (λ (x : List Entry). x ++ rest) none) ∙ e ∙ ap (λ (x : List Entry). x ++ more) one.1 in
    absurd (below_not_same key one.0.key (subst (λ (x : List Entry). BeginsAbove key (pairs x)) is above) (sym one.2))
dropped_same key ds rest es more e (inr one) (inl none) above beyond =
    let is : more ≡ one.0 ∷ rest = sym (ap (λ (x : List Entry). x ++ more) none) ∙ sym e ∙ ap (λ (x : List Entry). x ++ rest) one.1 in
    absurd (below_not_same key one.0.key (subst (λ (x : List Entry). BeginsAbove key (pairs x)) is beyond) (sym one.2))
dropped_same key ds rest es more e (inr one) (inr other) above beyond =
    let is : one.0 ∷ rest ≡ other.0 ∷ more = sym (ap (λ (x : List Entry). x ++ rest) one.1) ∙ e ∙ ap (λ (x : List Entry). x ++ more) other.1 in
    let head : one.0 ≡ other.0 = cc is in
    let tail : rest ≡ more = cc is in
    (one.1 ∙ ap (λ (x : Entry). x ∷ []) head ∙ sym other.1, tail)

pub record SamePlace (es fs : List Entry) (key : List ℕ) (p : Place es key) (q : Place fs key) : Type 0 where
  pub front : p.front ≡ q.front
  pub dropped : p.dropped ≡ q.dropped
  pub rest : p.rest ≡ q.rest

pub place_same : (es fs : List Entry) (key : List ℕ) (p : Place es key) (q : Place fs key) → es ≡ fs → SamePlace es fs key p q
place_same es fs key p q e =
    let one = front_same key p.front (p.dropped ++ p.rest) q.front (q.dropped ++ q.rest) (sym p.split ∙ e ∙ q.split) p.below q.below (not_below es key p) (not_below fs key q) in
    let two = dropped_same key p.dropped p.rest q.dropped q.rest one.1 p.same_key q.same_key p.above q.above in
    record { front = one.0; dropped = two.0; rest = two.1 }

-- the same spot, by any list of the live records and by any place of the key
abbrev pub spot_at : (b key : List ℕ) (spot : Spot) → HasSpot b key spot → (starts : List ℕ) (es : List Entry) → Live b starts es → Place es key → HasSpot b key spot
spot_at b key spot s starts es live place =
    let same = place_same s.es es key s.found.place place (sym (bytes_live b s.starts s.es s.live) ∙ bytes_live b starts es live) in
    record {
      starts = starts;
      es = es;
      live = live;
      found = record {
        place = place;
        last = subst (λ (front : List Entry). AreLast spot.before front) same.front s.found.last;
        same_is = s.found.same_is ∙ ap first_at same.dropped;
        next_is = s.found.next_is ∙ ap first_at same.rest;
      };
    }
