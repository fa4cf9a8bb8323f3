-- A walk along rising keys ends.
use Rattle.std.proofs.Common.{◌≡◌, ℕ, zero, suc, ◌<◌, ◌≤◌, Bool, true, false, cond, List, refl, sym, ap, ◌∙◌, inl, inr, arith}
use Rattle.std.proofs.lemmas.Bool.{cases_lt}
use Rattle.base_bytes.specs.OrderedMap.{IsBelow}
use Rattle.skip_spec.specs.Records.{key_in}
use Rattle.skip_spec.proofs.Splice.{below_trans}
use Rattle.skip_seek.specs.Climbing.{comes_before, tally}
use Rattle.skip_seek.proofs.Walking.{is_less, less_is, itself_not}

tally_step : (s t : Bool) → (s ≡ true → t ≡ true) → cond s 1 0 ≤ cond t 1 0
tally_step true true f = omega arith
tally_step true false f = absurd (let e = f refl in cc)
tally_step false true f = omega arith
tally_step false false f = omega arith

tally_le : (p q : ℕ → Bool) (n : ℕ) → ((u : ℕ) → p u ≡ true → q u ≡ true) → tally p n ≤ tally q n
tally_le p q zero h = omega arith
tally_le p q (suc n) h =
    let rest = tally_le p q n h in
    let one = tally_step (p n) (q n) (h n) in
    omega (arith, rest, one)

tally_falls : (p q : ℕ → Bool) (n v : ℕ) → ((u : ℕ) → p u ≡ true → q u ≡ true) → v < n → q v ≡ true → p v ≡ false → tally p n < tally q n
tally_falls p q zero v h lt lower not_yet = absurd (omega arith)
tally_falls p q (suc n) v h lt lower not_yet = elim (cases_lt v n) [
  | inl below ↦ omega (arith, tally_falls p q n v h below lower not_yet, tally_step (p n) (q n) (h n))
  | inr le ↦
      let e : v ≡ n = omega arith in
      let qn : ◌≡◌ {A = ℕ} (cond (q n) 1 0) 1 = ap (λ (t : Bool). cond t 1 0) (ap q (sym e) ∙ lower) in
      let pn : ◌≡◌ {A = ℕ} (cond (p n) 1 0) 0 = ap (λ (t : Bool). cond t 1 0) (ap p (sym e) ∙ not_yet) in
      omega (arith, qn, pn, tally_le p q n h)
]

pub measure_falls : (b : List ℕ) (end at next : ℕ) → next < end → IsBelow (key_in b at) (key_in b next) → tally (λ v. comes_before (key_in b next) (key_in b v)) end < tally (λ v. comes_before (key_in b at) (key_in b v)) end
measure_falls b end at next lt up =
    tally_falls (λ v. comes_before (key_in b next) (key_in b v)) (λ v. comes_before (key_in b at) (key_in b v)) end next
    (λ u h. is_less _ (below_trans (key_in b at) (key_in b next) (key_in b u) up (less_is _ h))) lt (is_less _ up) (itself_not (key_in b next))
