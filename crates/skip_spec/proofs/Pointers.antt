-- The level-zero pointer of a record as a function of its bytes.
use Rattle.std.proofs.Common.{◌≡◌, ℕ, ◌<◌, ◌≤◌, max, refl, sym, ap, subst, ◌∙◌, inl, inr, arith, ◌⊎◌}
use Rattle.std.proofs.lemmas.Bool.{cases_lt, lt-ltb, le-ltb}
use Rattle.skip_spec.specs.Successor.{IsGreatestUnder, below_or_zero}

abbrev pub greatest_under : ℕ → ℕ → ℕ → ℕ
greatest_under bound x y = max (below_or_zero bound x) (below_or_zero bound y)

under : (bound n : ℕ) → n < bound → below_or_zero bound n ≡ n
under bound n lt = rw (lt-ltb n bound lt) refl

not_under : (bound n : ℕ) → bound ≤ n → below_or_zero bound n ≡ 0
not_under bound n le = rw (le-ltb n bound le) refl

-- where one is below the bound
pub is_greatest : (bound x y : ℕ) → (x < bound) ⊎ (y < bound) → IsGreatestUnder bound x y (greatest_under bound x y)
is_greatest bound x y one = elim (cases_lt x bound) [
  | inl first ↦ elim (cases_lt y bound) [
    | inl second ↦
        let is : greatest_under bound x y ≡ max x y = ap (λ (n : ℕ). max n (below_or_zero bound y)) (under bound x first) ∙ ap (max x) (under bound y second) in
        subst (IsGreatestUnder bound x y) (sym is) (record { below = omega arith; one_of = elim (cases_lt x y) [ inl lt ↦ inr (omega arith) | inr le ↦ inl (omega arith) ]; first = λ lt. omega arith; second = λ lt. omega arith })
    | inr past ↦
        let is : greatest_under bound x y ≡ max x 0 = ap (λ (n : ℕ). max n (below_or_zero bound y)) (under bound x first) ∙ ap (max x) (not_under bound y past) in
        subst (IsGreatestUnder bound x y) (sym is) (record { below = omega arith; one_of = inl (omega arith); first = λ lt. omega arith; second = λ lt. omega arith })
  ]
  | inr past ↦
      let second : y < bound = elim one [ inl lt ↦ absurd (omega arith) | inr lt ↦ lt ] in
      let is : greatest_under bound x y ≡ max 0 y = ap (λ (n : ℕ). max n (below_or_zero bound y)) (not_under bound x past) ∙ ap (max 0) (under bound y second) in
      subst (IsGreatestUnder bound x y) (sym is) (record { below = omega arith; one_of = inr (omega arith); first = λ lt. omega arith; second = λ lt. omega arith })
]

pub one_under : (bound x y v : ℕ) → IsGreatestUnder bound x y v → (x < bound) ⊎ (y < bound)
one_under bound x y v p = elim p.one_of [ inl e ↦ inl (omega (arith, p.below, e)) | inr e ↦ inr (omega (arith, p.below, e)) ]

-- the greatest is the function's
pub greatest_is : (bound x y v : ℕ) → IsGreatestUnder bound x y v → greatest_under bound x y ≡ v
greatest_is bound x y v p =
    let q = is_greatest bound x y (one_under bound x y v p) in
    grind (arith, p.one_of, q.one_of, p.below, q.below, p.first, p.second, q.first, q.second)
