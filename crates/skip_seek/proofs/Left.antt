-- What is left of a search: it falls by one with each step.
use Rattle.std.proofs.Common.{◌≡◌, ◌≢◌, ℕ, zero, suc, ◌+◌, ◌*◌, ◌<◌, ◌≤◌, List, [], ◌∷◌, ◌++◌, take, refl, sym, ap, ◌∙◌, inl, inr, arith}
use Rattle.std.proofs.lemmas.Bool.{cases_lt, cases_eq, lt-ltb, le-ltb, eq-eqb, ne_eqb}
use Rattle.skip_spec.specs.SearchBound.{count_above, after_last, steps_on, upper_reads, search_bound}
use Rattle.skip_seek.specs.Climbing.{left}

pub count_append : (i : ℕ) (xs ys : List ℕ) → count_above i (xs ++ ys) ≡ count_above i xs + count_above i ys
count_append i [] ys = omega arith
count_append i (x ∷ xs) ys = omega (arith, count_append i xs ys)

pub count_here : (i x : ℕ) (xs : List ℕ) → i < x → count_above i (x ∷ xs) ≡ 1 + count_above i xs
count_here i x xs lt = rw (lt-ltb i x lt) refl

pub count_not : (i x : ℕ) (xs : List ℕ) → x ≤ i → count_above i (x ∷ xs) ≡ count_above i xs
count_not i x xs le = rw (le-ltb i x le) (omega arith)

after_none : (i : ℕ) (xs : List ℕ) → count_above i xs ≡ 0 → after_last i xs ≡ xs
after_none i [] e = refl
after_none i (x ∷ xs) e = elim (cases_lt i x) [
  | inl lt ↦ absurd (omega (arith, e, count_here i x xs lt))
  | inr le ↦ let rest : count_above i xs ≡ 0 = omega (arith, e, count_not i x xs le) in rw (eq-eqb (count_above i xs) 0 rest, le-ltb i x le) refl
]

-- past a record above the level, and what stands before it
after_past : (i x : ℕ) (skipped rest : List ℕ) → i < x → after_last i (skipped ++ x ∷ rest) ≡ after_last i rest
after_past i x [] rest lt = elim (cases_eq (count_above i rest) 0) [
  | inl e ↦ rw (eq-eqb (count_above i rest) 0 e, lt-ltb i x lt) (sym (after_none i rest e))
  | inr ne ↦ rw (ne_eqb (count_above i rest) 0 ne) refl
]
after_past i x (y ∷ ys) rest lt =
    let some : count_above i (ys ++ x ∷ rest) ≢ 0 = λ e. omega (arith, e, count_append i ys (x ∷ rest), count_here i x rest lt) in
    rw (ne_eqb (count_above i (ys ++ x ∷ rest)) 0 some) (after_past i x ys rest lt)

pub advance : (i x : ℕ) (skipped rest : List ℕ) → count_above (suc i) skipped ≡ 0 → suc i < x → left (suc i) (skipped ++ x ∷ rest) ≡ 1 + left (suc i) rest
advance i x skipped rest none lt =
    let counted = count_append (suc i) skipped (x ∷ rest) in
    let here = count_here (suc i) x rest lt in
    let same = ap (left i) (after_past (suc i) x skipped rest lt) in
    omega (arith, counted, here, same, none)

pub advance_lowest : (x : ℕ) (rest : List ℕ) → 0 < x → left 0 (x ∷ rest) ≡ 2 + left 0 rest
advance_lowest x rest lt = omega (arith, count_here 0 x rest lt)

pub descend : (i : ℕ) (rest : List ℕ) → count_above (suc i) rest ≡ 0 → left (suc i) rest ≡ 1 + left i rest
descend i rest none = omega (arith, none, ap (left i) (after_none (suc i) rest none))

count_higher : (i j : ℕ) (xs : List ℕ) → i ≤ j → count_above j xs ≤ count_above i xs
count_higher i j [] le = omega arith
count_higher i j (x ∷ xs) le = elim (cases_lt j x) [
  | inl lt ↦ omega (arith, count_higher i j xs le, count_here j x xs lt, (let k : i < x = omega arith in count_here i x xs k))
  | inr high ↦ omega (arith, count_higher i j xs le, count_not j x xs high)
]

after_after : (i j : ℕ) (xs : List ℕ) → i ≤ j → after_last i (after_last j xs) ≡ after_last i xs
after_after i j [] le = refl
after_after i j (x ∷ xs) le = elim (cases_eq (count_above j xs) 0) [
  | inl e ↦ elim (cases_lt j x) [
    | inl lt ↦ rw (eq-eqb (count_above j xs) 0 e, lt-ltb j x lt) (let k : i < x = omega arith in sym (after_past i x [] xs k))
    | inr high ↦ rw (eq-eqb (count_above j xs) 0 e, le-ltb j x high) refl
  ]
  | inr ne ↦
      let some : count_above i xs ≢ 0 = λ e. ne (omega (arith, e, count_higher i j xs le)) in
      ap (after_last i) (let e : after_last j (x ∷ xs) ≡ after_last j xs = rw (ne_eqb (count_above j xs) 0 ne) refl in e) ∙ after_after i j xs le ∙ (let e : after_last i xs ≡ after_last i (x ∷ xs) = rw (ne_eqb (count_above i xs) 0 some) refl in e)
]

left_is : (levels : List ℕ) (p i : ℕ) → left i (after_last (i + 1) (take p levels)) ≡ upper_reads levels p i + 2 * (steps_on levels p 0 + 1)
left_is levels p zero = omega arith
left_is levels p (suc i) =
    let inner = ap (left i) (after_after (suc i) (suc i + 1) (take p levels) (omega arith)) in
    let same : suc i ≡ i + 1 = omega arith in
    let lower = ap (λ (n : ℕ). left i (after_last n (take p levels))) same ∙ left_is levels p i in
    omega (arith, inner, lower)

-- at the top, with no record above level 31
pub at_top : (levels : List ℕ) (p : ℕ) → count_above 31 (take p levels) ≡ 0 → left 30 (take p levels) ≡ search_bound levels p
at_top levels p none = ap (left 30) (sym (after_none 31 (take p levels) none)) ∙ left_is levels p 30
