-- The bits that mark the starts.
use Rattle.std.proofs.Common.{◌≡◌, ◌≢◌, ℕ, ◌*◌, ◌/◌, ◌%◌, ◌^◌, ◌<◌, eqb, List, [], ◌∷◌, ◌++◌, length, get_or, set, refl, sym, ap, subst, ◌∙◌, inl, inr, arith, ◌⊎◌, bit_or, bit_and, IsTrue}
use Rattle.std.specs.Int.{bit_at, w8}
use Rattle.std.proofs.lemmas.Bool.{cases_eq, eqb-true}
use Rattle.std.proofs.lemmas.List.{get_or-set_same, get_or-set_other, length-set}
use Rattle.std.proofs.lemmas.Nat.Bits.{bit_at_set_same, bit_at_set_other, shr_and_one}
use Rattle.skip_spec.specs.Rows.{IsAmong}
use Rattle.skip_image.specs.Verifying.{Marks}

among_push : (xs : List ℕ) (x y : ℕ) → IsAmong (xs ++ x ∷ []) y → IsAmong xs y ⊎ (x ≡ y)
among_push [] x y (inl e) = inr e
among_push [] x y (inr m) = absurd m
among_push (z ∷ zs) x y (inl e) = inl (inl e)
among_push (z ∷ zs) x y (inr m) = elim (among_push zs x y m) [ inl n ↦ inl (inr n) | inr e ↦ inr e ]

pub among_left : (xs : List ℕ) (x y : ℕ) → IsAmong xs y → IsAmong (xs ++ x ∷ []) y
among_left (z ∷ zs) x y (inl e) = inl e
among_left (z ∷ zs) x y (inr m) = inr (among_left zs x y m)
among_left [] x y m = absurd m

pub among_last : (xs : List ℕ) (x y : ℕ) → x ≡ y → IsAmong (xs ++ x ∷ []) y
among_last [] x y e = inl e
among_last (z ∷ zs) x y e = inr (among_last zs x y e)

abbrev new_byte : List ℕ → ℕ → ℕ
new_byte marks place = bit_or (get_or marks (place / 8) 0) (1 * 2 ^ (place % 8) % 256)

bit_here : (marks : List ℕ) (place k : ℕ) → place < 8 * length marks → k ≡ place → bit_at (get_or (set marks (place / 8) (new_byte marks place)) (k / 8) 0) (k % 8) ≡ 1
bit_here marks place k lt e =
    let inside : place / 8 < length marks = omega arith in
    let here = get_or-set_same marks (place / 8) (new_byte marks place) 0 inside in
    ap (λ (n : ℕ). bit_at (get_or (set marks (place / 8) (new_byte marks place)) (n / 8) 0) (n % 8)) e ∙ ap (λ (n : ℕ). bit_at n (place % 8)) here ∙ bit_at_set_same w8 (get_or marks (place / 8) 0) (place % 8) (omega arith)

bit_there : (marks : List ℕ) (place k : ℕ) → place < 8 * length marks → k ≢ place → bit_at (get_or (set marks (place / 8) (new_byte marks place)) (k / 8) 0) (k % 8) ≡ bit_at (get_or marks (k / 8) 0) (k % 8)
bit_there marks place k lt ne =
    let inside : place / 8 < length marks = omega arith in
    elim (cases_eq (k / 8) (place / 8)) [
      | inl e ↦
          let other : k % 8 ≢ place % 8 = λ f. ne (omega (arith, e, f)) in
          ap (λ (n : ℕ). bit_at (get_or (set marks (place / 8) (new_byte marks place)) n 0) (k % 8)) e
          ∙ ap (λ (n : ℕ). bit_at n (k % 8)) (get_or-set_same marks (place / 8) (new_byte marks place) 0 inside)
          ∙ bit_at_set_other w8 (get_or marks (place / 8) 0) (place % 8) (omega arith) (k % 8) other
          ∙ ap (λ (n : ℕ). bit_at (get_or marks n 0) (k % 8)) (sym e)
      | inr other ↦ ap (λ (n : ℕ). bit_at n (k % 8)) (get_or-set_other marks (place / 8) (k / 8) (new_byte marks place) 0 other)
    ]

pub marks_push : (marks starts : List ℕ) (at place : ℕ) → at ≡ 8 * place → place < 8 * length marks → Marks marks starts → Marks (set marks (place / 8) (new_byte marks place)) (starts ++ at ∷ [])
marks_push marks starts at place is lt old k within =
    let within' : k < 8 * length marks = omega (arith, length-set marks (place / 8) (new_byte marks place)) in
    elim (cases_eq k place) [
      | inl e ↦ (λ bit. among_last starts at (8 * k) (omega arith), λ m. bit_here marks place k lt e)
      | inr ne ↦ (
        λ bit. among_left starts at (8 * k) ((old k within').0 (sym (bit_there marks place k lt ne) ∙ bit)),
        λ m. bit_there marks place k lt ne ∙ (old k within').1 (elim (among_push starts at (8 * k) m) [ inl n ↦ n | inr e ↦ absurd (ne (omega (arith, e))) ]),
      )
    ]

pub marks_read : (marks starts : List ℕ) (at place : ℕ) → at ≡ 8 * place → place < 8 * length marks → Marks marks starts → (IsTrue (eqb (bit_and (get_or marks (place / 8) 0 / 2 ^ (place % 8)) 1) 1) → IsAmong starts at) × (IsAmong starts at → IsTrue (eqb (bit_and (get_or marks (place / 8) 0 / 2 ^ (place % 8)) 1) 1))
marks_read marks starts at place is lt old =
    let bit = shr_and_one (get_or marks (place / 8) 0) (place % 8) in (
      λ t. subst (λ (v : ℕ). IsAmong starts v) (sym is) ((old place lt).0 (sym bit ∙ eqb-true _ 1 t)),
      λ m. subst (λ (n : ℕ). IsTrue (eqb n 1)) (sym (bit ∙ (old place lt).1 (subst (λ (v : ℕ). IsAmong starts v) is m))) refl,
    )
