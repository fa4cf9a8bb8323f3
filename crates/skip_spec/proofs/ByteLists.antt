-- Joined lists of bytes.
use Rattle.std.proofs.Common.{ℕ, zero, suc, List, [], ◌∷◌, ◌++◌, take, replicate, inl, inr, arith}
use Rattle.std.proofs.lemmas.List.{get_or-take, get_or_past, length-take}
use Rattle.std.proofs.lemmas.Bool.{cases_lt}
use Rattle.base_bytes.specs.Fields.{AreBytes}

pub bytes-append : (xs ys : List ℕ) → AreBytes xs → AreBytes ys → AreBytes (xs ++ ys)
bytes-append [] ys fx fy i = fy i
bytes-append (x ∷ xs) ys fx fy zero = fx zero
bytes-append (x ∷ xs) ys fx fy (suc i) = bytes-append xs ys (λ j. fx (suc j)) fy i

pub bytes-take : (n : ℕ) (xs : List ℕ) → AreBytes xs → AreBytes (take n xs)
bytes-take n xs f i = elim (cases_lt i n) [
  | inl lt ↦ rw (get_or-take n xs i 0 lt) (f i)
  | inr le ↦ rw (get_or_past (take n xs) i 0 (omega (arith, length-take n xs))) (omega arith)
]

pub bytes-zeros : (n : ℕ) → AreBytes (replicate n 0)
bytes-zeros zero i = omega arith
bytes-zeros (suc n) zero = omega arith
bytes-zeros (suc n) (suc i) = bytes-zeros n i
