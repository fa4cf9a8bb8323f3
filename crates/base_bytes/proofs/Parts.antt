-- Parts of a file, and the numbers in them.
use Rattle.std.proofs.Common.{◌≡◌, ℕ, suc, ◌+◌, ◌^◌, ◌<◌, ◌≤◌, List, [], ◌∷◌, ◌++◌, length, get_or, take, drop, refl, sym, ap, ◌∙◌, inl, inr, arith}
use Rattle.std.specs.Int.{w32, w64, to_be_bytes}
use Rattle.std.proofs.lemmas.Bool.{cases_lt}
use Rattle.std.proofs.lemmas.List.{drop_more, length-take, length-drop, get_or-take, get_or-drop, get_or_past, drop-drop}
use Rattle.std.proofs.lemmas.Nat.{be_bytes_4, be_bytes_8}
use Rattle.std.proofs.Math.Seq.{take-add}
use Rattle.base_bytes.specs.Fields.{AreBytes, part, u32_in, u64_in}

-- ---- parts

pub part-suc : (b : List ℕ) (at next count : ℕ) → next ≡ at + 1 → at < length b → part b at (suc count) ≡ get_or b at 0 ∷ part b next count
unfolding part
part-suc b at next count e lt = ap (take (suc count)) (drop_more b at 0 lt) ∙ ap (λ (n : ℕ). get_or b at 0 ∷ take count (drop n b)) (sym e)

pub part-zero : (b : List ℕ) (at : ℕ) → part b at 0 ≡ []
unfolding part
part-zero b at = refl

pub part-2 : (b : List ℕ) (at : ℕ) → at + 2 ≤ length b → part b at 2 ≡ get_or b at 0 ∷ get_or b (at + 1) 0 ∷ []
part-2 b at within = part-suc b at (at + 1) 1 refl (omega arith)
    ∙ ap (λ r. get_or b at 0 ∷ r) (part-suc b (at + 1) (at + 2) 0 (omega arith) (omega arith) ∙ ap (λ r. get_or b (at + 1) 0 ∷ r) (part-zero b (at + 2)))

pub part-add : (b : List ℕ) (at m n : ℕ) → part b at (m + n) ≡ part b at m ++ part b (at + m) n
unfolding part
part-add b at m n = take-add m n (drop at b) ∙ ap (λ (r : List ℕ). take m (drop at b) ++ take n r) (drop-drop m at b)

pub part-4 : (b : List ℕ) (at : ℕ) → at + 4 ≤ length b → part b at 4 ≡ get_or b at 0 ∷ get_or b (at + 1) 0 ∷ get_or b (at + 2) 0 ∷ get_or b (at + 3) 0 ∷ []
part-4 b at within =
    let a2 : at + 2 + 1 ≡ at + 3 = omega arith in
    part-add b at 2 2 ∙ ap (λ r. r ++ part b (at + 2) 2) (part-2 b at (omega arith))
    ∙ ap (λ r. get_or b at 0 ∷ get_or b (at + 1) 0 ∷ r) (part-2 b (at + 2) (omega arith) ∙ ap (λ (k : ℕ). get_or b (at + 2) 0 ∷ get_or b k 0 ∷ []) a2)

pub part-8 : (b : List ℕ) (at : ℕ) → at + 8 ≤ length b → part b at 8 ≡ get_or b at 0 ∷ get_or b (at + 1) 0 ∷ get_or b (at + 2) 0 ∷ get_or b (at + 3) 0 ∷ get_or b (at + 4) 0 ∷ get_or b (at + 5) 0 ∷ get_or b (at + 6) 0 ∷ get_or b (at + 7) 0 ∷ []
part-8 b at within =
    let a5 : at + 4 + 1 ≡ at + 5 = omega arith in
    let a6 : at + 4 + 2 ≡ at + 6 = omega arith in
    let a7 : at + 4 + 3 ≡ at + 7 = omega arith in
    part-add b at 4 4 ∙ ap (λ r. r ++ part b (at + 4) 4) (part-4 b at (omega arith))
    ∙ ap (λ r. get_or b at 0 ∷ get_or b (at + 1) 0 ∷ get_or b (at + 2) 0 ∷ get_or b (at + 3) 0 ∷ r)
    (part-4 b (at + 4) (omega arith) ∙ (λ i. get_or b (at + 4) 0 ∷ get_or b (a5 i) 0 ∷ get_or b (a6 i) 0 ∷ get_or b (a7 i) 0 ∷ []))

pub length-part : (b : List ℕ) (at count : ℕ) → at + count ≤ length b → length (part b at count) ≡ count
unfolding part
length-part b at count within = omega (arith, length-take count (drop at b), length-drop at b)

pub AreBytes-part : (b : List ℕ) (at count : ℕ) → AreBytes b → AreBytes (part b at count)
unfolding part
AreBytes-part b at count fits i = elim (cases_lt i count) [
  | inl lt ↦ rw (get_or-take count (drop at b) i 0 lt, get_or-drop at b i 0) (fits (at + i))
  | inr le ↦ rw (get_or_past (take count (drop at b)) i 0 (omega (arith, length-take count (drop at b)))) (omega arith)
]

-- ---- numbers

-- the number's bytes are those that stand there
pub to_be_bytes-u32_in : (b : List ℕ) (at : ℕ) → AreBytes b → at + 4 ≤ length b → to_be_bytes w32 (u32_in (part b at 4)) ≡ part b at 4
unfolding u32_in
to_be_bytes-u32_in b at fits within = be_bytes_4 (part b at 4) _ (length-part b at 4 within) (AreBytes-part b at 4 fits) refl

pub to_be_bytes-u64_in : (b : List ℕ) (at : ℕ) → AreBytes b → at + 8 ≤ length b → to_be_bytes w64 (u64_in (part b at 8)) ≡ part b at 8
unfolding u64_in
to_be_bytes-u64_in b at fits within = be_bytes_8 (part b at 8) _ (length-part b at 8 within) (AreBytes-part b at 8 fits) refl

pub u32_in-lt : (b : List ℕ) (at : ℕ) → AreBytes b → u32_in (part b at 4) < 2 ^ 32
unfolding u32_in
u32_in-lt b at fits = let f = AreBytes-part b at 4 fits in omega (arith, f 0, f 1, f 2, f 3)

pub u64_in-lt : (b : List ℕ) (at : ℕ) → AreBytes b → u64_in (part b at 8) < 2 ^ 64
unfolding u64_in
u64_in-lt b at fits = let f = AreBytes-part b at 8 fits in omega (arith, f 0, f 1, f 2, f 3, f 4, f 5, f 6, f 7)

-- ---- joined lists

-- two joined lists whose first parts are equally long
pub append_parts : (a b x y : List ℕ) → length a ≡ length b → a ++ x ≡ b ++ y → (a ≡ b) × (x ≡ y)
append_parts [] [] x y l e = (refl, e)
append_parts [] (b ∷ bs) x y l e = absurd (omega (arith, l))
append_parts (a ∷ as') [] x y l e = absurd (omega (arith, l))
append_parts (a ∷ as') (b ∷ bs) x y l e =
    let head : a ≡ b = cc in
    let tail : as' ++ x ≡ bs ++ y = cc in
    let rest = append_parts as' bs x y (omega (arith, l)) tail in
    (let first = rest.0 in cc, rest.1)
