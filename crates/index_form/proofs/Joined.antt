-- Fields one after the other.
use Rattle.std.proofs.Common.{◌≡◌, ℕ, zero, suc, ◌+◌, ◌^◌, ◌<◌, ◌≤◌, List, [], ◌∷◌, ◌++◌, length, take, drop, refl, sym, ap, ◌∙◌, arith, append_assoc}
use Rattle.std.specs.List.{AllByRecursion, concat}
use Rattle.std.specs.Int.{w32, w64, to_be_bytes}
use Rattle.std.proofs.lemmas.List.{append-nil, length-append, take_all, get_or-drop}
use Rattle.std.proofs.lemmas.Nat.{from_be_bytes-to_be_bytes_4, from_be_bytes-to_be_bytes_8}
use Rattle.check_word.specs.CheckWord.{check_word}
use Rattle.base_bytes.specs.Fields.{part, u32_in, u64_in, AreBytes}
use Rattle.index_form.specs.Spelling.{FitsPlace}
use Rattle.base_bytes.proofs.Parts.{AreBytes-part, part-zero, part-add, length-part, to_be_bytes-u32_in, append_parts}

-- ---- parts of a file, of these sizes

abbrev pub parts : List ℕ → ℕ → List ℕ → List (List ℕ)
parts b at [] = []
parts b at (n ∷ ns) = part b at n ∷ parts b (at + n) ns

abbrev pub total : List ℕ → ℕ
total [] = 0
total (n ∷ ns) = n + total ns

abbrev pub sizes_of : List (List ℕ) → List ℕ
sizes_of [] = []
sizes_of (x ∷ xs) = length x ∷ sizes_of xs

pub concat-parts : (b : List ℕ) (at : ℕ) (sizes : List ℕ) → concat (parts b at sizes) ≡ part b at (total sizes)
concat-parts b at [] = sym (part-zero b at)
concat-parts b at (n ∷ ns) = ap (λ (r : List ℕ). part b at n ++ r) (concat-parts b (at + n) ns) ∙ sym (part-add b at n (total ns))

pub sizes_of-parts : (b : List ℕ) (at : ℕ) (sizes : List ℕ) → at + total sizes ≤ length b → sizes_of (parts b at sizes) ≡ sizes
sizes_of-parts b at [] within = refl
sizes_of-parts b at (n ∷ ns) within =
    let first = length-part b at n (omega arith) in
    let rest = sizes_of-parts b (at + n) ns (omega arith) in
    λ i. first i ∷ rest i

-- ---- joined lists

pub length-concat : (xs : List (List ℕ)) → length (concat xs) ≡ total (sizes_of xs)
length-concat [] = refl
length-concat (x ∷ xs) = length-append x (concat xs) ∙ ap (λ (n : ℕ). length x + n) (length-concat xs)

-- fields of the same sizes that are the same when they are joined
pub concat-same : (xs ys : List (List ℕ)) → sizes_of xs ≡ sizes_of ys → concat xs ≡ concat ys → xs ≡ ys
concat-same [] [] l e = refl
concat-same [] (y ∷ ys) l e = absurd cc
concat-same (x ∷ xs) [] l e = absurd cc
concat-same (x ∷ xs) (y ∷ ys) l e =
    let first : length x ≡ length y = cc in
    let others : sizes_of xs ≡ sizes_of ys = cc in
    let split = append_parts x y (concat xs) (concat ys) first e in
    let rest = concat-same xs ys others split.1 in
    λ i. split.0 i ∷ rest i

-- ---- bytes

pub AreBytes-drop : (at : ℕ) (b : List ℕ) → AreBytes b → AreBytes (drop at b)
AreBytes-drop at b fits i = rw (get_or-drop at b i 0) (fits (at + i))

abbrev pub Small : List ℕ → Type 0
Small bytes = AllByRecursion (λ b. b < 256) bytes

pub AreBytes-Small : (bytes : List ℕ) → Small bytes → AreBytes bytes
AreBytes-Small [] small i = omega arith
AreBytes-Small (b ∷ bytes) small zero = small.0
AreBytes-Small (b ∷ bytes) small (suc i) = AreBytes-Small bytes small.1 i

pub Small-AreBytes : (bytes : List ℕ) → AreBytes bytes → Small bytes
Small-AreBytes [] fits = tt
Small-AreBytes (b ∷ bytes) fits = (fits zero, Small-AreBytes bytes (λ i. fits (suc i)))

Small-append : (xs ys : List ℕ) → Small xs → Small ys → Small (xs ++ ys)
Small-append [] ys a b = b
Small-append (x ∷ xs) ys a b = (a.0, Small-append xs ys a.1 b)

pub Small-concat : (xs : List (List ℕ)) → AllByRecursion Small xs → Small (concat xs)
Small-concat [] small = tt
Small-concat (x ∷ xs) small = Small-append x (concat xs) small.0 (Small-concat xs small.1)

pub small_4 : (n : ℕ) → Small (to_be_bytes w32 n)
small_4 n = (omega arith, (omega arith, (omega arith, (omega arith, tt))))

pub small_8 : (n : ℕ) → Small (to_be_bytes w64 n)
small_8 n = (omega arith, (omega arith, (omega arith, (omega arith, (omega arith, (omega arith, (omega arith, (omega arith, tt))))))))

pub u32_again : (bytes : List ℕ) (n : ℕ) → n < 2 ^ 32 → bytes ≡ to_be_bytes w32 n → u32_in bytes ≡ n
unfolding u32_in
u32_again bytes n lt e = ap u32_in e ∙ from_be_bytes-to_be_bytes_4 n lt

pub u64_again : (bytes : List ℕ) (n : ℕ) → n < 2 ^ 64 → bytes ≡ to_be_bytes w64 n → u64_in bytes ≡ n
unfolding u64_in
u64_again bytes n lt e = ap u64_in e ∙ from_be_bytes-to_be_bytes_8 n lt

-- ---- a check word behind the bytes that it stands over

front_part : (b : List ℕ) (n : ℕ) → part b 0 (n + 4) ≡ part b 0 n ++ part b n 4
front_part b n = part-add b 0 n 4 ∙ ap (λ (k : ℕ). part b 0 n ++ part b k 4) (let e : 0 + n ≡ n = omega arith in e)

pub check_is_spelled : (b : List ℕ) (n : ℕ) → AreBytes b → n + 4 ≤ length b → u32_in (part b n 4) ≡ check_word (part b 0 n) → part b 0 (n + 4) ≡ part b 0 n ++ to_be_bytes w32 (check_word (part b 0 n))
check_is_spelled b n fits within e =
    front_part b n ∙ ap (λ (x : List ℕ). part b 0 n ++ x) (sym (to_be_bytes-u32_in b n fits within) ∙ ap (to_be_bytes w32) e)

pub spelled_is_checked : (b front : List ℕ) (n : ℕ) → length front ≡ n → n ≤ length b → check_word front < 2 ^ 32 → part b 0 (n + 4) ≡ front ++ to_be_bytes w32 (check_word front) → (part b 0 n ≡ front) × (u32_in (part b n 4) ≡ check_word (part b 0 n))
spelled_is_checked b front n len within lt e =
    let split = append_parts (part b 0 n) front (part b n 4) (to_be_bytes w32 (check_word front)) (length-part b 0 n (omega arith) ∙ sym len) (sym (front_part b n) ∙ e) in
    (split.0, u32_again (part b n 4) (check_word front) lt split.1 ∙ ap check_word (sym split.0))

pub fits_place : (b : List ℕ) (at count : ℕ) → AreBytes b → at + count ≤ length b → FitsPlace count (part b at count)
fits_place b at count fits within = record { size = length-part b at count within; small = Small-AreBytes (part b at count) (AreBytes-part b at count fits) }

-- all the bytes
pub whole_part : (b : List ℕ) (count : ℕ) → length b ≡ count → part b 0 count ≡ b
unfolding part
whole_part b count e = take_all count b (omega (arith, e))

-- ---- fields that are put one behind the other

abbrev pub joined : List ℕ → List (List ℕ) → List ℕ
joined front [] = front
joined front (x ∷ xs) = joined (front ++ x) xs

pub joined-concat : (front : List ℕ) (xs : List (List ℕ)) → joined front xs ≡ front ++ concat xs
joined-concat front [] = sym (append-nil front)
joined-concat front (x ∷ xs) = joined-concat (front ++ x) xs ∙ append_assoc front x (concat xs)

-- a field behind what was put so far
pub one_more : (at count : ℕ) (field stated front old new : List ℕ) → field ≡ stated → length stated ≡ count → take (at + length field) new ≡ take at old ++ field → take at old ≡ front → take (at + count) new ≡ front ++ stated
one_more at count field stated front old new same size put so_far =
    ap (λ (n : ℕ). take (at + n) new) (sym size ∙ ap (λ (x : List ℕ). length x) (sym same)) ∙ put ∙ (λ i. so_far i ++ same i)
