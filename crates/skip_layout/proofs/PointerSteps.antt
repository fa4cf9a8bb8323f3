-- What leads to the records of each level, once another record stands before them.
use Rattle.std.proofs.Common.{◌≡◌, ℕ, zero, suc, ◌+◌, ◌-◌, ◌<◌, ◌≤◌, Bool, cond, List, ◌∷◌, ◌++◌, length, drop, take, replicate, sym, ap, ◌∙◌, arith, refl}
use Rattle.std.proofs.lemmas.Bool.{lt-ltb, le-ltb}
use Rattle.std.proofs.lemmas.List.{drop_at, drop-drop, length-drop, length-set, length-take-le}
use Rattle.std.specs.Prelude.{slice_set}
use borrow.Rule.Slice.PartMut.{mid_of, put_mid}
use Rattle.skip_spec.specs.Chain.{Entry}
use Rattle.skip_spec.specs.Change.{first_at}
use Rattle.skip_spec.specs.Opens.{on_level}
use Rattle.skip_spec.specs.Appending.{upper_pointers, pointers_to}

above : (level : ℕ) (e : Entry) (rest : List Entry) → level < e.level → on_level level (e ∷ rest) ≡ e ∷ on_level level rest
above level e rest lt = ap (λ (b : Bool). cond b (e ∷ on_level level rest) (on_level level rest)) (lt-ltb level e.level lt)

below : (level : ℕ) (e : Entry) (rest : List Entry) → e.level ≤ level → on_level level (e ∷ rest) ≡ on_level level rest
below level e rest le = ap (λ (b : Bool). cond b (e ∷ on_level level rest) (on_level level rest)) (le-ltb level e.level le)

-- on the levels that the record lacks nothing changes
upper_same : (level count : ℕ) (e : Entry) (rest : List Entry) → e.level ≤ level → upper_pointers level count (e ∷ rest) ≡ upper_pointers level count rest
upper_same level zero e rest le = refl
upper_same level (suc count) e rest le =
    ap (λ (l : List Entry). first_at l ∷ upper_pointers (suc level) count (e ∷ rest)) (below level e rest le)
    ∙ ap (λ (l : List ℕ). first_at (on_level level rest) ∷ l) (upper_same (suc level) count e rest (omega arith))

-- and on those that it has it is the first
upper_lead : (level count n : ℕ) (e : Entry) (rest : List Entry) → n ≤ count → e.level ≡ level + n → upper_pointers level count (e ∷ rest) ≡ replicate n e.at ++ drop n (upper_pointers level count rest)
upper_lead level count zero e rest within is = upper_same level count e rest (omega arith)
upper_lead level zero (suc n) e rest within is = absurd (omega arith)
upper_lead level (suc count) (suc n) e rest within is =
    ap (λ (l : List Entry). first_at l ∷ upper_pointers (suc level) count (e ∷ rest)) (above level e rest (omega arith))
    ∙ ap (λ (l : List ℕ). e.at ∷ l) (upper_lead (suc level) count n e rest (omega arith) (omega arith))

-- the pointers of the dummy, as they are written
pub led : (pointers filled : List ℕ) (level at k : ℕ) (e : Entry) (rest : List Entry) → 1 ≤ level → level ≤ 31 → k ≡ level - 1 → filled ≡ replicate k at → e.level ≡ level → e.at ≡ at → pointers ≡ pointers_to 31 rest
    → put_mid 2 k (slice_set pointers 0 at) filled ≡ pointers_to 31 (e ∷ rest)
led pointers filled level at k e rest low high is_k is_filled is_level is_at is =
    ap (λ (l : List ℕ). put_mid 2 k (slice_set l 0 at) filled) is
    ∙ ap (λ (l : List ℕ). at ∷ 0 ∷ l ++ drop k (upper_pointers 1 30 rest)) is_filled
    ∙ ap (λ (n : ℕ). n ∷ 0 ∷ replicate k n ++ drop k (upper_pointers 1 30 rest)) (sym is_at)
    ∙ ap (λ (l : List ℕ). e.at ∷ 0 ∷ l) (sym (upper_lead 1 30 k e rest (omega arith) (omega arith)))

-- how many pointers are written
pub filled_part : (pointers : List ℕ) (at k : ℕ) → 2 + k ≤ length pointers → length (mid_of 2 k (slice_set pointers 0 at)) ≡ k
filled_part pointers at k within = length-take-le k (drop 2 (slice_set pointers 0 at)) (omega (arith, within, length-drop 2 (slice_set pointers 0 at), length-set pointers 0 at))

upper_part : (level count n : ℕ) (rest : List Entry) → n ≤ count → take n (upper_pointers level count rest) ≡ upper_pointers level n rest
upper_part level count zero rest within = refl
upper_part level zero (suc n) rest within = absurd (omega arith)
upper_part level (suc count) (suc n) rest within = ap (λ (l : List ℕ). first_at (on_level level rest) ∷ l) (upper_part (suc level) count n rest (omega arith))

-- the first of the dummy's pointers are those of a record before the same ones
pub own_pointers : (level : ℕ) (rest : List Entry) → 1 ≤ level → level ≤ 31 → take (level + 1) (pointers_to 31 rest) ≡ pointers_to level rest
own_pointers zero rest low high = absurd (omega arith)
own_pointers (suc n) rest low high =
    let e : suc n + 1 ≡ suc (suc n) = omega arith in
    let f : n ≡ suc n - 1 = omega arith in
    ap (λ (m : ℕ). take m (pointers_to 31 rest)) e
    ∙ ap (λ (l : List ℕ). first_at rest ∷ 0 ∷ l) (upper_part 1 30 n rest (omega arith) ∙ ap (λ (m : ℕ). upper_pointers 1 m rest) f)

-- what stands at an offset once a part was written there
pub placed : (records own : List ℕ) (at k size : ℕ) → at ≤ length records → k ≡ size → drop at (put_mid at k records own) ≡ own ++ drop (at + size) records
placed records own at k size within is =
    drop_at (take at records) (own ++ drop k (drop at records)) at (length-take-le at records within)
    ∙ ap (λ (l : List ℕ). own ++ l) (drop-drop k at records ∙ ap (λ (n : ℕ). drop (at + n) records) is)
