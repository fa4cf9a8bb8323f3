-- Right rows, one after the other.
use Rattle.std.proofs.Common.{◌≡◌, ℕ, ◌+◌, ◌%◌, ◌≤◌, ◌<◌, List, [], ◌∷◌, ◌++◌, length, None, refl, sym, subst, ◌∙◌, inl, inr, arith}
use Rattle.skip_form.specs.Flaws.{head_in}
use Rattle.skip_spec.specs.Rows.{IsAmong}
use Rattle.skip_spec.specs.FirstFlaw.{end_of, row_flaw, RightRows}

pub rows_on : (file : List ℕ) (from : ℕ) (starts : List ℕ) (at : ℕ) → RightRows file from starts at → row_flaw file at ≡ None → at < end_of file → RightRows file from (starts ++ at ∷ []) (at + (head_in file at).size)
rows_on file from [] at r none lt = subst (λ (x : ℕ). RightRows file x (at ∷ []) (at + (head_in file at).size)) (sym r) (refl, none, lt, refl)
rows_on file from (s ∷ ss) at r none lt = (r.0, r.1, r.2, rows_on file (from + (head_in file from).size) ss at r.3 none lt)

pub row_among : (file : List ℕ) (from : ℕ) (starts : List ℕ) (to v : ℕ) → RightRows file from starts to → IsAmong starts v → (row_flaw file v ≡ None) × (v < end_of file)
row_among file from [] to v r m = absurd m
row_among file from (s ∷ ss) to v r (inl e) = subst (λ (x : ℕ). (row_flaw file x ≡ None) × (x < end_of file)) (sym r.0 ∙ e) (r.1, r.2)
row_among file from (s ∷ ss) to v r (inr m) = row_among file (from + (head_in file from).size) ss to v r.3 m

pub rows_few : (file : List ℕ) (from : ℕ) (starts : List ℕ) (to : ℕ) → RightRows file from starts to → from + length starts ≤ to
rows_few file from [] to r = omega (arith, r)
rows_few file from (s ∷ ss) to r = omega (arith, rows_few file (from + (head_in file from).size) ss to r.3)

pub size_aligned : (file : List ℕ) (at : ℕ) → (head_in file at).size % 8 ≡ 0
size_aligned file at = omega arith

-- a start is a multiple of 8
pub start_aligned : (file : List ℕ) (from : ℕ) (starts : List ℕ) (to v : ℕ) → from % 8 ≡ 0 → RightRows file from starts to → IsAmong starts v → v % 8 ≡ 0
start_aligned file from [] to v a r m = absurd m
start_aligned file from (s ∷ ss) to v a r (inl e) = omega (arith, a, e, r.0)
start_aligned file from (s ∷ ss) to v a r (inr m) = start_aligned file (from + (head_in file from).size) ss to v (omega (arith, a, size_aligned file from)) r.3 m
