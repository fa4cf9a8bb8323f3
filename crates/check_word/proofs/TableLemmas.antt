-- The tables are right: each is the one before it, eight steps later.
use Rattle.std.proofs.Common.{◌≡◌, ℕ, zero, suc, ◌+◌, ◌*◌, ◌<◌, List, [], ◌∷◌, length, map, get_or, refl, ap, ◌∙◌, arith, zero-add}
use Rattle.std.specs.List.{range_with_len}
use Rattle.std.proofs.lemmas.List.FromFn.{get_or-range_with_len, length-range_with_len}
use Rattle.std.proofs.lemmas.List.{get_or-map}
use Rattle.std.proofs.Math.ListN.{length-map}
use Rattle.check_word.specs.CheckWord.{after_bit, after_bits}
use Rattle.check_word.specs.declared.tables.TheConstants.{TABLES}
use Rattle.check_word.proofs.Linear.{after_bits-add}

-- so many rows, each eight steps after the one before it, and the first after these numbers
abbrev rows_after : ℕ → List ℕ → List (List ℕ)
rows_after zero row = []
rows_after (suc count) row = map (after_bits 8) row ∷ rows_after count (map (after_bits 8) row)

tables_are : TABLES ≡ rows_after 16 (range_with_len 0 256)
unfolding after_bits after_bit
tables_are = refl

get_or-rows_after : (count : ℕ) (row : List ℕ) (k i : ℕ) → k < count → i < length row → get_or (get_or (rows_after count row) k []) i 0 ≡ after_bits (8 * (k + 1)) (get_or row i 0)
get_or-rows_after zero row k i lt inside = absurd (omega arith)
get_or-rows_after (suc count) row zero i lt inside = get_or-map (after_bits 8) row i 0 0 inside
get_or-rows_after (suc count) row (suc k) i lt inside =
    get_or-rows_after count (map (after_bits 8) row) k i (omega arith) (omega (arith, length-map row (after_bits 8)))
    ∙ ap (after_bits (8 * (k + 1))) (get_or-map (after_bits 8) row i 0 0 inside)
    ∙ after_bits-add 8 (8 * (k + 1)) (get_or row i 0)
    ∙ ap (λ (n : ℕ). after_bits n (get_or row i 0)) (let e : 8 + 8 * (k + 1) ≡ 8 * (suc k + 1) = omega arith in e)

pub table_entry : (count byte : ℕ) → count < 16 → byte < 256 → get_or (get_or TABLES count []) byte 0 ≡ after_bits (8 * (count + 1)) byte
table_entry count byte lt small =
    ap (λ (rows : List (List ℕ)). get_or (get_or rows count []) byte 0) tables_are
    ∙ get_or-rows_after 16 (range_with_len 0 256) count byte lt (omega (arith, length-range_with_len 0 256))
    ∙ ap (after_bits (8 * (count + 1))) (get_or-range_with_len 0 256 byte 0 small ∙ zero-add byte)
