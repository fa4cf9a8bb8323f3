-- Two records with one spelling are equal.
use Rattle.std.proofs.Common.{◌≡◌, ℕ, ◌*◌, ◌^◌, ◌<◌, List, [], ◌∷◌, ◌++◌, length, take, drop, get_or, refl, sym, ap, ◌∙◌, arith, append_assoc}
use Rattle.std.specs.List.{flat_map, AllByRecursion}
use Rattle.std.specs.Int.{w32, w64, to_be_bytes}
use Rattle.std.proofs.lemmas.List.{length-append}
use Rattle.check_word.specs.CheckWord.{check_word}
use Rattle.skip_form.specs.Flaws.{kind_of}
use Rattle.skip_form.specs.Spelling.{Record, IsRecord, record_bytes, head_bytes, head_front, head_of, body_bytes, opening_bytes}
use Rattle.skip_form.proofs.HeadLemmas.{kind_again, lengths_fit}
use Rattle.base_bytes.proofs.Parts.{append_parts}
use Rattle.skip_form.proofs.UniqueHeader.{same_2, same_4, same_8}

pub length-numbers : (ps : List ℕ) → length (flat_map (to_be_bytes w64) ps) ≡ 8 * length ps
length-numbers [] = refl
length-numbers (p ∷ ps) = omega (arith, length-append (to_be_bytes w64 p) (flat_map (to_be_bytes w64) ps), length-numbers ps)

numbers_same : (ps qs : List ℕ) → length ps ≡ length qs → AllByRecursion (λ p. p < 2 ^ 64) ps → AllByRecursion (λ p. p < 2 ^ 64) qs → flat_map (to_be_bytes w64) ps ≡ flat_map (to_be_bytes w64) qs → ps ≡ qs
numbers_same [] [] l hp hq e = refl
numbers_same [] (q ∷ qs) l hp hq e = absurd (omega (arith, l))
numbers_same (p ∷ ps) [] l hp hq e = absurd (omega (arith, l))
numbers_same (p ∷ ps) (q ∷ qs) l hp hq e =
    let both = append_parts (to_be_bytes w64 p) (to_be_bytes w64 q) (flat_map (to_be_bytes w64) ps) (flat_map (to_be_bytes w64) qs) refl e in
    let first = same_8 p q hp.0 hq.0 both.0 in
    let rest = numbers_same ps qs (omega (arith, l)) hp.1 hq.1 both.1 in
    λ i. first i ∷ rest i

-- all of a record, field by field
whole : (r : Record) → record_bytes r ≡ opening_bytes (head_of r) ++ (flat_map (to_be_bytes w64) r.pointers ++ (to_be_bytes w32 (check_word (head_front (head_of r) r.pointers)) ++ (to_be_bytes w32 (check_word (body_bytes r.key r.value)) ++ body_bytes r.key r.value)))
unfolding record_bytes head_bytes
whole r =
    let word = to_be_bytes w32 (check_word (head_front (head_of r) r.pointers)) in
    let tail = to_be_bytes w32 (check_word (body_bytes r.key r.value)) in
    let body = body_bytes r.key r.value in
    let numbers = flat_map (to_be_bytes w64) r.pointers in
    append_assoc (head_front (head_of r) r.pointers ++ word) tail body
    ∙ append_assoc (head_front (head_of r) r.pointers) word (tail ++ body)
    ∙ append_assoc (opening_bytes (head_of r)) numbers (word ++ (tail ++ body))

pub record_bytes-same : (r s : Record) → IsRecord r → IsRecord s → record_bytes r ≡ record_bytes s → r ≡ s
record_bytes-same r s fr fs e =
    let all = sym (whole r) ∙ e ∙ whole s in
    let fit_r = lengths_fit r.kind (length r.key) (length r.value) fr.head.lengths in
    let fit_s = lengths_fit s.kind (length s.key) (length s.value) fs.head.lengths in
    let opening = append_parts (opening_bytes (head_of r)) (opening_bytes (head_of s)) _ _ refl all in
    let kind = sym (kind_again r.kind) ∙ ap (λ (x : List ℕ). kind_of (get_or x 0 0)) opening.0 ∙ kind_again s.kind in
    let level = ap (λ (x : List ℕ). get_or x 1 0) opening.0 in
    let key_len = same_2 (length r.key) (length s.key) fit_r.0 fit_s.0 (ap (λ (x : List ℕ). take 2 (drop 2 x)) opening.0) in
    let value_len = same_4 (length r.value) (length s.value) fit_r.1 fit_s.1 (ap (λ (x : List ℕ). take 4 (drop 4 x)) opening.0) in
    let count : length r.pointers ≡ length s.pointers = omega (arith, level, fr.slots, fs.slots) in
    let numbers = append_parts (flat_map (to_be_bytes w64) r.pointers) (flat_map (to_be_bytes w64) s.pointers) _ _ (omega (arith, count, length-numbers r.pointers, length-numbers s.pointers)) opening.1 in
    let pointers = numbers_same r.pointers s.pointers count fr.pointers fs.pointers numbers.0 in
    let word = append_parts (to_be_bytes w32 (check_word (head_front (head_of r) r.pointers))) (to_be_bytes w32 (check_word (head_front (head_of s) s.pointers))) _ _ refl numbers.1 in
    let tail = append_parts (to_be_bytes w32 (check_word (body_bytes r.key r.value))) (to_be_bytes w32 (check_word (body_bytes s.key s.value))) _ _ refl word.1 in
    let text = sym (append_assoc r.key r.value _) ∙ tail.1 ∙ append_assoc s.key s.value _ in
    let key = append_parts r.key s.key _ _ key_len text in
    let value = append_parts r.value s.value _ _ value_len key.1 in
    let key_is = key.0 in
    let value_is = value.0 in
    λ i. record { kind = kind i; level = level i; pointers = pointers i; key = key_is i; value = value_is i }
