-- A pointer is written, and then the head check over it.
use Rattle.std.proofs.Common.{◌≡◌, ℕ, ◌+◌, ◌-◌, ◌*◌, ◌^◌, ◌<◌, ◌≤◌, List, length, get_or, refl, sym, ap, subst, ◌∙◌, inl, inr, arith, ◌⊎◌}
use Rattle.std.proofs.lemmas.List.{take_all, ext_get_or}
use Rattle.std.proofs.lemmas.Bool.{cases_lt}
use Rattle.std.specs.Int.{w32, w64, to_be_bytes, from_be_bytes}
use Rattle.std.proofs.lemmas.Nat.{from_be_bytes-to_be_bytes_4, from_be_bytes-to_be_bytes_8}
use Rattle.check_word.specs.CheckWord.{check_word}
use Rattle.base_bytes.specs.Landing.{written_at}
use Rattle.base_bytes.proofs.Landings.{written_before, written_inside, written_after, length-written}
use Rattle.base_bytes.proofs.Parts.{length-part}
use Rattle.base_bytes.specs.Fields.{part, u32_in, u64_in}
use Rattle.skip_form.specs.declared.head.Head.{Head}
use Rattle.skip_form.specs.Flaws.{head_in}
use Rattle.skip_spec.specs.Records.{head_size_of}
use Rattle.skip_spec.proofs.Parts.{part-same, part-moved, head_in-same, get_or-part}
use Rattle.skip_lists.specs.Heads.{HasSlots, SetsPointer}

pub whole_part : (xs : List ℕ) (n : ℕ) → length xs ≡ n → part xs 0 n ≡ xs
unfolding part
whole_part xs n e = take_all n xs (omega (arith, e))

-- the bytes that were written
pub written_part : (at : ℕ) (bytes old : List ℕ) (n : ℕ) → length bytes ≡ n → at + n ≤ length old → part (written_at at bytes old) at n ≡ bytes
written_part at bytes old n e fits =
    part-moved (written_at at bytes old) bytes at 0 n (omega (arith, length-written at bytes old (omega arith))) (omega (arith, e)) (λ i lt.
    written_inside at bytes old (at + i) (omega arith) (omega arith) (omega (arith, e)) ∙ ap (λ (j : ℕ). get_or bytes j 0) (let same : at + i - at ≡ 0 + i = omega arith in same))
    ∙ whole_part bytes n e

-- the bytes outside of the write
pub written_other : (at : ℕ) (bytes old : List ℕ) (n i : ℕ) → length bytes ≡ n → i < length old → (i < at) ⊎ (at + n ≤ i) → get_or (written_at at bytes old) i 0 ≡ get_or old i 0
written_other at bytes old n i e lt (inl before) = written_before at bytes old i lt before
written_other at bytes old n i e lt (inr after) = written_after at bytes old i lt (omega (arith, e, after))

-- a file that differs in one stretch is the old one with that stretch written
pub as_written : (old new : List ℕ) (at n : ℕ) → at + n ≤ length old → length new ≡ length old → ((i : ℕ) → i < length old → (i < at) ⊎ (at + n ≤ i) → get_or new i 0 ≡ get_or old i 0) → new ≡ written_at at (part new at n) old
as_written old new at n fits long same =
    let size = length-part new at n (omega (arith, long)) in
    let now = length-written at (part new at n) old (omega arith) in
    ext_get_or 0 new (written_at at (part new at n) old) (omega (arith, long, now, size)) (λ i lt. elim (cases_lt i at) [
      | inl before ↦ same i (omega (arith, long)) (inl before) ∙ sym (written_before at (part new at n) old i (omega (arith, long)) before)
      | inr from ↦ elim (cases_lt i (at + n)) [
        | inl to ↦ ap (λ (j : ℕ). get_or new j 0) (let e : i ≡ at + (i - at) = omega arith in e) ∙ sym (get_or-part new at n (i - at) (omega arith)) ∙ sym (written_inside at (part new at n) old i (omega (arith, long)) from (omega (arith, size)))
        | inr after ↦ same i (omega (arith, long)) (inr after) ∙ sym (written_after at (part new at n) old i (omega (arith, long)) (omega (arith, size)))
      ]
    ])

length-8 : (v : ℕ) → length (to_be_bytes w64 v) ≡ 8
length-8 v = refl

length-4 : (v : ℕ) → length (to_be_bytes w32 v) ≡ 4
length-4 v = refl

module _ (b b1 c : List ℕ) (p slot to word : ℕ) (there : HasSlots b p) (fits : slot ≤ (head_in b p).level) (small : to < 2 ^ 64) (word_small : word < 2 ^ 32)
    (is_1 : b1 ≡ written_at (p + 8 + 8 * slot) (to_be_bytes w64 to) b)
    (is_word : word ≡ check_word (part b1 p (head_size_of (head_in b p) - 8)))
    (is_2 : c ≡ written_at (p + (head_size_of (head_in b p) - 8)) (to_be_bytes w32 word) b1) where
  abbrev n : ℕ
  n = head_size_of (head_in b p)

  fits_1 : p + 8 + 8 * slot + 8 ≤ length b
  fits_1 = omega (arith, there.inside, fits)

  long_1 : length b1 ≡ length b
  long_1 = ap length is_1 ∙ omega (arith, length-written (p + 8 + 8 * slot) (to_be_bytes w64 to) b (omega (arith, fits_1)), length-8 to, fits_1)

  fits_2 : p + (n - 8) + 4 ≤ length b1
  fits_2 = omega (arith, there.inside, long_1)

  pub long_set : length c ≡ length b
  long_set = ap length is_2 ∙ omega (arith, length-written (p + (n - 8)) (to_be_bytes w32 word) b1 (omega (arith, fits_2)), length-4 word, fits_2, long_1)

  other_1 : (i : ℕ) → i < length b → (i < p + 8 + 8 * slot) ⊎ (p + 8 + 8 * slot + 8 ≤ i) → get_or b1 i 0 ≡ get_or b i 0
  other_1 i lt side = ap (λ (l : List ℕ). get_or l i 0) is_1 ∙ written_other (p + 8 + 8 * slot) (to_be_bytes w64 to) b 8 i (length-8 to) lt side

  other_2 : (i : ℕ) → i < length b → (i < p + (n - 8)) ⊎ (p + (n - 8) + 4 ≤ i) → get_or c i 0 ≡ get_or b1 i 0
  other_2 i lt side = ap (λ (l : List ℕ). get_or l i 0) is_2 ∙ written_other (p + (n - 8)) (to_be_bytes w32 word) b1 4 i (length-4 word) (omega (arith, long_1)) side

  same_head : head_in c p ≡ head_in b p
  same_head = head_in-same c b p (omega (arith, long_set, there.inside)) (omega (arith, there.inside)) (λ i lo hi.
      other_2 i (omega (arith, there.inside)) (inl (omega arith)) ∙ other_1 i (omega (arith, there.inside)) (inl (omega arith)))

  spelled_set : part c (p + 8 + 8 * slot) 8 ≡ to_be_bytes w64 to
  spelled_set =
      part-same c b1 (p + 8 + 8 * slot) 8 (omega (arith, long_set, fits_1)) (omega (arith, long_1, fits_1)) (λ i lo hi. other_2 i (omega (arith, fits_1)) (inl (omega (arith, fits))))
      ∙ ap (λ (l : List ℕ). part l (p + 8 + 8 * slot) 8) is_1
      ∙ written_part (p + 8 + 8 * slot) (to_be_bytes w64 to) b 8 (length-8 to) fits_1

  pub set_is : SetsPointer b c p slot to
  unfolding u32_in u64_in
  set_is = record {
    long = omega (arith, long_set);
    others = λ i lt out off. other_2 i lt (elim off [ inl low ↦ inl low | inr high ↦ inr (omega (arith, high)) ]) ∙ other_1 i lt out;
    spelled = spelled_set;
    pointer = ap (from_be_bytes w64) spelled_set ∙ from_be_bytes-to_be_bytes_8 to small;
    check = subst (λ (h : Head). u32_in (part c (p + (head_size_of h - 8)) 4) ≡ check_word (part c p (head_size_of h - 8))) (sym same_head) (
        ap (from_be_bytes w32) (ap (λ (l : List ℕ). part l (p + (n - 8)) 4) is_2 ∙ written_part (p + (n - 8)) (to_be_bytes w32 word) b1 4 (length-4 word) fits_2)
        ∙ from_be_bytes-to_be_bytes_4 word word_small
        ∙ is_word
        ∙ ap check_word (part-same b1 c p (n - 8) (omega (arith, fits_2)) (omega (arith, fits_2, long_1, long_set)) (λ i lo hi. sym (other_2 i (omega (arith, fits_2, long_1)) (inl hi)))));
  }

  -- as one write of the head up to its check
  pub set_written : c ≡ written_at p (part c p (n - 4)) b
  set_written = as_written b c p (n - 4) (omega (arith, there.inside)) long_set (λ i lt side.
      other_2 i lt (elim side [ inl low ↦ inl (omega arith) | inr high ↦ inr (omega arith) ]) ∙ other_1 i lt (elim side [ inl low ↦ inl (omega arith) | inr high ↦ inr (omega (arith, fits)) ]))

-- a pointer that is set is one write of the head up to its check
pub set_as_written : (b c : List ℕ) (p slot to : ℕ) → HasSlots b p → slot ≤ (head_in b p).level → SetsPointer b c p slot to → length c ≡ length b → c ≡ written_at p (part c p (head_size_of (head_in b p) - 4)) b
set_as_written b c p slot to there fits sets long =
    as_written b c p (head_size_of (head_in b p) - 4) (omega (arith, there.inside)) long (λ i lt side. sets.others i lt
    (elim side [ inl low ↦ inl (omega arith) | inr high ↦ inr (omega (arith, high, fits)) ])
    (elim side [ inl low ↦ inl (omega arith) | inr high ↦ inr (omega (arith, high)) ]))
