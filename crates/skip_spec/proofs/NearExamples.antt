-- Images near their bases, and a store as a change, by computation.
use Rattle.std.proofs.Common.{◌≡◌, ◌≢◌, ℕ, ◌+◌, ◌-◌, ◌<◌, ◌≤◌, List, [], ◌∷◌, length, get_or, take, refl, sym, ap, subst, ◌∙◌, inl, inr, arith, lit<, lit≤, ◌⊎◌}
use Rattle.check_word.specs.CheckWord.{after_byte, after_bits, after_bit}
use Rattle.base_bytes.specs.Fields.{part, u32_in, u64_in}
use Rattle.skip_form.specs.Fields.{pointer_in, u16_in}
use Rattle.skip_form.specs.Spelling.{header_bytes}
use Rattle.skip_spec.specs.Rows.{IsAmong}
use Rattle.skip_spec.specs.Successor.{IsPointerUnder}
use Rattle.skip_spec.specs.Change.{Changes, IsOutsideLinks, heads_of}
use Rattle.skip_spec.specs.Opens.{Contents, Reads, HasDirty, with_dirty}
use Rattle.skip_spec.specs.Near.{Near, IsFixed, IsOutside, MayHold, heads, free_slot_of, free_slot_at}
use Rattle.skip_spec.specs.Examples.{empty_file, first_store_image, one_pair_file, pair_a, stored_image, torn_image}
use Rattle.skip_spec.proofs.Cuts.{cut_near}
use Rattle.skip_spec.specs.Layout.{fresh_contents}
use Rattle.skip_spec.proofs.LayoutExamples.{empty_bytes}
use Rattle.skip_spec.proofs.LayoutLemmas.{fresh}
use Rattle.skip_spec.proofs.OnePair.{says, reads}
use Rattle.skip_spec.proofs.Parts.{get_or-part}

-- a byte of a part that is the same in both files
same_in : (b c : List ℕ) (at count i : ℕ) → part c at count ≡ part b at count → at ≤ i → i < at + count → get_or c i 0 ≡ get_or b i 0
same_in b c at count i same lo hi =
    let e : i ≡ at + (i - at) = omega arith in
    ap (λ (j : ℕ). get_or c j 0) e ∙ sym (get_or-part c at count (i - at) (omega arith)) ∙ ap (λ (bs : List ℕ). get_or bs (i - at) 0) same ∙ get_or-part b at count (i - at) (omega arith) ∙ ap (λ (j : ℕ). get_or b j 0) (sym e)

-- ---- a store over the file of one pair

-- both slots of the one record are 0, and its free one is slot 1
own_slots : (image : List ℕ) → pointer_in image 336 1 ≡ pointer_in one_pair_file 336 1 → (slot : ℕ) → slot ≡ free_slot_of one_pair_file 400 336 → MayHold 400 (pointer_in one_pair_file 336 slot) (pointer_in image 336 slot)
unfolding part u64_in
own_slots image same slot is = inl (ap (pointer_in image 336) is ∙ same ∙ sym (ap (pointer_in one_pair_file 336) is))

-- the dummy's free slot is 0
dummy_slots : (image : List ℕ) → MayHold 400 (pointer_in one_pair_file 64 0) (pointer_in image 64 0) → (slot : ℕ) → slot ≡ free_slot_of one_pair_file 400 64 → MayHold 400 (pointer_in one_pair_file 64 slot) (pointer_in image 64 slot)
unfolding part u64_in
dummy_slots image hold slot is = subst (λ (k : ℕ). MayHold 400 (pointer_in one_pair_file 64 k) (pointer_in image 64 k)) (sym is) hold

slots : (image : List ℕ) → MayHold 400 (pointer_in one_pair_file 64 0) (pointer_in image 64 0) → pointer_in image 336 1 ≡ pointer_in one_pair_file 336 1 → (at : ℕ) → IsAmong (heads says) at → (slot : ℕ) → slot ≡ free_slot_of one_pair_file 400 at → MayHold 400 (pointer_in one_pair_file at slot) (pointer_in image at slot)
slots image hold same at (inl e) slot is = subst (λ (v : ℕ). MayHold 400 (pointer_in one_pair_file v slot) (pointer_in image v slot)) e (dummy_slots image hold slot (is ∙ ap (free_slot_of one_pair_file 400) (sym e)))
slots image hold same at (inr (inl e)) slot is = subst (λ (v : ℕ). MayHold 400 (pointer_in one_pair_file v slot) (pointer_in image v slot)) e (own_slots image same slot (is ∙ ap (free_slot_of one_pair_file 400) (sym e)))
slots image hold same at (inr (inr never)) slot is = absurd never

-- a byte that is fixed is before the dummy's pointers, is its slot 1, or is past its head check
dummy_fixed : (i : ℕ) → IsOutside one_pair_file 400 64 i → (i < 72) ⊎ (((80 ≤ i) × (i < 88)) ⊎ (332 ≤ i))
unfolding free_slot_at part u64_in
dummy_fixed i out = grind (arith, out.slot, out.places)

others : (image : List ℕ) → part image 64 8 ≡ part one_pair_file 64 8 → part image 80 8 ≡ part one_pair_file 80 8 → part image 332 68 ≡ part one_pair_file 332 68 → (i : ℕ) → 64 ≤ i → i < 400 → IsFixed one_pair_file says i → get_or image i 0 ≡ get_or one_pair_file i 0
others image first slot rest i low high fixed = elim (dummy_fixed i (fixed 64 (inl refl))) [
  | inl before ↦ same_in one_pair_file image 64 8 i first low (omega arith)
  | inr more ↦ elim more [
    | inl in_slot ↦ same_in one_pair_file image 80 8 i slot in_slot.0 (omega (arith, in_slot.1))
    | inr past ↦ same_in one_pair_file image 332 68 i rest past (omega arith)
  ]
]

image_of : (image : List ℕ) → take 64 image ≡ header_bytes (with_dirty says.header) → 400 ≤ length image → MayHold 400 (pointer_in one_pair_file 64 0) (pointer_in image 64 0) → pointer_in image 336 1 ≡ pointer_in one_pair_file 336 1 → part image 64 8 ≡ part one_pair_file 64 8 → part image 80 8 ≡ part one_pair_file 80 8 → part image 332 68 ≡ part one_pair_file 332 68 → Near one_pair_file image
image_of image header long hold same first slot rest = inr (says, reads, record { header = header; long = long; slots = slots image hold same; others = others image first slot rest })

pub stored_near : Near one_pair_file stored_image
unfolding header_bytes part u64_in after_byte after_bits after_bit
stored_near = image_of stored_image refl (lit≤ tt) (inr (inr (lit≤ tt))) refl refl refl refl

pub torn_near : Near one_pair_file torn_image
unfolding header_bytes part u64_in after_byte after_bits after_bit
torn_near = image_of torn_image refl (lit≤ tt) (inl refl) refl refl refl refl

torn_dirty : HasDirty torn_image
unfolding header_bytes after_byte after_bits after_bit
torn_dirty = (with_dirty says.header, record { version = refl; generation = lit< tt; num_records = lit< tt; repack_size = lit< tt; current_size = lit< tt; flags = lit< tt }, refl, refl)

pub cut_is_near : Near one_pair_file (take 400 torn_image)
cut_is_near = (cut_near one_pair_file torn_image says 400 reads torn_near torn_dirty (lit≤ tt)).0

-- ---- the first store into an empty database

abbrev nothing : Contents
nothing = fresh_contents 1 0 []

empty_reads : Reads empty_file nothing
empty_reads = subst (λ (b : List ℕ). Reads b nothing) empty_bytes (fresh 1 0 [] (record { each = tt; some_keys = tt; ordered = tt; size = lit< tt; generation_fits = lit< tt; flags_fit = lit< tt; clean = refl })).reads

-- both slots of the dummy are 0, and slot 1 is free
empty_slots : (at : ℕ) → IsAmong (heads nothing) at → (slot : ℕ) → slot ≡ free_slot_of empty_file 336 at → MayHold 336 (pointer_in empty_file at slot) (pointer_in first_store_image at slot)
unfolding part u64_in
empty_slots at (inl e) slot is =
    let one : slot ≡ 1 = is ∙ ap (free_slot_of empty_file 336) (sym e) in
    subst (λ (v : ℕ). MayHold 336 (pointer_in empty_file v slot) (pointer_in first_store_image v slot)) e
    (subst (λ (k : ℕ). MayHold 336 (pointer_in empty_file 64 k) (pointer_in first_store_image 64 k)) (sym one) (inr (inr (lit≤ tt))))
empty_slots at (inr never) slot is = absurd never

empty_fixed : (i : ℕ) → IsOutside empty_file 336 64 i → (i < 80) ⊎ (332 ≤ i)
unfolding free_slot_at part u64_in
empty_fixed i out = grind (arith, out.slot, out.places)

empty_others : (i : ℕ) → 64 ≤ i → i < 336 → IsFixed empty_file nothing i → get_or first_store_image i 0 ≡ get_or empty_file i 0
unfolding part
empty_others i low high fixed = elim (empty_fixed i (fixed 64 (inl refl))) [
  | inl before ↦ same_in empty_file first_store_image 64 16 i refl low (omega arith)
  | inr past ↦ same_in empty_file first_store_image 332 4 i refl past (omega arith)
]

pub first_near : Near empty_file first_store_image
unfolding header_bytes after_byte after_bits after_bit
first_near = inr (nothing, empty_reads, record { header = refl; long = lit≤ tt; slots = empty_slots; others = empty_others })

-- ---- the store as a change

head_fixed : (i : ℕ) → IsOutsideLinks one_pair_file 64 i → (i < 72) ⊎ (332 ≤ i)
unfolding part u16_in u32_in
head_fixed i out = out

change_others : (i : ℕ) → 64 ≤ i → i < 400 → ((head : ℕ) → IsAmong (heads_of (pair_a ∷ [])) head → IsOutsideLinks one_pair_file head i) → get_or stored_image i 0 ≡ get_or one_pair_file i 0
unfolding part
change_others i low high all = elim (head_fixed i (all 64 (inl refl))) [
  | inl before ↦ same_in one_pair_file stored_image 64 8 i refl low (omega arith)
  | inr past ↦ same_in one_pair_file stored_image 332 68 i refl past (omega arith)
]

change_pointers : (head pointer : ℕ) → IsAmong (heads_of (pair_a ∷ [])) head → head ≢ 64 → IsPointerUnder one_pair_file 400 head pointer → IsPointerUnder stored_image 440 head pointer
unfolding part u64_in
change_pointers head pointer (inl e) ne is = absurd (ne (sym e))
change_pointers head pointer (inr (inl e)) ne is =
    let own : IsPointerUnder one_pair_file 400 336 pointer = subst (λ (v : ℕ). IsPointerUnder one_pair_file 400 v pointer) (sym e) is in
    subst (λ (v : ℕ). IsPointerUnder stored_image 440 v pointer) e (record { below = omega (arith, own.below); one_of = own.one_of; first = λ lt. own.first (lit< tt); second = λ lt. own.second (lit< tt) })
change_pointers head pointer (inr (inr never)) ne is = absurd never

pub stored_changes : Changes one_pair_file stored_image 400 440 400 (336 ∷ 376 ∷ []) (336 ∷ 376 ∷ 400 ∷ []) [] [] (pair_a ∷ [])
stored_changes = record {
  dummy = reads.dummy;
  rows = reads.rows;
  chain = reads.chain;
  starts_stay = λ at m. elim m [ inl e ↦ inl e | inr m ↦ elim m [ inl e ↦ inr (inl e) | inr never ↦ absurd never ] ];
  old_long = lit≤ tt;
  new_long = lit≤ tt;
  others = change_others;
  pointers = change_pointers;
}
