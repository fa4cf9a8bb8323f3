-- A permitted write of which each line lands or not.
use Rattle.std.proofs.Common.{◌≡◌, ℕ, ◌+◌, ◌-◌, ◌*◌, ◌/◌, ◌%◌, ◌<◌, ◌≤◌, List, length, get_or, take, refl, sym, ap, subst, ◌∙◌, inl, inr, arith, ◌⊎◌}
use Rattle.std.proofs.lemmas.Bool.{cases_lt}
use Rattle.base_bytes.specs.Landing.{Lands}
use Rattle.base_bytes.proofs.Landings.{written_inside, lands_at, lands_kept}
use Rattle.base_bytes.specs.Fields.{part, u64_in}
use Rattle.skip_form.specs.Fields.{pointer_in}
use Rattle.skip_spec.specs.Rows.{IsAmong}
use Rattle.skip_spec.specs.Opens.{Contents, Reads, HasDirty}
use Rattle.skip_spec.specs.Near.{Near, IsImageOf, IsFixed, MayHold, IsPermittedWrite, heads, free_slot_of}
use Rattle.skip_spec.proofs.Cuts.{take_same, dirty_image, image_near}
use Rattle.skip_spec.proofs.Kept.{free_slot_le}
use Rattle.skip_spec.proofs.Parts.{Agree, part-same, part-moved}
use Rattle.skip_spec.proofs.Places.{within, aligned, places, laid, head_is}

module _ (base : List ℕ) (f : Contents) (r : Reads base f) (old : List ℕ) (at : ℕ) (bytes image : List ℕ) (n : IsImageOf base f old) (w : IsPermittedWrite base f at bytes) (l : Lands old at bytes image) where
  -- where the write changes no byte, the image has that of the old image
  kept : (i : ℕ) → i < f.header.current_size → (i < at) ⊎ (at + length bytes ≤ i) → get_or image i 0 ≡ get_or old i 0
  kept i high side = lands_kept at bytes old image i l (omega (arith, n.long)) side

  header_landed : take 64 image ≡ take 64 old
  header_landed =
      take_same image old 64 (omega (arith, n.long, r.least, l.no_shorter)) (omega (arith, n.long, r.least)) (λ i lo hi. kept i (omega (arith, r.least)) (inl (omega (arith, w.past_header))))

  others_landed : (i : ℕ) → 64 ≤ i → i < f.header.current_size → IsFixed base f i → get_or image i 0 ≡ get_or base i 0
  others_landed i low high fixed = elim (cases_lt i at) [
    | inl lt ↦ kept i high (inl lt) ∙ n.others i low high fixed
    | inr le ↦ elim (cases_lt i (at + length bytes)) [
      | inr past ↦ kept i high (inr past) ∙ n.others i low high fixed
      | inl lt ↦ elim (lands_at at bytes old image i l (omega (arith, n.long))) [
        | inl was ↦ was ∙ n.others i low high fixed
        | inr new ↦ new ∙ written_inside at bytes old i (omega (arith, n.long)) le lt ∙ w.others i le lt high fixed
      ]
    ]
  ]

  -- a slot begins at a multiple of 8, so one line holds it
  slot_landed : (head k place : ℕ) → place ≡ head + 8 + 8 * k → place % 8 ≡ 0 → place + 8 ≤ f.header.current_size → MayHold f.header.current_size (pointer_in base head k) (pointer_in old head k) → (head + 8 + 8 * k + 8 ≤ at) ⊎ ((at + length bytes ≤ head + 8 + 8 * k) ⊎ ((at ≤ head + 8 + 8 * k) × (head + 8 + 8 * k + 8 ≤ at + length bytes) × MayHold f.header.current_size (pointer_in base head k) (u64_in (part bytes (head + 8 + 8 * k - at) 8)))) → MayHold f.header.current_size (pointer_in base head k) (pointer_in image head k)
  slot_landed head k place place-is line in_end was put =
      let holds = λ (bs : List ℕ). MayHold f.header.current_size (pointer_in base head k) (u64_in bs) in
      let as_old : Agree image old place 8 → holds (part image (head + 8 + 8 * k) 8) = λ agree. subst holds (sym (ap (λ (p : ℕ). part image p 8) (sym place-is) ∙ part-same image old place 8 (omega (arith, n.long, l.no_shorter)) (omega (arith, n.long)) agree ∙ ap (λ (p : ℕ). part old p 8) place-is)) was in
      elim put [
        | inl before ↦ as_old (λ i lo hi. kept i (omega arith) (inl (omega arith)))
        | inr put ↦ elim put [
          | inl after ↦ as_old (λ i lo hi. kept i (omega arith) (inr (omega arith)))
          | inr put ↦ elim (l.lines (place / 64)) [
            | inl was ↦ as_old (λ i lo hi. was i (omega arith) (omega arith) (omega (arith, n.long)))
            | inr new ↦
                let low = put.0 in
                let high = put.1 in
                subst holds (sym (part-moved image bytes (head + 8 + 8 * k) (head + 8 + 8 * k - at) 8 (omega (arith, n.long, l.no_shorter)) (omega arith) (λ i lt.
                new (head + 8 + 8 * k + i) (omega arith) (omega arith) (omega (arith, n.long))
                ∙ written_inside at bytes old (head + 8 + 8 * k + i) (omega (arith, n.long)) (omega arith) (omega arith)
                ∙ ap (λ (p : ℕ). get_or bytes p 0) (let e : head + 8 + 8 * k + i - at ≡ head + 8 + 8 * k - at + i = omega arith in e)))) put.2
          ]
        ]
      ]

  slots_landed : (head : ℕ) → IsAmong (heads f) head → (k : ℕ) → k ≡ free_slot_of base f.header.current_size head → MayHold f.header.current_size (pointer_in base head k) (pointer_in image head k)
  slots_landed head is k free =
      let small : k ≤ 1 = omega (arith, free, free_slot_le f.header.current_size (pointer_in base head 0) (pointer_in base head 1)) in
      let place = (head_is base f r head is).0 in
      let line = aligned base 64 (places f) f.header.current_size head (laid base f r) refl place in
      let span = within base 64 (places f) f.header.current_size head (laid base f r) place in
      slot_landed head k (head + 8 + 8 * k) refl (omega arith) (omega (arith, span.high, small)) (n.slots head is k free) (w.slots head is k free)

  image_landed : IsImageOf base f image
  image_landed = record {
    header = header_landed ∙ n.header;
    long = omega (arith, n.long, l.no_shorter);
    slots = slots_landed;
    others = others_landed;
  }

pub landing_near : (base old image : List ℕ) (f : Contents) (at : ℕ) (bytes : List ℕ) → Reads base f → Near base old → HasDirty old → IsPermittedWrite base f at bytes → Lands old at bytes image → Near base image × HasDirty image
landing_near base old image f at bytes r n d w l = image_near base f r image (image_landed base f r old at bytes image (dirty_image base f r old n d) w l)
