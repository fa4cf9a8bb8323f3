-- A head that is made tidy.
use Rattle.std.proofs.Common.{◌≡◌, ◌≢◌, ℕ, ◌+◌, ◌*◌, ◌<◌, ◌≤◌, List, refl, sym, ap, subst, ◌∙◌, inl, inr, arith}
use Rattle.std.proofs.lemmas.Bool.{cases_eq, cases_lt, lt-ltb, le-ltb}
use Rattle.std.specs.Int.{w64, to_be_bytes}
use Rattle.base_bytes.specs.Fields.{part}
use Rattle.base_devices.specs.CrashImages.{DiskState}
use Rattle.skip_form.specs.Fields.{pointer_in}
use Rattle.skip_form.specs.Flaws.{head_in}
use Rattle.skip_spec.specs.Rows.{IsAmong}
use Rattle.skip_spec.specs.Opens.{Contents, IsTidyHead}
use Rattle.skip_spec.specs.Near.{heads}
use Rattle.skip_spec.specs.Successor.{below_or_zero}
use Rattle.skip_lists.specs.Heads.{SetsPointer, MaySet}
use Rattle.skip_lists.specs.Tie.{TiedToBase}
use Rattle.skip_lists.proofs.Permitted.{far_is_free, may_clear}
use Rattle.skip_lists.proofs.Ties.{image_of}
use Rattle.skip_recover.specs.Heads.{IsLoose, Mended, LeadsSlot}
use Rattle.skip_recover.proofs.Bases.{slots_of, has_one}
use Rattle.skip_recover.proofs.Leading.{leads_slot}

far_zero : (end x : ℕ) → end ≤ x → below_or_zero end x ≡ 0
far_zero end x le = rw (le-ltb x end le) refl

near_same : (end x : ℕ) → x < end → below_or_zero end x ≡ x
near_same end x lt = rw (lt-ltb x end lt) refl

module _ (base b : List ℕ) (says : Contents) (s : DiskState) (t : TiedToBase base says b s) (at : ℕ) (is : IsAmong (heads says) at) where
  -- at most one slot is at or past the end
  other_below : (i j : ℕ) → i ≤ 1 → j ≤ 1 → j ≢ i → says.header.current_size ≤ pointer_in b at i → pointer_in b at j < says.header.current_size
  other_below i j il jl ne far = elim (cases_lt (pointer_in b at j) says.header.current_size) [
    | inl lt ↦ lt
    | inr le ↦ absurd (ne (far_is_free base says t.committed b (image_of base b says s t) at j is jl le ∙ sym (far_is_free base says t.committed b (image_of base b says s t) at i is il far)))
  ]

  module _ (end : ℕ) (size : says.header.current_size ≡ end) (k to : ℕ) (loose : IsLoose b end at k) (value : to ≡ below_or_zero end (pointer_in b at k)) where
    low_slot : k ≤ 1
    low_slot = omega (arith, loose)

    pub fits : k ≤ (head_in b at).level
    fits = let low = (slots_of base b says s t at is).low in omega (arith, low, low_slot)

    pub may_mend : (pointer_in b at k < end → to_be_bytes w64 to ≡ part b (at + 8 + 8 * k) 8) → MaySet base says b at k to
    may_mend spelled = elim (cases_lt (pointer_in b at k) end) [
      | inl lt ↦ record { inside = fits; known = λ in_end. is; which = λ in_end. inr (inr (sym (spelled lt))) }
      | inr le ↦
          let zero_is : to ≡ 0 = value ∙ far_zero end (pointer_in b at k) le in
          subst (λ (v : ℕ). MaySet base says b at k v) (sym zero_is)
          (may_clear base says t.committed b (image_of base b says s t) at k low_slot (slots_of base b says s t at is).low (λ in_end. is) (omega (arith, size, le)))
    ]

    module _ (c : List ℕ) (sets : SetsPointer b c at k to) where
      l : LeadsSlot base says b c at k to
      l = leads_slot base b says s t at k to c is fits sets

      below : (j : ℕ) → j ≤ 1 → pointer_in c at j < end
      below j jl = elim (cases_eq j k) [
        | inl e ↦
            let there : pointer_in c at j ≡ to = ap (λ (i : ℕ). pointer_in c at i) e ∙ l.there in
            elim (cases_lt (pointer_in b at k) end) [
              | inl lt ↦ omega (arith, there, value, near_same end (pointer_in b at k) lt, lt)
              | inr le ↦ let least = t.committed.least in omega (arith, there, value, far_zero end (pointer_in b at k) le, least, size)
            ]
        | inr ne ↦
            let kept : pointer_in c at j ≡ pointer_in b at j = l.others at j (is, omega (arith, has_one base b says s t at is, jl)) (inr ne) in
            elim (cases_lt (pointer_in b at j) end) [
              | inl lt ↦ omega (arith, kept, lt)
              | inr far ↦ elim loose [
                | inl x ↦ absurd (let lt = other_below k j low_slot jl ne (omega (arith, size, x.1, ap (λ (i : ℕ). pointer_in b at i) x.0)) in omega (arith, lt, far, size))
                | inr loose ↦ elim loose [
                  | inl x ↦ absurd (let lt = other_below k j low_slot jl ne (omega (arith, size, x.1, ap (λ (i : ℕ). pointer_in b at i) x.0)) in omega (arith, lt, far, size))
                  | inr x ↦ absurd (let one : j ≡ 1 = grind (arith, ne, jl, x.0) in omega (arith, x.2, far, ap (λ (i : ℕ). pointer_in b at i) one))
                ]
              ]
            ]
      ]

      tidy : IsTidyHead c end at
      tidy = (below 0 (omega arith), below 1 (omega arith), sets.check)

      pub mended : Mended base says b c end at
      mended = record {
        tidy = tidy;
        stay = λ h m old. elim (cases_eq h at) [
          | inl e ↦ subst (λ (v : ℕ). IsTidyHead c end v) (sym e) tidy
          | inr ne ↦ (
            omega (arith, l.others h 0 (m, omega arith) (inl ne), old.0),
            omega (arith, l.others h 1 (m, has_one base b says s t h m) (inl ne), old.1),
            l.checks h m old.2,
          )
        ];
        uppers = λ h slot has le. l.others h slot has (inr (λ e. omega (arith, e, low_slot, le)));
      }

pub mended_none : (base b : List ℕ) (says : Contents) (end at : ℕ) → IsTidyHead b end at → Mended base says b b end at
mended_none base b says end at tidy = record { tidy = tidy; stay = λ h m old. old; uppers = λ h slot has le. refl }
