-- Setting a pointer that may be set is a permitted write.
use Rattle.std.proofs.Common.{◌≡◌, ◌≢◌, ℕ, ◌+◌, ◌-◌, ◌*◌, ◌<◌, ◌≤◌, List, [], ◌∷◌, length, get_or, map, refl, sym, ap, subst, ◌∙◌, inl, inr, arith, ◌⊎◌}
use Rattle.std.specs.Int.{w64, to_be_bytes}
use Rattle.std.proofs.lemmas.Bool.{cases_eq, cases_lt, le-ltb, lt-ltb, le-leb, lt-leb}
use Rattle.base_bytes.specs.Fields.{part, u64_in}
use Rattle.base_bytes.proofs.Parts.{length-part}
use Rattle.skip_form.specs.declared.head.Head.{Head}
use Rattle.skip_form.specs.Fields.{pointer_in}
use Rattle.skip_form.specs.Flaws.{head_in}
use Rattle.skip_spec.specs.Records.{head_size_of}
use Rattle.skip_spec.specs.Rows.{IsAmong}
use Rattle.skip_spec.specs.Successor.{IsPointerUnder}
use Rattle.skip_spec.specs.Chain.{Entry, Chain}
use Rattle.skip_spec.specs.Opens.{Contents, Reads, Tidy, IsTidyHead}
use Rattle.skip_spec.specs.Near.{heads, free_slot, free_slot_of, free_slot_at, IsOutside, MayHold, IsImageOf, IsPermittedWrite}
use Rattle.skip_spec.proofs.Cuts.{append_permitted}
use Rattle.skip_spec.proofs.Lists.{each_of_all}
use Rattle.skip_spec.proofs.Parts.{part-same, part-moved, get_or-part}
use Rattle.skip_spec.proofs.Places.{Within, within, apart, places, laid, head_is}
use Rattle.skip_spec.proofs.Kept.{free_slot_le, free_is_0, free_is_1, head_kept, pointer_stays}
use Rattle.skip_lists.specs.Heads.{HasSlots, SetsPointer, MaySet}

-- ---- which slot is free

-- where both slots are below the end, the free one stays free when it takes what it may hold
free_same_0 : (bound x y w : ℕ) → x < bound → y < bound → free_slot bound x y ≡ 0 → MayHold bound x w → free_slot bound w y ≡ 0
free_same_0 bound x y w hx hy free hold =
    let up : x < y = elim (free_is_0 bound x y free) [ inl le ↦ absurd (omega arith) | inr p ↦ p.1 ] in
    elim (cases_lt w bound) [
      | inr le ↦ rw (le-leb bound w le) refl
      | inl lt ↦ let below : w < y = omega (arith, hold) in rw (lt-leb bound w lt, lt-leb bound y hy, lt-ltb w y below) refl
    ]

free_same_1 : (bound x y w : ℕ) → x < bound → y < bound → free_slot bound x y ≡ 1 → MayHold bound y w → free_slot bound x w ≡ 1
free_same_1 bound x y w hx hy free hold =
    let down : y ≤ x = elim (free_is_1 bound x y free).1 [ inl le ↦ absurd (omega arith) | inr p ↦ p ] in
    elim (cases_lt w bound) [
      | inr le ↦ rw (lt-leb bound x hx, le-leb bound w le) refl
      | inl lt ↦ let high : w ≤ x = omega (arith, hold) in rw (lt-leb bound x hx, lt-leb bound w lt, le-ltb x w high) refl
    ]

tidy_head : (base : List ℕ) (f : Contents) → Tidy base f → (h : ℕ) → IsAmong (heads f) h → IsTidyHead base f.header.current_size h
tidy_head base f t h (inl e) = subst (λ (w : ℕ). IsTidyHead base f.header.current_size w) e t.dummy
tidy_head base f t h (inr m) = each_of_all (λ v. IsTidyHead base f.header.current_size v) f.chain h t.heads m

module _ (base : List ℕ) (f : Contents) (r : Reads base f) where
  abbrev C : ℕ
  C = f.header.current_size

  pub head_span : (v : ℕ) → IsAmong (heads f) v → Within base 64 C v
  head_span v m = within base 64 (places f) C v (laid base f r) (head_is base f r v m).0

  -- one slot of each head is below the end
  head_pointer : (v : ℕ) → IsAmong (heads f) v → (p : ℕ) × IsPointerUnder base C v p
  head_pointer v m = along 64 [] f.chain r.chain v m
    where
      along : (at : ℕ) (k : List ℕ) (es : List Entry) → Chain base C f.starts at k es → (v : ℕ) → IsAmong (at ∷ map (λ e. e.at) es) v → (p : ℕ) × IsPointerUnder base C v p
      along at k [] c v (inl e) = subst (λ (w : ℕ). (p : ℕ) × IsPointerUnder base C w p) e (c.0, c.1)
      along at k [] c v (inr m) = absurd m
      along at k (e ∷ es) c v (inl same) = subst (λ (w : ℕ). (p : ℕ) × IsPointerUnder base C w p) same (c.0.0, c.0.1)
      along at k (e ∷ es) c v (inr m) = along e.at e.key es c.3 v m

  -- the slot that is not free is below the end
  taken_below : (v s : ℕ) → IsAmong (heads f) v → s ≤ 1 → s ≢ free_slot_of base C v → pointer_in base v s < C
  taken_below v s m le other =
      let x = pointer_in base v 0 in
      let y = pointer_in base v 1 in
      let p = (head_pointer v m).1 in
      let small = free_slot_le C x y in
      elim (cases_lt s 1) [
        | inl lt ↦
            let z : s ≡ 0 = omega arith in
            let one : free_slot C x y ≡ 1 = elim (cases_lt (free_slot C x y) 1) [ inl l ↦ absurd (other (omega (arith, z, l))) | inr g ↦ omega (arith, g, small) ] in
            subst (λ (i : ℕ). pointer_in base v i < C) (sym z) (free_is_1 C x y one).0
        | inr ge ↦
            let o : s ≡ 1 = omega arith in
            let zero_is : free_slot C x y ≡ 0 = elim (cases_lt (free_slot C x y) 1) [ inl l ↦ omega (arith, l) | inr g ↦ absurd (other (omega (arith, o, g, small))) ] in
            subst (λ (i : ℕ). pointer_in base v i < C) (sym o) (elim (free_is_0 C x y zero_is) [ inl far ↦ omega (arith, p.below, p.one_of, far) | inr near ↦ near.0 ])
      ]

  module _ (b : List ℕ) (n : IsImageOf base f b) where
    -- a slot of an image at or past the end is the base's free one
    pub far_is_free : (v s : ℕ) → IsAmong (heads f) v → s ≤ 1 → C ≤ pointer_in b v s → s ≡ free_slot_of base C v
    far_is_free v s m le far = elim (cases_eq s (free_slot_of base C v)) [
      | inl e ↦ e
      | inr ne ↦ absurd (omega (arith, taken_below v s m le ne, pointer_stays base b f r n v s m le ne, far))
    ]

    -- on a tidy base the free slot of an image is the base's
    pub free_kept : Tidy base f → (p : ℕ) → IsAmong (heads f) p → free_slot_of b C p ≡ free_slot_of base C p
    free_kept t p is =
        let tidy = tidy_head base f t p is in
        elim (cases_lt (free_slot_of base C p) 1) [
          | inl lt ↦
              let zero_is : free_slot_of base C p ≡ 0 = omega arith in
              let other : pointer_in b p 1 ≡ pointer_in base p 1 = pointer_stays base b f r n p 1 is (omega arith) (omega (arith, zero_is)) in
              ap (λ (y : ℕ). free_slot C (pointer_in b p 0) y) other ∙ free_same_0 C (pointer_in base p 0) (pointer_in base p 1) (pointer_in b p 0) tidy.0 tidy.1 zero_is (n.slots p is 0 (sym zero_is)) ∙ sym zero_is
          | inr le ↦
              let one_is : free_slot_of base C p ≡ 1 = omega (arith, free_slot_le C (pointer_in base p 0) (pointer_in base p 1)) in
              let other : pointer_in b p 0 ≡ pointer_in base p 0 = pointer_stays base b f r n p 0 is (omega arith) (omega (arith, one_is)) in
              ap (λ (x : ℕ). free_slot C x (pointer_in b p 1)) other ∙ free_same_1 C (pointer_in base p 0) (pointer_in base p 1) (pointer_in b p 1) tidy.0 tidy.1 one_is (n.slots p is 1 (sym one_is)) ∙ sym one_is
        ]

    -- ---- what may be set

    -- a repair makes a slot 0 that points to the end or past it
    pub may_clear : (p slot : ℕ) → slot ≤ 1 → 1 ≤ (head_in b p).level → (p < C → IsAmong (heads f) p) → C ≤ pointer_in b p slot → MaySet base f b p slot 0
    may_clear p slot small low known far = record {
      inside = omega (arith, low, small);
      known = known;
      which = λ lt. inr (inl (far_is_free p slot (known lt) small far, inr (inl refl)));
    }

-- ---- the write

module _ (base b c : List ℕ) (f : Contents) (r : Reads base f) (n : IsImageOf base f b) (p slot to : ℕ) (there : HasSlots b p) (may : MaySet base f b p slot to) (sets : SetsPointer b c p slot to) (long : length c ≡ length b) where
  abbrev count : ℕ
  count = head_size_of (head_in b p) - 4

  abbrev bytes : List ℕ
  bytes = part c p count

  long_bytes : length bytes ≡ count
  long_bytes = length-part c p count (omega (arith, there.inside, long))

  byte_at : (i : ℕ) → p ≤ i → i < p + count → get_or bytes (i - p) 0 ≡ get_or c i 0
  byte_at i lo hi = get_or-part c p count (i - p) (omega arith) ∙ ap (λ (j : ℕ). get_or c j 0) (let e : p + (i - p) ≡ i = omega arith in e)

  module _ (lt : p < f.header.current_size) where
    is : IsAmong (heads f) p
    is = may.known lt

    span : Within base 64 f.header.current_size p
    span = head_span base f r p is

    same : head_in b p ≡ head_in base p
    same = head_kept base b f r n p (head_is base f r p is).0

    size : count ≡ head_size_of (head_in base p) - 4
    size = ap (λ (h : Head). head_size_of h - 4) same

    kept : (i : ℕ) → p ≤ i → i < p + 24 → (i < p + 8 + 8 * slot) ⊎ (p + 8 + 8 * slot + 8 ≤ i) → get_or c i 0 ≡ get_or b i 0
    kept i lo hi side = sets.others i (omega (arith, there.inside, there.low)) side (inl (omega (arith, there.low)))

    -- a byte of the slot that is written as it stands
    written_again : part b (p + 8 + 8 * slot) 8 ≡ to_be_bytes w64 to → (i : ℕ) → p + 8 + 8 * slot ≤ i → i < p + 8 + 8 * slot + 8 → get_or c i 0 ≡ get_or b i 0
    written_again as_was i lo hi =
        let j = i - (p + 8 + 8 * slot) in
        let e : i ≡ p + 8 + 8 * slot + j = omega arith in
        ap (λ (k : ℕ). get_or c k 0) e
        ∙ sym (get_or-part c (p + 8 + 8 * slot) 8 j (omega arith))
        ∙ ap (λ (bs : List ℕ). get_or bs j 0) (sets.spelled ∙ sym as_was)
        ∙ get_or-part b (p + 8 + 8 * slot) 8 j (omega arith)
        ∙ ap (λ (k : ℕ). get_or b k 0) (sym e)

    -- a byte of the first pointers that is not of the free slot
    fixed_byte : (i : ℕ) → p ≤ i → i < p + 24 → IsOutside base f.header.current_size p i → get_or c i 0 ≡ get_or b i 0
    unfolding free_slot_at
    fixed_byte i lo hi out = elim (may.which lt) [
      | inl upper ↦ kept i lo hi (inl (omega (arith, upper)))
      | inr which ↦ elim which [
        | inl free ↦ kept i lo hi (elim out.slot [ inl before ↦ inl (omega (arith, before, free.0)) | inr after ↦ inr (omega (arith, after, free.0)) ])
        | inr as_was ↦ elim (cases_lt i (p + 8 + 8 * slot)) [
          | inl before ↦ kept i lo hi (inl before)
          | inr from ↦ elim (cases_lt i (p + 8 + 8 * slot + 8)) [ inl to_end ↦ written_again as_was i from to_end | inr after ↦ kept i lo hi (inr after) ]
        ]
      ]
    ]

    -- a slot of level zero that is not the one that is set
    other_stays : (m : ℕ) → m ≤ 1 → m ≢ slot → pointer_in c p m ≡ pointer_in b p m
    other_stays m small ne = ap u64_in (part-same c b (p + 8 + 8 * m) 8 (omega (arith, there.inside, there.low, long)) (omega (arith, there.inside, there.low)) (λ i lo hi.
        kept i (omega arith) (omega arith) (elim (cases_lt m slot) [ inl below ↦ inl (omega arith) | inr above ↦ inr (grind (arith, above, ne, lo)) ])))

    own_slot : (m : ℕ) → m ≡ free_slot_of base f.header.current_size p → MayHold f.header.current_size (pointer_in base p m) (pointer_in c p m)
    own_slot m e =
        let small : m ≤ 1 = omega (arith, e, free_slot_le f.header.current_size (pointer_in base p 0) (pointer_in base p 1)) in
        let was = n.slots p is m e in
        let holds = λ (x : ℕ). MayHold f.header.current_size (pointer_in base p m) x in
        elim (cases_eq m slot) [
          | inr ne ↦ subst holds (sym (other_stays m small ne)) was
          | inl here ↦ elim (may.which lt) [
            | inl upper ↦ absurd (omega (arith, upper, here, small))
            | inr which ↦ elim which [
              | inl free ↦ subst holds (sym (ap (pointer_in c p) here ∙ sets.pointer)) (subst (λ (k : ℕ). MayHold f.header.current_size (pointer_in base p k) to) (sym here) free.1)
              | inr as_was ↦ subst holds (sym (ap (pointer_in c p) here ∙ ap u64_in (sets.spelled ∙ sym as_was) ∙ ap (pointer_in b p) (sym here))) was
            ]
          ]
        ]

    set_inside : IsPermittedWrite base f p bytes
    set_inside = record {
      past_header = span.low;
      others = λ i lo hi in_end fixed.
          let mine = fixed p is in
          let in_front : i < p + 24 = elim mine.places [ inl lt ↦ lt | inr past ↦ absurd (omega (arith, long_bytes, size)) ] in
          byte_at i lo (omega (arith, long_bytes)) ∙ fixed_byte i lo in_front mine ∙ n.others i (omega (arith, span.low)) in_end fixed;
      slots = λ h h_is m m_is.
          let small : m ≤ 1 = omega (arith, m_is, free_slot_le f.header.current_size (pointer_in base h 0) (pointer_in base h 1)) in
          elim (apart base 64 (places f) f.header.current_size h p (laid base f r) (head_is base f r h h_is).0 (head_is base f r p is).0) [
            | inl e ↦
                let hold : MayHold f.header.current_size (pointer_in base h m) (pointer_in c h m) = subst (λ (w : ℕ). MayHold f.header.current_size (pointer_in base w m) (pointer_in c w m)) (sym e) (own_slot m (m_is ∙ ap (free_slot_of base f.header.current_size) e)) in
                let read : part bytes (h + 8 + 8 * m - p) 8 ≡ part c (h + 8 + 8 * m) 8 =
                part-moved bytes c (h + 8 + 8 * m - p) (h + 8 + 8 * m) 8 (omega (arith, e, long_bytes, there.low)) (omega (arith, e, there.inside, there.low, long)) (λ i lt.
                get_or-part c p count (h + 8 + 8 * m - p + i) (omega (arith, e, there.low)) ∙ ap (λ (j : ℕ). get_or c j 0) (let x : p + (h + 8 + 8 * m - p + i) ≡ h + 8 + 8 * m + i = omega (arith, e) in x)) in
                inr (inr (omega (arith, e), omega (arith, e, long_bytes, there.low), subst (λ (x : ℕ). MayHold f.header.current_size (pointer_in base h m) x) (sym (ap u64_in read)) hold))
            | inr far ↦ elim far [ inl before ↦ inl (omega arith) | inr after ↦ inr (inl (omega (arith, long_bytes, size))) ]
          ];
    }

  pub set_permitted : IsPermittedWrite base f p bytes
  set_permitted = elim (cases_lt p f.header.current_size) [
    | inr le ↦ append_permitted base f p bytes r le
    | inl lt ↦ set_inside lt
  ]
