-- What an image says is what its base says.
use Rattle.std.proofs.Common.{◌≡◌, ℕ, ◌+◌, ◌-◌, ◌*◌, ◌<◌, ◌≤◌, Bool, true, false, cond, ltb, leb, List, [], ◌∷◌, length, get_or, replicate, map, refl, sym, ap, subst, ◌∙◌, inl, inr, arith, ◌⊎◌, ◌≢◌}
use Rattle.std.proofs.lemmas.Bool.{cases_lt, le-ltb, lt-ltb, le-leb, lt-leb}
use Rattle.check_word.specs.CheckWord.{check_word}
use Rattle.skip_form.specs.declared.head.Head.{Head}
use Rattle.skip_form.specs.declared.head.Kind.TheVariants.{Gone}
use Rattle.base_bytes.specs.Fields.{part, u32_in, u64_in}
use Rattle.skip_form.specs.Fields.{pointer_in}
use Rattle.skip_form.specs.Flaws.{head_in}
use Rattle.skip_form.specs.Spelling.{StandsAt}
use Rattle.skip_spec.specs.Records.{HasKind, TailCheckIsRight, head_size_of, body_size_of}
use Rattle.skip_spec.specs.Rows.{IsAmong, Rows}
use Rattle.skip_spec.specs.Successor.{IsGreatestUnder, LeadsPastDelete, LeadsTo, IsSuccessorUnder}
use Rattle.skip_spec.specs.Chain.{Entry, Chain, StandsAsEntry}
use Rattle.skip_spec.specs.Opens.{Contents, Reads, with_dirty}
use Rattle.skip_spec.specs.Near.{heads, free_slot, free_slot_at, IsOutside, IsFixed, MayHold, IsImageOf}
use Rattle.skip_spec.proofs.KindLemmas.{put_is_not_gone, put_level, gone_level, gone_is_not_dummy, dummy_level}
use Rattle.skip_spec.proofs.Parts.{part-same, head_in-same}
use Rattle.skip_spec.proofs.Places.{within, apart, places, laid, head_is, is_dummy}

pub free_slot_le : (bound x y : ℕ) → free_slot bound x y ≤ 1
free_slot_le bound x y = pick (leb bound x) (leb bound y) (ltb x y)
  where
    pick : (p q r : Bool) → cond p 0 (cond q 1 (cond r 0 1)) ≤ 1
    pick true q r = omega arith
    pick false true r = omega arith
    pick false false true = omega arith
    pick false false false = omega arith

-- the free parts of a record lie inside of it
outside : (b : List ℕ) (bound at i : ℕ) → (i < at + 8) ⊎ (at + (head_in b at).size ≤ i) → IsOutside b bound at i
unfolding free_slot_at
outside b bound at i (inl lt) = record { slot = inl (omega arith); places = inl (omega arith) }
outside b bound at i (inr le) =
    let small = free_slot_le bound (pointer_in b at 0) (pointer_in b at 1) in
    record { slot = inr (omega arith); places = inr (omega arith) }

pub row_at : (b : List ℕ) (at : ℕ) (starts : List ℕ) (end v : ℕ) → Rows b at starts end → IsAmong starts v → StandsAt b v (head_in b v)
row_at b at [] end v r m = absurd m
row_at b at (s ∷ ss) end v r (inl e) = subst (λ (w : ℕ). StandsAt b w (head_in b w)) (sym r.0 ∙ e) r.1
row_at b at (s ∷ ss) end v r (inr m) = row_at b (at + (head_in b at).size) ss end v r.2 m

-- a record that keeps its first eight bytes stands where it stood
pub stands_kept : (b c : List ℕ) (at : ℕ) → head_in c at ≡ head_in b at → part c at 8 ≡ part b at 8 → at + (head_in b at).size ≤ length c → StandsAt b at (head_in b at) → StandsAt c at (head_in c at)
stands_kept b c at same first within s = subst (λ (h : Head). StandsAt c at h) (sym same) (record {
  opening = first ∙ s.opening;
  head = s.head;
  place = s.place;
  inside = within;
})

pub rows_kept : (b c : List ℕ) (at : ℕ) (starts : List ℕ) (end : ℕ) → Rows b at starts end → ((v : ℕ) → IsAmong starts v → (head_in c v ≡ head_in b v) × StandsAt c v (head_in c v)) → Rows c at starts end
rows_kept b c at [] end r same = r
rows_kept b c at (s ∷ ss) end r same =
    let here = subst (λ (w : ℕ). (head_in c w ≡ head_in b w) × StandsAt c w (head_in c w)) r.0 (same s (inl refl)) in
    (r.0, here.1, rows_kept b c (at + (head_in c at).size) ss end (subst (λ (t : Head). Rows b (at + t.size) ss end) (sym here.0) r.2) (λ v m. same v (inr m)))

pub free_is_0 : (bound x y : ℕ) → free_slot bound x y ≡ 0 → (bound ≤ x) ⊎ ((y < bound) × (x < y))
free_is_0 bound x y e = elim (cases_lt x bound) [
  | inr le ↦ inl le
  | inl lt ↦ elim (cases_lt y bound) [
    | inr le ↦ absurd (let f : free_slot bound x y ≡ 1 = rw (lt-leb bound x lt, le-leb bound y le) refl in omega (arith, e, f))
    | inl small ↦ elim (cases_lt x y) [
      | inl below ↦ inr (small, below)
      | inr le ↦ absurd (let f : free_slot bound x y ≡ 1 = rw (lt-leb bound x lt, lt-leb bound y small, le-ltb x y le) refl in omega (arith, e, f))
    ]
  ]
]

pub free_is_1 : (bound x y : ℕ) → free_slot bound x y ≡ 1 → (x < bound) × ((bound ≤ y) ⊎ (y ≤ x))
free_is_1 bound x y e = elim (cases_lt x bound) [
  | inr le ↦ absurd (let f : free_slot bound x y ≡ 0 = rw (le-leb bound x le) refl in omega (arith, e, f))
  | inl lt ↦ (
    lt,
    elim (cases_lt y bound) [
      | inr le ↦ inl le
      | inl small ↦ elim (cases_lt x y) [
        | inr le ↦ inr le
        | inl below ↦ absurd (let f : free_slot bound x y ≡ 0 = rw (lt-leb bound x lt, lt-leb bound y small, lt-ltb x y below) refl in omega (arith, e, f))
      ]
    ],
  )
]

-- the greatest slot below the bound stays where the free slot takes 0, or a value from the bound on
pointer_kept_0 : (bound x y w v : ℕ) → 0 < bound → IsGreatestUnder bound x y v → free_slot bound x y ≡ 0 → MayHold bound x w → IsGreatestUnder bound w y v
pointer_kept_0 bound x y w v pos p free hold =
    let meant = free_is_0 bound x y free in
    let is_y : v ≡ y = omega (arith, p.one_of, p.below, p.second, meant) in
    record { below = p.below; one_of = inr is_y; first = λ lt. omega (arith, p.first, hold, is_y, meant); second = p.second }

pointer_kept_1 : (bound x y w v : ℕ) → 0 < bound → IsGreatestUnder bound x y v → free_slot bound x y ≡ 1 → MayHold bound y w → IsGreatestUnder bound x w v
pointer_kept_1 bound x y w v pos p free hold =
    let meant = free_is_1 bound x y free in
    let is_x : v ≡ x = omega (arith, p.one_of, p.below, p.first, meant) in
    record { below = p.below; one_of = inl is_x; first = p.first; second = λ lt. omega (arith, p.second, hold, is_x, meant) }

module _ (b c : List ℕ) (f : Contents) (r : Reads b f) (n : IsImageOf b f c) where
  -- the byte at i of the record at v is fixed, unless it is of a free part of this very record
  fixed_at : (v i : ℕ) → IsAmong (places f) v → v ≤ i → i < v + (head_in b v).size → (IsAmong (heads f) v → IsOutside b f.header.current_size v i) → IsFixed b f i
  fixed_at v i m low high own at is =
      elim (apart b 64 (places f) f.header.current_size v at (laid b f r) m (head_is b f r at is).0) [
        | inl e ↦ subst (λ (w : ℕ). IsOutside b f.header.current_size w i) e (own (subst (λ (w : ℕ). IsAmong (heads f) w) (sym e) is))
        | inr far ↦ outside b f.header.current_size at i (elim far [ inl after ↦ inl (omega arith) | inr before ↦ inr (omega arith) ])
      ]

  byte_kept : (v i : ℕ) → IsAmong (places f) v → v ≤ i → i < v + (head_in b v).size → (IsAmong (heads f) v → IsOutside b f.header.current_size v i) → get_or c i 0 ≡ get_or b i 0
  byte_kept v i m low high own =
      let w = within b 64 (places f) f.header.current_size v (laid b f r) m in
      n.others i (omega (arith, w.low)) (omega (arith, w.high)) (fixed_at v i m low high own)

  agree : (v from count : ℕ) → IsAmong (places f) v → v ≤ from → from + count ≤ v + (head_in b v).size → ((i : ℕ) → from ≤ i → i < from + count → IsAmong (heads f) v → IsOutside b f.header.current_size v i) → part c from count ≡ part b from count
  agree v from count m low high own =
      let w = within b 64 (places f) f.header.current_size v (laid b f r) m in
      part-same c b from count (omega (arith, w.low, w.high, n.long)) (omega (arith, w.low, w.high, r.inside)) (λ i lo hi.
      byte_kept v i m (omega arith) (omega arith) (own i lo hi))

  pub head_kept : (v : ℕ) → IsAmong (places f) v → head_in c v ≡ head_in b v
  head_kept v m =
      let w = within b 64 (places f) f.header.current_size v (laid b f r) m in
      head_in-same c b v (omega (arith, w.high, n.long)) (omega (arith, w.high, r.inside)) (λ i lo hi.
      byte_kept v i m lo (omega arith) (λ head. outside b f.header.current_size v i (inl hi)))

  pub place_kept : (v : ℕ) → IsAmong (places f) v → StandsAt b v (head_in b v) → StandsAt c v (head_in c v)
  place_kept v m s =
      let w = within b 64 (places f) f.header.current_size v (laid b f r) m in
      stands_kept b c v (head_kept v m) (agree v v 8 m (omega arith) (omega arith) (λ i lo hi head. outside b f.header.current_size v i (inl hi))) (omega (arith, w.high, n.long)) s

  -- past its head check a record with a level is fixed
  own_tail : (v i : ℕ) → 1 ≤ (head_in b v).level → v + (head_size_of (head_in b v) - 4) ≤ i → IsAmong (heads f) v → IsOutside b f.header.current_size v i
  unfolding free_slot_at
  own_tail v i some from head =
      let small = free_slot_le f.header.current_size (pointer_in b v 0) (pointer_in b v 1) in
      record { slot = inr (omega arith); places = inr (omega arith) }

  -- a record with no level, being no head, is fixed
  no_head : (v : ℕ) → HasKind b v Gone → IsAmong (heads f) v → ⊥
  no_head v k head = elim (head_is b f r v head).1 [ inl d ↦ gone_is_not_dummy (head_in b v).kind k d | inr p ↦ put_is_not_gone (head_in b v).kind p k ]

  -- what a piece of the text or the tail check of a record says
  after_head : (v from count : ℕ) → IsAmong (places f) v → (1 ≤ (head_in b v).level) ⊎ HasKind b v Gone → v + (head_size_of (head_in b v) - 4) ≤ from → from + count ≤ v + (head_in b v).size → part c from count ≡ part b from count
  after_head v from count m kinds low high = agree v from count m (omega arith) high (λ i lo hi head.
      elim kinds [ inl some ↦ own_tail v i some (omega arith) head | inr gone ↦ absurd (no_head v gone head) ])

  tail_kept : (v : ℕ) → IsAmong (places f) v → (1 ≤ (head_in b v).level) ⊎ HasKind b v Gone → TailCheckIsRight b v → TailCheckIsRight c v
  tail_kept v m kinds right =
      let check = after_head v (v + (head_size_of (head_in b v) - 4)) 4 m kinds (omega arith) (omega arith) in
      let text = after_head v (v + head_size_of (head_in b v)) (body_size_of (head_in b v)) m kinds (omega arith) (omega arith) in
      subst (λ (t : Head). u32_in (part c (v + (head_size_of t - 4)) 4) ≡ check_word (part c (v + head_size_of t) (body_size_of t))) (sym (head_kept v m)) (ap u32_in check ∙ right ∙ sym (ap check_word text))

  entry_kept : (e : Entry) → StandsAsEntry b f.starts e → StandsAsEntry c f.starts e
  entry_kept e is =
      let v = e.at in
      let m : IsAmong (places f) v = inr is.start in
      let same = head_kept v m in
      let put = put_level (head_in b v) (row_at b 336 f.starts f.header.current_size v r.rows is.start).head is.kind in
      let s = head_in b v in
      let used = s.key_len + s.value_len in
      record {
        start = is.start;
        kind = ap (λ (t : Head). t.kind) same ∙ is.kind;
        level = ap (λ (t : Head). t.level) same ∙ is.level;
        key = subst (λ (t : Head). part c (v + head_size_of t) t.key_len ≡ e.key) (sym same) (after_head v (v + head_size_of s) s.key_len m (inl put) (omega arith) (omega arith) ∙ is.key);
        value = subst (λ (t : Head). part c (v + head_size_of t + t.key_len) t.value_len ≡ e.value) (sym same) (after_head v (v + head_size_of s + s.key_len) s.value_len m (inl put) (omega arith) (omega arith) ∙ is.value);
        tail_check = tail_kept v m (inl put) is.tail_check;
        padding = subst (λ (t : Head). part c (v + head_size_of t + (t.key_len + t.value_len)) (body_size_of t - (t.key_len + t.value_len)) ≡ replicate (body_size_of t - (t.key_len + t.value_len)) 0) (sym same) (after_head v (v + head_size_of s + used) (body_size_of s - used) m (inl put) (omega arith) (omega arith) ∙ is.padding);
      }

  passed_kept : (v next : ℕ) → LeadsPastDelete b f.starts v next → LeadsPastDelete c f.starts v next
  passed_kept v next p =
      let m : IsAmong (places f) v = inr p.start in
      let same = head_kept v m in
      let flat = gone_level (head_in b v) (row_at b 336 f.starts f.header.current_size v r.rows p.start).head p.kind in
      let whole : (from count : ℕ) → v ≤ from → from + count ≤ v + (head_in b v).size → part c from count ≡ part b from count = λ from count low high. agree v from count m low high (λ i lo hi head. absurd (no_head v p.kind head)) in
      record {
        start = p.start;
        kind = ap (λ (t : Head). t.kind) same ∙ p.kind;
        head_check = subst (λ (t : Head). u32_in (part c (v + (head_size_of t - 8)) 4) ≡ check_word (part c v (head_size_of t - 8))) (sym same) (ap u32_in (whole (v + (head_size_of (head_in b v) - 8)) 4 (omega arith) (omega arith)) ∙ p.head_check ∙ sym (ap check_word (whole v (head_size_of (head_in b v) - 8) (omega arith) (omega arith))));
        tail_check = tail_kept v m (inr p.kind) p.tail_check;
        pointer = ap u64_in (whole (v + 8 + 8 * 0) 8 (omega arith) (omega arith)) ∙ p.pointer;
        leads = elim p.leads [ inl z ↦ inl z | inr q ↦ inr (q.0, ap (λ (t : Head). t.kind) (head_kept next (inr q.0)) ∙ q.1) ];
      }

  leads_kept : (v next : ℕ) → LeadsTo b f.starts v next → LeadsTo c f.starts v next
  leads_kept v next l = elim l [
    | inl z ↦ inl z
    | inr l ↦ inr (elim l [
      | inl p ↦ inl (p.0, ap (λ (t : Head). t.kind) (head_kept v (inr p.0)) ∙ p.1, p.2)
      | inr p ↦ inr (passed_kept v next p)
    ])
  ]

  -- the slot of a head that is not its free slot
  pub pointer_stays : (v i : ℕ) → IsAmong (heads f) v → i ≤ 1 → i ≢ free_slot f.header.current_size (pointer_in b v 0) (pointer_in b v 1) → pointer_in c v i ≡ pointer_in b v i
  unfolding free_slot_at
  pointer_stays v i head small other =
      let one = free_slot_le f.header.current_size (pointer_in b v 0) (pointer_in b v 1) in
      ap u64_in (agree v (v + 8 + 8 * i) 8 (head_is b f r v head).0 (omega arith) (omega arith) (λ j lo hi is. record {
        slot = elim (cases_lt i (free_slot f.header.current_size (pointer_in b v 0) (pointer_in b v 1))) [ inl below ↦ inl (omega arith) | inr above ↦ inr (omega arith) ];
        places = inl (omega arith);
      }))

  pointer_kept : (at v : ℕ) → IsAmong (heads f) at → IsGreatestUnder f.header.current_size (pointer_in b at 0) (pointer_in b at 1) v → IsGreatestUnder f.header.current_size (pointer_in c at 0) (pointer_in c at 1) v
  pointer_kept at v head p =
      let pos : 0 < f.header.current_size = omega (arith, r.least) in
      let one = free_slot_le f.header.current_size (pointer_in b at 0) (pointer_in b at 1) in
      elim (cases_lt (free_slot f.header.current_size (pointer_in b at 0) (pointer_in b at 1)) 1) [
        | inl lt ↦
            let zero_is : free_slot f.header.current_size (pointer_in b at 0) (pointer_in b at 1) ≡ 0 = omega arith in
            subst (λ (y : ℕ). IsGreatestUnder f.header.current_size (pointer_in c at 0) y v) (sym (pointer_stays at 1 head (omega arith) (omega (arith, zero_is))))
            (pointer_kept_0 f.header.current_size (pointer_in b at 0) (pointer_in b at 1) (pointer_in c at 0) v pos p zero_is (n.slots at head 0 (sym zero_is)))
        | inr le ↦
            let one_is : free_slot f.header.current_size (pointer_in b at 0) (pointer_in b at 1) ≡ 1 = omega arith in
            subst (λ (x : ℕ). IsGreatestUnder f.header.current_size x (pointer_in c at 1) v) (sym (pointer_stays at 0 head (omega arith) (omega (arith, one_is))))
            (pointer_kept_1 f.header.current_size (pointer_in b at 0) (pointer_in b at 1) (pointer_in c at 1) v pos p one_is (n.slots at head 1 (sym one_is)))
      ]

  follows_kept : (at next : ℕ) → IsAmong (heads f) at → IsSuccessorUnder b f.header.current_size f.starts at next → IsSuccessorUnder c f.header.current_size f.starts at next
  follows_kept at next head l = (l.0, pointer_kept at l.0 head l.1, leads_kept l.0 next l.2)

  chain_kept : (at : ℕ) (k : List ℕ) (es : List Entry) → IsAmong (heads f) at → ((v : ℕ) → IsAmong (map (λ e. e.at) es) v → IsAmong (heads f) v) → Chain b f.header.current_size f.starts at k es → Chain c f.header.current_size f.starts at k es
  chain_kept at k [] head all l = follows_kept at 0 head l
  chain_kept at k (e ∷ es) head all l =
      (follows_kept at e.at head l.0, entry_kept e l.1, l.2, chain_kept e.at e.key es (all e.at (inl refl)) (λ v m. all v (inr m)) l.3)

  pub reads_kept : Reads c (record f { header = with_dirty f.header })
  reads_kept = record {
    header = n.header;
    fields = record {
      version = r.fields.version;
      generation = r.fields.generation;
      num_records = r.fields.num_records;
      repack_size = r.fields.repack_size;
      current_size = r.fields.current_size;
      flags = omega (arith, r.fields.flags);
    };
    least = r.least;
    aligned = r.aligned;
    inside = n.long;
    dummy = place_kept 64 (inl refl) r.dummy;
    rows = rows_kept b c 336 f.starts f.header.current_size r.rows (λ v m. (head_kept v (inr m), place_kept v (inr m) (row_at b 336 f.starts f.header.current_size v r.rows m)));
    dummy_tail = tail_kept 64 (inl refl) (inl (omega (arith, dummy_level (head_in b 64) r.dummy.head (is_dummy b f r)))) r.dummy_tail;
    chain = chain_kept 64 [] f.chain (inl refl) (λ v m. inr m) r.chain;
  }
