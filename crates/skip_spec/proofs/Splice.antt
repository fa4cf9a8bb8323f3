-- A list of records where some heads changed, and records were appended.
use Rattle.std.proofs.Common.{◌≡◌, ◌≢◌, ℕ, ◌+◌, ◌-◌, ◌*◌, ◌<◌, ◌≤◌, List, [], ◌∷◌, ◌++◌, length, get_or, replicate, map, refl, sym, ap, subst, ◌∙◌, inl, inr, arith, ◌⊎◌}
use Rattle.std.specs.Ordering.{nat_cmp, ordering_reverse}
use Rattle.std.specs.Cmp.Lexicographic.{slice_cmp, nat_list_cmp_total}
use Rattle.std.specs.declared.cmp.Ordering.TheVariants.{Less}
use Rattle.base_bytes.specs.OrderedMap.{IsBelow, BeginsAbove}
use Rattle.check_word.specs.CheckWord.{check_word}
use Rattle.skip_form.specs.declared.head.Head.{Head}
use Rattle.skip_form.specs.declared.head.Kind.TheVariants.{Dummy, Put, Gone}
use Rattle.base_bytes.specs.Fields.{part, u32_in, u64_in}
use Rattle.skip_form.specs.Fields.{pointer_in}
use Rattle.skip_form.specs.Flaws.{head_in}
use Rattle.skip_spec.specs.Records.{HasKind, TailCheckIsRight, key_in, head_size_of, body_size_of}
use Rattle.skip_spec.specs.Rows.{IsAmong, Rows}
use Rattle.skip_spec.specs.Successor.{IsGreatestUnder, LeadsPastDelete, LeadsTo, IsSuccessorUnder}
use Rattle.skip_spec.specs.Chain.{Entry, Chain, StandsAsEntry, pairs}
use Rattle.skip_spec.specs.Change.{Changes, IsOutsideLinks, heads_of, first_at, last_at, last_key}
use Rattle.skip_spec.proofs.Lists.{among_front, among_back}
use Rattle.skip_spec.proofs.KindLemmas.{put_is_not_gone, gone_is_not_dummy, gone_level}
use Rattle.skip_spec.proofs.Kept.{row_at}
use Rattle.skip_spec.proofs.Parts.{part-same, head_in-same}
use Rattle.skip_spec.proofs.Places.{Laid, within, apart, laid_dummy, dummy_stands, in_chain}

-- from the record at an offset, whose key is given, these live records lead to the one at another
abbrev pub Linked : List ℕ → ℕ → List ℕ → ℕ → List ℕ → List Entry → ℕ → List ℕ → Type 0
Linked b bound starts at k [] to l = (at ≡ to) × (k ≡ l)
Linked b bound starts at k (e ∷ es) to l = IsSuccessorUnder b bound starts at e.at × StandsAsEntry b starts e × IsBelow k e.key × Linked b bound starts e.at e.key es to l

-- ---- the order of keys

pub below_trans : (j k l : List ℕ) → IsBelow j k → IsBelow k l → IsBelow j l
below_trans j k l p q = nat_list_cmp_total.trans j k l p q

pub below_not_same : (k l : List ℕ) → IsBelow k l → k ≡ l → ⊥
below_not_same k l p e =
    let same : slice_cmp nat_cmp k k ≡ Less = ap (slice_cmp nat_cmp k) e ∙ p in
    let turned = nat_list_cmp_total.antisymm k k in
    let reversed = ap ordering_reverse same in
    cc

positive : (b starts : List ℕ) (end : ℕ) → Laid b 64 (64 ∷ starts) end → (v : ℕ) → IsAmong starts v → 65 ≤ v
positive b starts end laid v m = let w = within b (64 + (head_in b 64).size) starts end v laid.1 m in omega (arith, w.low)

-- the key of the record at an offset; the dummy counts as the empty key
abbrev pub Named : List ℕ → ℕ → List ℕ → Type 0
Named b at k = ((at ≡ 64) × (k ≡ [])) ⊎ ((65 ≤ at) × (k ≡ key_in b at))

named_same : (b : List ℕ) (at to : ℕ) (k l : List ℕ) → Named b at k → Named b to l → at ≡ to → k ≡ l
named_same b at to k l (inl p) (inl q) e = p.1 ∙ sym q.1
named_same b at to k l (inl p) (inr q) e = absurd (omega (arith, p.0, q.0, e))
named_same b at to k l (inr p) (inl q) e = absurd (omega (arith, p.0, q.0, e))
named_same b at to k l (inr p) (inr q) e = p.1 ∙ ap (key_in b) e ∙ sym q.1

linked_rises : (b : List ℕ) (bound : ℕ) (starts : List ℕ) (at : ℕ) (k : List ℕ) (e : Entry) (es : List Entry) (to : ℕ) (l : List ℕ) → Linked b bound starts at k (e ∷ es) to l → IsBelow k l
linked_rises b bound starts at k e [] to l c = subst (λ (j : List ℕ). IsBelow k j) c.3.1 c.2
linked_rises b bound starts at k e (f ∷ fs) to l c = below_trans k e.key l c.2 (linked_rises b bound starts e.at e.key f fs to l c.3)

pub chain_rises : (b : List ℕ) (bound : ℕ) (starts : List ℕ) (at : ℕ) (k : List ℕ) (es : List Entry) → Chain b bound starts at k es → (v : ℕ) → IsAmong (map (λ e. e.at) es) v → IsAmong starts v × IsBelow k (key_in b v)
chain_rises b bound starts at k [] c v m = absurd m
chain_rises b bound starts at k (e ∷ es) c v (inl same) = subst (λ (x : ℕ). IsAmong starts x × IsBelow k (key_in b x)) same (c.1.start, subst (λ (j : List ℕ). IsBelow k j) (sym c.1.key) c.2)
chain_rises b bound starts at k (e ∷ es) c v (inr m) = let rest = chain_rises b bound starts e.at e.key es c.3 v m in (rest.0, below_trans k e.key (key_in b v) c.2 rest.1)

-- ---- records that stay

abbrev pub Includes : List ℕ → List ℕ → Type 0
Includes starts more = (v : ℕ) → IsAmong starts v → IsAmong more v

-- c has b's records up to an end, but for the pointers and head checks of these heads
pub record Holds (b c : List ℕ) (starts : List ℕ) (end : ℕ) (hs : List ℕ) : Type 0 where
  pub laid : Laid b 64 (64 ∷ starts) end
  pub rows : Rows b 336 starts end
  pub heads : (h : ℕ) → IsAmong hs h → IsAmong (64 ∷ starts) h × (HasKind b h Dummy ⊎ HasKind b h Put)
  pub long_b : end ≤ length b
  pub long_c : end ≤ length c
  pub others : (i : ℕ) → 64 ≤ i → i < end → ((h : ℕ) → IsAmong hs h → IsOutsideLinks b h i) → get_or c i 0 ≡ get_or b i 0

module _ (b c : List ℕ) (starts more : List ℕ) (end : ℕ) (hs : List ℕ) (holds : Holds b c starts end hs) (grown : Includes starts more) where
  byte_stays : (v i : ℕ) → IsAmong (64 ∷ starts) v → v ≤ i → i < v + (head_in b v).size → (IsAmong hs v → IsOutsideLinks b v i) → get_or c i 0 ≡ get_or b i 0
  byte_stays v i m low high own =
      let w = within b 64 (64 ∷ starts) end v holds.laid m in
      holds.others i (omega (arith, w.low)) (omega (arith, w.high)) (λ h is.
      elim (apart b 64 (64 ∷ starts) end v h holds.laid m (holds.heads h is).0) [
        | inl e ↦ subst (λ (x : ℕ). IsOutsideLinks b x i) e (own (subst (λ (x : ℕ). IsAmong hs x) (sym e) is))
        | inr far ↦ elim far [ inl after ↦ inl (omega arith) | inr before ↦ inr (omega arith) ]
      ])

  pub agree : (v from count : ℕ) → IsAmong (64 ∷ starts) v → v ≤ from → from + count ≤ v + (head_in b v).size → ((i : ℕ) → from ≤ i → i < from + count → IsAmong hs v → IsOutsideLinks b v i) → part c from count ≡ part b from count
  agree v from count m low high own =
      let w = within b 64 (64 ∷ starts) end v holds.laid m in
      part-same c b from count (omega (arith, w.low, w.high, holds.long_c)) (omega (arith, w.low, w.high, holds.long_b)) (λ i lo hi.
      byte_stays v i m (omega arith) (omega arith) (own i lo hi))

  pub head_stays : (v : ℕ) → IsAmong (64 ∷ starts) v → head_in c v ≡ head_in b v
  head_stays v m =
      let w = within b 64 (64 ∷ starts) end v holds.laid m in
      head_in-same c b v (omega (arith, w.high, holds.long_c)) (omega (arith, w.high, holds.long_b)) (λ i lo hi.
      byte_stays v i m lo (omega arith) (λ is. inl hi))

  no_head : (v : ℕ) → HasKind b v Gone → IsAmong hs v → ⊥
  no_head v k is = elim (holds.heads v is).1 [ inl d ↦ gone_is_not_dummy (head_in b v).kind k d | inr p ↦ put_is_not_gone (head_in b v).kind p k ]

  pub tail_stays : (v : ℕ) → IsAmong (64 ∷ starts) v → TailCheckIsRight b v → TailCheckIsRight c v
  tail_stays v m right =
      let check = agree v (v + (head_size_of (head_in b v) - 4)) 4 m (omega arith) (omega arith) (λ i lo hi is. inr (omega arith)) in
      let text = agree v (v + head_size_of (head_in b v)) (body_size_of (head_in b v)) m (omega arith) (omega arith) (λ i lo hi is. inr (omega arith)) in
      subst (λ (t : Head). u32_in (part c (v + (head_size_of t - 4)) 4) ≡ check_word (part c (v + head_size_of t) (body_size_of t))) (sym (head_stays v m)) (ap u32_in check ∙ right ∙ sym (ap check_word text))

  pub entry_stays : (e : Entry) → StandsAsEntry b starts e → StandsAsEntry c more e
  entry_stays e is =
      let v = e.at in
      let m : IsAmong (64 ∷ starts) v = inr is.start in
      let same = head_stays v m in
      let s = head_in b v in
      let used = s.key_len + s.value_len in
      record {
        start = grown v is.start;
        kind = ap (λ (t : Head). t.kind) same ∙ is.kind;
        level = ap (λ (t : Head). t.level) same ∙ is.level;
        key = subst (λ (t : Head). part c (v + head_size_of t) t.key_len ≡ e.key) (sym same) (agree v (v + head_size_of s) s.key_len m (omega arith) (omega arith) (λ i lo hi h. inr (omega arith)) ∙ is.key);
        value = subst (λ (t : Head). part c (v + head_size_of t + t.key_len) t.value_len ≡ e.value) (sym same) (agree v (v + head_size_of s + s.key_len) s.value_len m (omega arith) (omega arith) (λ i lo hi h. inr (omega arith)) ∙ is.value);
        tail_check = tail_stays v m is.tail_check;
        padding = subst (λ (t : Head). part c (v + head_size_of t + (t.key_len + t.value_len)) (body_size_of t - (t.key_len + t.value_len)) ≡ replicate (body_size_of t - (t.key_len + t.value_len)) 0) (sym same) (agree v (v + head_size_of s + used) (body_size_of s - used) m (omega arith) (omega arith) (λ i lo hi h. inr (omega arith)) ∙ is.padding);
      }

  passed_stays : (v to : ℕ) → LeadsPastDelete b starts v to → LeadsPastDelete c more v to
  passed_stays v to p =
      let m : IsAmong (64 ∷ starts) v = inr p.start in
      let same = head_stays v m in
      let flat = gone_level (head_in b v) (row_at b 336 starts end v holds.rows p.start).head p.kind in
      let whole : (from count : ℕ) → v ≤ from → from + count ≤ v + (head_in b v).size → part c from count ≡ part b from count = λ from count low high. agree v from count m low high (λ i lo hi is. absurd (no_head v p.kind is)) in
      record {
        start = grown v p.start;
        kind = ap (λ (t : Head). t.kind) same ∙ p.kind;
        head_check = subst (λ (t : Head). u32_in (part c (v + (head_size_of t - 8)) 4) ≡ check_word (part c v (head_size_of t - 8))) (sym same) (ap u32_in (whole (v + (head_size_of (head_in b v) - 8)) 4 (omega arith) (omega arith)) ∙ p.head_check ∙ sym (ap check_word (whole v (head_size_of (head_in b v) - 8) (omega arith) (omega arith))));
        tail_check = tail_stays v m p.tail_check;
        pointer = ap u64_in (whole (v + 8 + 8 * 0) 8 (omega arith) (omega arith)) ∙ p.pointer;
        leads = elim p.leads [ inl z ↦ inl z | inr q ↦ inr (grown to q.0, ap (λ (t : Head). t.kind) (head_stays to (inr q.0)) ∙ q.1) ];
      }

  pub leads_stays : (v to : ℕ) → LeadsTo b starts v to → LeadsTo c more v to
  leads_stays v to l = elim l [
    | inl z ↦ inl z
    | inr l ↦ inr (elim l [
      | inl p ↦ inl (grown v p.0, ap (λ (t : Head). t.kind) (head_stays v (inr p.0)) ∙ p.1, p.2)
      | inr p ↦ inr (passed_stays v to p)
    ])
  ]

  -- where the slots of each head but one lead on as before
  module _ (bound bound' : ℕ) (changed : ℕ) (pointers : (h v : ℕ) → IsAmong hs h → h ≢ changed → IsGreatestUnder bound (pointer_in b h 0) (pointer_in b h 1) v → IsGreatestUnder bound' (pointer_in c h 0) (pointer_in c h 1) v) where
    follows_stays : (at to : ℕ) → IsAmong hs at → at ≢ changed → IsSuccessorUnder b bound starts at to → IsSuccessorUnder c bound' more at to
    follows_stays at to is ne f = (f.0, pointers at f.0 is ne f.1, leads_stays f.0 to f.2)

    -- the records after the changed one
    pub chain_stays : (at : ℕ) (k : List ℕ) (es : List Entry) → IsAmong hs at → at ≢ changed → ((v : ℕ) → IsAmong (map (λ e. e.at) es) v → IsAmong hs v × (v ≢ changed)) → Chain b bound starts at k es → Chain c bound' more at k es
    chain_stays at k [] is ne all ch = follows_stays at 0 is ne ch
    chain_stays at k (e ∷ es) is ne all ch =
        let next = all e.at (inl refl) in
        (follows_stays at e.at is ne ch.0, entry_stays e ch.1, ch.2, chain_stays e.at e.key es next.0 next.1 (λ v m. all v (inr m)) ch.3)

    -- the records up to the changed one
    pub linked_stays : (at : ℕ) (k : List ℕ) (es : List Entry) (l : List ℕ) → IsAmong hs at → ((v : ℕ) → IsAmong (map (λ e. e.at) es) v → IsAmong hs v) → Named b at k → Named b changed l → Linked b bound starts at k es changed l → Linked c bound' more at k es changed l
    linked_stays at k [] l is all named last ch = ch
    linked_stays at k (e ∷ es) l is all named last ch =
        let ne : at ≢ changed = λ same. below_not_same k l (linked_rises b bound starts at k e es changed l ch) (named_same b at changed k l named last same) in
        let start = (within b 64 (64 ∷ starts) end e.at holds.laid (inr ch.1.start)).low in
        (follows_stays at e.at is ne ch.0, entry_stays e ch.1, ch.2, linked_stays e.at e.key es l (all e.at (inl refl)) (λ v m. all v (inr m)) (entry_named e ch.1) last ch.3)
      where
        entry_named : (e : Entry) → StandsAsEntry b starts e → Named b e.at e.key
        entry_named e is = inr (positive b starts end holds.laid e.at is.start, sym is.key)

    -- the changed head is not among the records after it
    pub later : (l : List ℕ) (back : List Entry) → Named b changed l → Chain b bound starts changed l back → (v : ℕ) → IsAmong (map (λ e. e.at) back) v → v ≢ changed
    later l back named ch v m same =
        let above = chain_rises b bound starts changed l back ch v m in
        below_not_same l (key_in b v) above.1 (elim named [
          | inl dummy ↦ absurd (omega (arith, positive b starts end holds.laid v above.0, dummy.0, same))
          | inr put ↦ put.1 ∙ ap (key_in b) (sym same)
        ])

pub chain_append : (b : List ℕ) (bound : ℕ) (starts : List ℕ) (at : ℕ) (k : List ℕ) (front : List Entry) (to : ℕ) (l : List ℕ) (back : List Entry) → Linked b bound starts at k front to l → Chain b bound starts to l back → Chain b bound starts at k (front ++ back)
chain_append b bound starts at k [] to l back f ch = subst (λ (x : ℕ). Chain b bound starts x k back) (sym f.0) (subst (λ (j : List ℕ). Chain b bound starts to j back) (sym f.1) ch)
chain_append b bound starts at k (e ∷ es) to l back f ch = (f.0, f.1, f.2, chain_append b bound starts e.at e.key es to l back f.3 ch)

-- What a store or a delete leaves: the records up to p stay, p leads to new ones, and the rest of the list stays.
module _ (b c : List ℕ) (starts more : List ℕ) (end : ℕ) (hs : List ℕ) (holds : Holds b c starts end hs) (grown : Includes starts more) (bound bound' : ℕ) (p : ℕ) (l : List ℕ) (named : Named b p l) (pointers : (h v : ℕ) → IsAmong hs h → h ≢ p → IsGreatestUnder bound (pointer_in b h 0) (pointer_in b h 1) v → IsGreatestUnder bound' (pointer_in c h 0) (pointer_in c h 1) v) where
  rest_stays : (at : ℕ) (k : List ℕ) (rest : List Entry) → ((v : ℕ) → IsAmong (map (λ e. e.at) rest) v → IsAmong hs v × (v ≢ p)) → (q : ℕ) (j : List ℕ) → Chain b bound starts q j rest → IsSuccessorUnder c bound' more at (first_at rest) → BeginsAbove k (pairs rest) → Chain c bound' more at k rest
  rest_stays at k [] all q j ch next above = next
  rest_stays at k (r ∷ rs) all q j ch next above =
      let here = all r.at (inl refl) in
      (next, entry_stays b c starts more end hs holds grown r ch.1, above, chain_stays b c starts more end hs holds grown bound bound' p pointers r.at r.key rs here.0 here.1 (λ v m. all v (inr m)) ch.3)

  module _ (front : List Entry) (all : (v : ℕ) → IsAmong (map (λ e. e.at) front) v → IsAmong hs v) (is_64 : IsAmong hs 64) (linked : Linked b bound starts 64 [] front p l) (rest : List Entry) (others : (v : ℕ) → IsAmong (map (λ e. e.at) rest) v → IsAmong hs v × (v ≢ p)) (q : ℕ) (j : List ℕ) (chain : Chain b bound starts q j rest) where
    front_stays : Linked c bound' more 64 [] front p l
    front_stays = linked_stays b c starts more end hs holds grown bound bound' p pointers 64 [] front l is_64 all (inl (refl, refl)) named linked

    -- the record e was appended, p leads to it, and it leads to the rest
    pub put_chain : (e : Entry) → StandsAsEntry c more e → IsBelow l e.key → IsSuccessorUnder c bound' more p e.at → IsSuccessorUnder c bound' more e.at (first_at rest) → BeginsAbove e.key (pairs rest) → Chain c bound' more 64 [] (front ++ e ∷ rest)
    put_chain e is below leads next above =
        chain_append c bound' more 64 [] front p l (e ∷ rest) front_stays (leads, is, below, rest_stays e.at e.key rest others q j chain next above)

    -- p leads to the rest
    pub delete_chain : IsSuccessorUnder c bound' more p (first_at rest) → BeginsAbove l (pairs rest) → Chain c bound' more 64 [] (front ++ rest)
    delete_chain leads above = chain_append c bound' more 64 [] front p l rest front_stays (rest_stays p l rest others q j chain leads above)

-- ---- parts of a list

-- a list in two parts: the first leads to its last record, and the second goes on from there
chain_split : (b : List ℕ) (bound : ℕ) (starts : List ℕ) (at : ℕ) (k : List ℕ) (front back : List Entry) → Chain b bound starts at k (front ++ back) → Linked b bound starts at k front (last_at at front) (last_key k front) × Chain b bound starts (last_at at front) (last_key k front) back
chain_split b bound starts at k [] back ch = ((refl, refl), ch)
chain_split b bound starts at k (e ∷ es) back ch =
    let next = chain_split b bound starts e.at e.key es back ch.3 in
    ((ch.0, ch.1, ch.2, next.0), next.1)

last_named : (b : List ℕ) (bound : ℕ) (starts : List ℕ) (end : ℕ) → Laid b 64 (64 ∷ starts) end → (at : ℕ) (k : List ℕ) (front back : List Entry) → Named b at k → Chain b bound starts at k (front ++ back) → Named b (last_at at front) (last_key k front)
last_named b bound starts end laid at k [] back named ch = named
last_named b bound starts end laid at k (e ∷ es) back named ch = last_named b bound starts end laid e.at e.key es back (inr (positive b starts end laid e.at ch.1.start, sym ch.1.key)) ch.3

-- the key of the record before is below that of the first of the rest, also where records between are dropped
below_first : (b : List ℕ) (bound : ℕ) (starts : List ℕ) (at : ℕ) (k : List ℕ) (dropped rest : List Entry) → Chain b bound starts at k (dropped ++ rest) → BeginsAbove k (pairs rest)
below_first b bound starts at k [] [] ch = record {}
below_first b bound starts at k [] (r ∷ rs) ch = ch.2
below_first b bound starts at k (e ∷ es) [] ch = record {}
below_first b bound starts at k (e ∷ es) (r ∷ rs) ch = below_trans k e.key r.key ch.2 (below_first b bound starts e.at e.key es (r ∷ rs) ch.3)

module _ (old new : List ℕ) (bound bound' end : ℕ) (starts starts' : List ℕ) (front dropped rest : List Entry) (ch : Changes old new bound bound' end starts starts' front dropped rest) where
  lies : Laid old 64 (64 ∷ starts) end
  lies = laid_dummy old starts end ch.dummy ch.rows

  stays : Holds old new starts end (heads_of (front ++ (dropped ++ rest)))
  stays = record {
    laid = lies;
    rows = ch.rows;
    heads = λ h is. elim is [
      | inl e ↦ (inl e, inl (subst (λ (v : ℕ). HasKind old v Dummy) e (dummy_stands old ch.dummy)))
      | inr m ↦ let c = in_chain old bound starts 64 [] (front ++ (dropped ++ rest)) h ch.chain m in (inr c.0, inr c.1)
    ];
    long_b = ch.old_long;
    long_c = ch.new_long;
    others = ch.others;
  }

  named : Named old (last_at 64 front) (last_key [] front)
  named = last_named old bound starts end lies 64 [] front (dropped ++ rest) (inl (refl, refl)) ch.chain

  parts : Linked old bound starts 64 [] front (last_at 64 front) (last_key [] front) × Chain old bound starts (last_at 64 front) (last_key [] front) (dropped ++ rest)
  parts = chain_split old bound starts 64 [] front (dropped ++ rest) ch.chain

  back : Linked old bound starts (last_at 64 front) (last_key [] front) dropped (last_at (last_at 64 front) dropped) (last_key (last_key [] front) dropped) × Chain old bound starts (last_at (last_at 64 front) dropped) (last_key (last_key [] front) dropped) rest
  back = chain_split old bound starts (last_at 64 front) (last_key [] front) dropped rest parts.1

  all_front : (v : ℕ) → IsAmong (map (λ e. e.at) front) v → IsAmong (heads_of (front ++ (dropped ++ rest))) v
  all_front v m = inr (among_front front (dropped ++ rest) v m)

  all_rest : (v : ℕ) → IsAmong (map (λ e. e.at) rest) v → IsAmong (heads_of (front ++ (dropped ++ rest))) v × (v ≢ last_at 64 front)
  all_rest v m =
      let after = among_back dropped rest v m in
      (inr (among_back front (dropped ++ rest) v after), later old new starts starts' end (heads_of (front ++ (dropped ++ rest))) stays ch.starts_stay bound bound' (last_at 64 front) ch.pointers (last_key [] front) (dropped ++ rest) named parts.1 v after)

  pub put_gives : (e : Entry) → StandsAsEntry new starts' e → IsBelow (last_key [] front) e.key → BeginsAbove e.key (pairs rest) → IsSuccessorUnder new bound' starts' (last_at 64 front) e.at → IsSuccessorUnder new bound' starts' e.at (first_at rest) → Chain new bound' starts' 64 [] (front ++ e ∷ rest)
  put_gives e is below above leads next =
      put_chain old new starts starts' end (heads_of (front ++ (dropped ++ rest))) stays ch.starts_stay bound bound' (last_at 64 front) (last_key [] front) named ch.pointers front all_front (inl refl) parts.0 rest all_rest (last_at (last_at 64 front) dropped) (last_key (last_key [] front) dropped) back.1 e is below leads next above

  pub delete_gives : IsSuccessorUnder new bound' starts' (last_at 64 front) (first_at rest) → Chain new bound' starts' 64 [] (front ++ rest)
  delete_gives leads =
      delete_chain old new starts starts' end (heads_of (front ++ (dropped ++ rest))) stays ch.starts_stay bound bound' (last_at 64 front) (last_key [] front) named ch.pointers front all_front (inl refl) parts.0 rest all_rest (last_at (last_at 64 front) dropped) (last_key (last_key [] front) dropped) back.1 leads (below_first old bound starts (last_at 64 front) (last_key [] front) dropped rest parts.1)
