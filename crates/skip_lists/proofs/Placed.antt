-- A record is appended, and the last of the front leads to it.
use Rattle.std.proofs.Common.{◌≡◌, ◌≢◌, ℕ, zero, suc, ◌+◌, ◌<◌, ◌≤◌, List, [], ◌∷◌, ◌++◌, length, refl, sym, ap, subst, ◌∙◌, inl, inr, arith, ◌⊎◌}
use Rattle.std.proofs.lemmas.Bool.{cases_eq, cases_lt}
use Rattle.base_bytes.specs.OrderedMap.{IsBelow, BeginsAbove}
use Rattle.skip_form.specs.declared.head.Head.{Head}
use Rattle.skip_form.specs.declared.head.Kind.TheVariants.{Put, Gone}
use Rattle.skip_form.specs.Fields.{pointer_in}
use Rattle.skip_form.specs.Flaws.{head_in}
use Rattle.skip_form.specs.Spelling.{StandsAt}
use Rattle.skip_spec.specs.Records.{HasKind, HeadCheckIsRight, TailCheckIsRight}
use Rattle.skip_spec.specs.Rows.{IsAmong, Rows}
use Rattle.skip_spec.specs.Successor.{IsPointerUnder, LeadsTo}
use Rattle.skip_spec.specs.Chain.{Entry, Chain, StandsAsEntry, pairs}
use Rattle.skip_spec.specs.Change.{Changes, heads_of, first_at, last_at, last_key}
use Rattle.skip_spec.specs.Opens.{IsTidyHead, Links, on_level}
use Rattle.skip_spec.proofs.Places.{in_chain}
use Rattle.skip_spec.proofs.Splice.{put_gives, delete_gives}
use Rattle.skip_lists.proofs.Frames.{has_slots, log_different, other_pointer, same_head, holds, right, rows_stay, dummy_stays, dummy_tail_stays}
use Rattle.skip_lists.proofs.Links.{links_split, links_on_stay, links_to_stay}
use Rattle.skip_lists.specs.Heads.{SetsPointer}
use Rattle.skip_lists.specs.Levels.{LinksTo, LinksOn, Pending, Relinking}
use Rattle.skip_spec.proofs.Lists.{ats, among_front, among_back, among_both, last_among, Different, different_level, on_level-append, on_level-in, on_level-out}
use Rattle.skip_spec.specs.Appending.{put_entry}
use Rattle.skip_spec.specs.Live.{Listed}
use Rattle.skip_spec.proofs.SameLog.{head_of_log, span_of, tall}
use Rattle.skip_spec.proofs.Lists.{first_in, in_front, in_back, level_head, different_front}

rows_push : (c : List ℕ) (at : ℕ) (starts : List ℕ) (end : ℕ) → Rows c at starts end → StandsAt c end (head_in c end) → Rows c at (starts ++ end ∷ []) (end + (head_in c end).size)
rows_push c at [] end r is = (sym r, subst (λ (v : ℕ). StandsAt c v (head_in c v)) (sym r) is, ap (λ (v : ℕ). v + (head_in c v).size) r)
rows_push c at (s ∷ ss) end r is = (r.0, r.1, rows_push c (at + (head_in c at).size) ss end r.2 is)

among_old : (starts more : List ℕ) (v : ℕ) → IsAmong starts v → IsAmong (starts ++ more) v
among_old (s ∷ ss) more v (inl e) = inl e
among_old (s ∷ ss) more v (inr m) = inr (among_old ss more v m)
among_old [] more v m = absurd m

pub among_end : (starts : List ℕ) (v : ℕ) → IsAmong (starts ++ v ∷ []) v
among_end [] v = inl refl
among_end (s ∷ ss) v = inr (among_end ss v)

module _ (b c starts : List ℕ) (front dropped rest : List Entry) (l : Listed b starts (front ++ (dropped ++ rest))) (k : ℕ) (one : k ≤ 1) (s : SetsPointer b c (last_at 64 front) k (length b))
    (is : StandsAt c (length b) (head_in c (length b))) (ends : length c ≡ length b + (head_in c (length b)).size) where
  abbrev es : List Entry
  es = front ++ (dropped ++ rest)

  abbrev p : ℕ
  p = last_at 64 front

  abbrev more : List ℕ
  more = starts ++ length b ∷ []

  p_in : IsAmong (heads_of es) p
  p_in = elim (last_among 64 front) [ inl e ↦ inl e | inr m ↦ inr (among_front front (dropped ++ rest) p m) ]

  p_tall : k ≤ (head_in b p).level
  p_tall = let h = has_slots b starts es (length b) l.log p p_in in omega (arith, h.low)

  grows : length b < length c
  grows = omega (arith, ends)

  low_slot : (h n : ℕ) → IsAmong (heads_of es) h → n ≤ 1 → pointer_in b h n < length b
  low_slot h zero m le = (l.heads h m).0
  low_slot h (suc zero) m le = (l.heads h m).1
  low_slot h (suc (suc n)) m le = absurd (omega arith)

  other_slot : (h n : ℕ) → IsAmong (heads_of es) h → (h ≢ p) ⊎ (n ≢ k) → n ≤ 1 → pointer_in c h n ≡ pointer_in b h n
  other_slot h n m which le =
      let t = has_slots b starts es (length b) l.log h m in
      other_pointer b c starts es (length b) l.log p k (length b) p_in s p_tall h n (head_of_log b starts es (length b) l.log h m).0 which (omega (arith, t.low))

  new_slot : (h n : ℕ) → IsAmong (heads_of es) h → n ≤ 1 → pointer_in c h n ≤ length b
  new_slot h n m le = elim (cases_eq n k) [
    | inr ne ↦ omega (arith, other_slot h n m (inr ne) le, low_slot h n m le)
    | inl e ↦ elim (cases_eq h p) [
      | inr ne ↦ omega (arith, other_slot h n m (inl ne) le, low_slot h n m le)
      | inl dropped ↦ omega (arith, ap (λ (x : ℕ). pointer_in c x n) dropped, ap (pointer_in c p) e, s.pointer)
    ]
  ]

  pub tidy : (h : ℕ) → IsAmong (heads_of es) h → IsTidyHead c (length c) h
  tidy h m = (omega (arith, new_slot h 0 m (omega arith), grows), omega (arith, new_slot h 1 m (omega arith), grows), right b c starts es (length b) l.log p k (length b) p_in s p_tall h m (l.heads h m).2)

  pointer_new : IsPointerUnder c (length c) p (length b)
  pointer_new = record {
    below = grows;
    one_of = elim (cases_eq k 0) [ inl z ↦ inl (sym s.pointer ∙ ap (pointer_in c p) z) | inr nz ↦ inr (sym s.pointer ∙ ap (pointer_in c p) (let e : k ≡ 1 = omega arith in e)) ];
    first = λ _. new_slot p 0 p_in (omega arith);
    second = λ _. new_slot p 1 p_in (omega arith);
  }

  pub changes : Changes b c (length b) (length c) (length b) starts more front dropped rest
  changes = record {
    dummy = l.log.dummy;
    rows = l.log.rows;
    chain = l.log.chain;
    starts_stay = λ at m. among_old starts (length b ∷ []) at m;
    old_long = omega arith;
    new_long = s.long;
    others = (holds b c starts es (length b) l.log p k (length b) p_in s p_tall).others;
    pointers = λ h v m ne old. record {
      below = omega (arith, old.below, grows);
      one_of = elim old.one_of [ inl e ↦ inl (e ∙ sym (other_slot h 0 m (inl ne) (omega arith))) | inr e ↦ inr (e ∙ sym (other_slot h 1 m (inl ne) (omega arith))) ];
      first = λ _. omega (arith, other_slot h 0 m (inl ne) (omega arith), old.first (l.heads h m).0);
      second = λ _. omega (arith, other_slot h 1 m (inl ne) (omega arith), old.second (l.heads h m).1);
    };
  }

  pub rows_c : Rows c 336 more (length c)
  rows_c = subst (λ (n : ℕ). Rows c 336 more n) (sym ends) (rows_push c 336 starts (length b) (rows_stay b c starts es (length b) l.log p k (length b) p_in s p_tall) is)

  -- the first of the rest, in the new file
  rest_put : (first_at rest ≡ 0) ⊎ (IsAmong more (first_at rest) × HasKind c (first_at rest) Put)
  rest_put = elim (first_in rest) [
    | inl z ↦ inl z
    | inr m ↦
        let old = in_chain b (length b) starts 64 [] es (first_at rest) l.log.chain (among_back front (dropped ++ rest) (first_at rest) (among_back dropped rest (first_at rest) m)) in
        inr (among_old starts (length b ∷ []) (first_at rest) old.0, ap (λ (h : Head). h.kind) (same_head b c starts es (length b) l.log p k (length b) p_in s p_tall (first_at rest) (inr old.0)) ∙ old.1)
  ]

  rest_low : first_at rest < length b
  rest_low = elim (first_in rest) [
    | inl z ↦ omega (arith, z, l.log.least)
    | inr m ↦
        let old = in_chain b (length b) starts 64 [] es (first_at rest) l.log.chain (among_back front (dropped ++ rest) (first_at rest) (among_back dropped rest (first_at rest) m)) in
        let w = span_of b starts es (length b) l.log (first_at rest) (inr old.0) in
        omega (arith, w.high)
  ]

  -- ---- the upper levels as they were

  upper_same : (level v : ℕ) → 1 ≤ level → level ≤ 30 → IsAmong (64 ∷ ats (on_level level es)) v → pointer_in c v (level + 1) ≡ pointer_in b v (level + 1)
  upper_same level v low high m =
      other_pointer b c starts es (length b) l.log p k (length b) p_in s p_tall v (level + 1) (head_of_log b starts es (length b) l.log v (level_head level es v m)).0 (inr (λ e. omega (arith, e, low, one))) (tall b starts es (length b) l.log level v high m)

  module _ (levels : (level : ℕ) → 1 ≤ level → level ≤ 30 → Links b level 64 (on_level level es)) where
    differ : Different (heads_of es)
    differ = log_different b starts es (length b) l.log

    split_level : (level : ℕ) → 1 ≤ level → level ≤ 30 → LinksTo b level 64 (on_level level front) × (pointer_in b (last_at 64 (on_level level front)) (level + 1) ≡ first_at (on_level level (dropped ++ rest))) × LinksOn b level (on_level level (dropped ++ rest))
    split_level level low high = links_split b level 64 (on_level level front) (on_level level (dropped ++ rest)) (subst (λ (es : List Entry). Links b level 64 es) (on_level-append level front (dropped ++ rest)) (levels level low high))

    -- the records after the dropped one
    split_rest : (level : ℕ) → 1 ≤ level → level ≤ 30 → LinksOn b level (on_level level rest)
    split_rest level low high =
        let all : on_level level es ≡ (on_level level front ++ on_level level dropped) ++ on_level level rest = whole level front dropped rest in
        (links_split b level 64 (on_level level front ++ on_level level dropped) (on_level level rest) (subst (λ (es : List Entry). Links b level 64 es) all (levels level low high))).2
      where
        assoc : (xs ys zs : List Entry) → xs ++ (ys ++ zs) ≡ (xs ++ ys) ++ zs
        assoc [] ys zs = refl
        assoc (x ∷ xs) ys zs = ap (λ (l : List Entry). x ∷ l) (assoc xs ys zs)

        whole : (level : ℕ) (front dropped rest : List Entry) → on_level level (front ++ (dropped ++ rest)) ≡ (on_level level front ++ on_level level dropped) ++ on_level level rest
        whole level front dropped rest = on_level-append level front (dropped ++ rest) ∙ ap (λ (l : List Entry). on_level level front ++ l) (on_level-append level dropped rest) ∙ assoc (on_level level front) (on_level level dropped) (on_level level rest)

    rest_on : (level v : ℕ) → IsAmong (ats (on_level level rest)) v → IsAmong (64 ∷ ats (on_level level es)) v
    rest_on level v m = in_back level front (dropped ++ rest) v (subst (λ (es : List Entry). IsAmong (ats es) v) (sym (on_level-append level dropped rest)) (among_back (on_level level dropped) (on_level level rest) v m))

    rest_links_c : (level : ℕ) → 1 ≤ level → level ≤ 30 → LinksOn c level (on_level level rest)
    rest_links_c level low high = links_on_stay b c level (on_level level rest) (λ v m. upper_same level v low high (rest_on level v m)) (split_rest level low high)

    pending : (added : List Entry) (level : ℕ) → 1 ≤ level → level ≤ 30 → LinksOn c level (on_level level (added ++ rest)) → Pending c front dropped added rest level
    pending added level low high on =
        let old = split_level level low high in
        record {
          front_links = links_to_stay b c level 64 (on_level level front) (different_level level 64 front (different_front front (dropped ++ rest) 64 differ)) (λ v m _. upper_same level v low high (in_front level front (dropped ++ rest) v m)) old.0;
          last = upper_same level (last_at 64 (on_level level front)) low high (in_front level front (dropped ++ rest) _ (last_among 64 (on_level level front))) ∙ old.1;
          rest_links = on;
        }

    -- ---- a put record was appended

    module _ (level : ℕ) (key value : List ℕ) (entry : StandsAsEntry c more (put_entry (length b) level key value)) (check : HeadCheckIsRight c (length b))
        (zero_is : pointer_in c (length b) 0 ≡ first_at rest) (one_is : pointer_in c (length b) 1 ≡ 0)
        (uppers : (n : ℕ) → 1 ≤ n → n < level → pointer_in c (length b) (n + 1) ≡ first_at (on_level n rest))
        (below : IsBelow (last_key [] front) key) (above : BeginsAbove key (pairs rest)) where
      abbrev e : Entry
      e = put_entry (length b) level key value

      leads_rest : LeadsTo c more (first_at rest) (first_at rest)
      leads_rest = elim rest_put [ inl z ↦ inl (z, z) | inr m ↦ inr (inl (m.0, m.1, refl)) ]

      chain_c : Chain c (length c) more 64 [] (front ++ e ∷ rest)
      chain_c = put_gives b c (length b) (length c) (length b) starts more front dropped rest changes e entry below above
          (length b, pointer_new, inr (inl (among_end starts (length b), entry.kind, refl)))
          (first_at rest, record { below = omega (arith, rest_low, grows); one_of = inl (sym zero_is); first = λ _. omega (arith, zero_is); second = λ _. omega (arith, one_is) }, leads_rest)

      heads_c : (h : ℕ) → IsAmong (heads_of (front ++ e ∷ rest)) h → IsTidyHead c (length c) h
      heads_c h (inl e) = tidy h (inl e)
      heads_c h (inr m) = elim (among_both front (e ∷ rest) h m) [
        | inl m ↦ tidy h (inr (among_front front (dropped ++ rest) h m))
        | inr back ↦ elim back [
          | inl new ↦ subst (λ (w : ℕ). IsTidyHead c (length c) w) new (omega (arith, zero_is, rest_low, grows), omega (arith, one_is, grows), check)
          | inr m ↦ tidy h (inr (among_back front (dropped ++ rest) h (among_back dropped rest h m)))
        ]
      ]

      on_c : (n : ℕ) → 1 ≤ n → n ≤ 30 → LinksOn c n (on_level n (e ∷ rest))
      on_c n low high = elim (cases_lt n level) [
        | inl lt ↦ subst (λ (es : List Entry). LinksOn c n es) (sym (on_level-in n e rest lt)) (lead (on_level n rest) (uppers n low lt) (rest_links_c n low high))
        | inr le ↦ subst (λ (es : List Entry). LinksOn c n es) (sym (on_level-out n e rest le)) (rest_links_c n low high)
      ]
        where
          lead : (es : List Entry) → pointer_in c (length b) (n + 1) ≡ first_at es → LinksOn c n es → Links c n (length b) es
          lead [] to on = to
          lead (f ∷ fs) to on = (to, on)

      pub put_begun : Relinking c more front dropped (e ∷ []) rest 1
      put_begun = record {
        listed = record {
          log = record { least = omega (arith, l.log.least, grows); inside = omega arith; dummy = dummy_stays b c starts es (length b) l.log p k (length b) p_in s p_tall; dummy_tail = dummy_tail_stays b c starts es (length b) l.log p k (length b) p_in s p_tall; rows = rows_c; chain = chain_c };
          aligned = omega (arith, l.aligned, ends);
          heads = heads_c;
        };
        linked = λ n low lt le. absurd (omega (arith, low, lt));
        pending = λ n low high. pending (e ∷ []) n low high (on_c n low high);
      }

    -- ---- a delete record was appended

    module _ (gone : HasKind c (length b) Gone) (check : HeadCheckIsRight c (length b)) (tail : TailCheckIsRight c (length b)) (zero_is : pointer_in c (length b) 0 ≡ first_at rest) where
      gone_chain : Chain c (length c) more 64 [] (front ++ rest)
      gone_chain = delete_gives b c (length b) (length c) (length b) starts more front dropped rest changes
          (length b, pointer_new, inr (inr (record { start = among_end starts (length b); kind = gone; head_check = check; tail_check = tail; pointer = zero_is; leads = rest_put })))

      gone_heads : (h : ℕ) → IsAmong (heads_of (front ++ rest)) h → IsTidyHead c (length c) h
      gone_heads h (inl e) = tidy h (inl e)
      gone_heads h (inr m) = elim (among_both front rest h m) [
        | inl m ↦ tidy h (inr (among_front front (dropped ++ rest) h m))
        | inr m ↦ tidy h (inr (among_back front (dropped ++ rest) h (among_back dropped rest h m)))
      ]

      pub delete_begun : Relinking c more front dropped [] rest 1
      delete_begun = record {
        listed = record {
          log = record { least = omega (arith, l.log.least, grows); inside = omega arith; dummy = dummy_stays b c starts es (length b) l.log p k (length b) p_in s p_tall; dummy_tail = dummy_tail_stays b c starts es (length b) l.log p k (length b) p_in s p_tall; rows = rows_c; chain = gone_chain };
          aligned = omega (arith, l.aligned, ends);
          heads = gone_heads;
        };
        linked = λ n low lt le. absurd (omega (arith, low, lt));
        pending = λ n low high. pending [] n low high (rest_links_c n low high);
      }
