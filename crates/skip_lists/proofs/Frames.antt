-- One pointer of one head is set: what stays of a log.
use Rattle.std.proofs.Common.{◌≡◌, ◌≢◌, ℕ, ◌+◌, ◌-◌, ◌*◌, ◌<◌, ◌≤◌, List, [], ◌∷◌, length, get_or, refl, sym, ap, subst, ◌∙◌, inl, inr, arith, ◌⊎◌}
use Rattle.std.proofs.lemmas.Bool.{cases_eq}
use Rattle.check_word.specs.CheckWord.{check_word}
use Rattle.base_bytes.specs.OrderedMap.{IsBelow}
use Rattle.base_bytes.specs.Fields.{part, u32_in, u64_in}
use Rattle.skip_form.specs.declared.head.Head.{Head}
use Rattle.skip_form.specs.declared.head.Kind.TheVariants.{Dummy, Put}
use Rattle.skip_form.specs.Fields.{pointer_in}
use Rattle.skip_form.specs.Flaws.{head_in}
use Rattle.skip_form.specs.Spelling.{StandsAt}
use Rattle.skip_spec.specs.Records.{HasKind, HeadCheckIsRight, TailCheckIsRight, key_in, head_size_of}
use Rattle.skip_spec.specs.Rows.{IsAmong, Rows}
use Rattle.skip_spec.specs.Successor.{IsGreatestUnder}
use Rattle.skip_spec.specs.Chain.{Entry, Chain}
use Rattle.skip_spec.specs.Change.{heads_of, IsOutsideLinks}
use Rattle.skip_spec.specs.Opens.{IsTidyHead}
use Rattle.skip_spec.specs.Live.{HasLog, Listed}
use Rattle.skip_spec.proofs.Parts.{part-same}
use Rattle.skip_spec.proofs.Places.{in_chain}
use Rattle.skip_spec.proofs.Kept.{row_at, rows_kept, stands_kept}
use Rattle.skip_spec.proofs.Lists.{ats, Different}
use Rattle.skip_spec.proofs.SameLog.{laid_log, head_of_log, span_of, high_in_log, level_range}
use Rattle.skip_spec.proofs.Splice.{Holds, Includes, Named, agree, head_stays, tail_stays, chain_stays, chain_rises, below_not_same}
use Rattle.skip_lists.specs.Heads.{HasSlots, SetsPointer}

-- the dummy and live records have upper levels
pub has_slots : (b starts : List ℕ) (es : List Entry) (end : ℕ) → HasLog b starts es end → (h : ℕ) → IsAmong (heads_of es) h → HasSlots b h
has_slots b starts es end l h m =
    let range = level_range b starts es end l h m in
    record { low = range.0; high = range.1; inside = omega (arith, (span_of b starts es end l h (head_of_log b starts es end l h m).0).high, l.inside) }

-- ---- no record is listed twice

not_itself : (b : List ℕ) (at v : ℕ) (k : List ℕ) → Named b at k → 65 ≤ v → IsBelow k (key_in b v) → v ≢ at
not_itself b at v k (inl n) high below e = omega (arith, n.0, high, e)
not_itself b at v k (inr n) high below e = below_not_same k (key_in b v) below (n.1 ∙ ap (key_in b) (sym e))

chain_different : (b : List ℕ) (bound : ℕ) (starts : List ℕ) → ((v : ℕ) → IsAmong starts v → 65 ≤ v) → (at : ℕ) (k : List ℕ) (es : List Entry) → Named b at k → Chain b bound starts at k es → Different (at ∷ ats es)
chain_different b bound starts high at k [] named ch = ((λ v m. absurd m), record {})
chain_different b bound starts high at k (e ∷ es) named ch = (
  (λ v m. let r = chain_rises b bound starts at k (e ∷ es) ch v m in not_itself b at v k named (high v r.0) r.1),
  chain_different b bound starts high e.at e.key es (inr (high e.at ch.1.start, sym ch.1.key)) ch.3,
)

-- no record is listed twice
pub log_different : (b starts : List ℕ) (es : List Entry) (end : ℕ) → HasLog b starts es end → Different (heads_of es)
log_different b starts es end l = chain_different b end starts (λ v m. let h = high_in_log b starts es end l v m in omega arith) 64 [] es (inl (refl, refl)) l.chain

-- ---- one pointer

module _ (b c starts : List ℕ) (es : List Entry) (end : ℕ) (l : HasLog b starts es end) (p slot to : ℕ) (p_in : IsAmong (heads_of es) p) (s : SetsPointer b c p slot to) (fits : slot ≤ (head_in b p).level) where
  place : IsAmong (64 ∷ starts) p
  place = (head_of_log b starts es end l p p_in).0

  kept : (i : ℕ) → i < length b → IsOutsideLinks b p i → get_or c i 0 ≡ get_or b i 0
  kept i lt (inl low) = s.others i lt (inl (omega arith)) (inl (omega arith))
  kept i lt (inr high) = s.others i lt (inr (omega (arith, fits))) (inr high)

  pub one : Holds b c starts end (p ∷ [])
  one = record {
    laid = laid_log b starts es end l;
    rows = l.rows;
    heads = λ h m. elim m [ inl e ↦ subst (λ (w : ℕ). IsAmong (64 ∷ starts) w × (HasKind b w Dummy ⊎ HasKind b w Put)) e (head_of_log b starts es end l p p_in) | inr never ↦ absurd never ];
    long_b = l.inside;
    long_c = omega (arith, l.inside, s.long);
    others = λ i low lt all. kept i (omega (arith, lt, l.inside)) (all p (inl refl));
  }

  pub holds : Holds b c starts end (heads_of es)
  holds = record { laid = laid_log b starts es end l; rows = l.rows; heads = head_of_log b starts es end l; long_b = l.inside; long_c = omega (arith, l.inside, s.long); others = λ i low lt all. kept i (omega (arith, lt, l.inside)) (all p p_in) }

  itself : Includes starts starts
  itself v m = m

  same_part : (v from count : ℕ) → IsAmong (64 ∷ starts) v → v ≢ p → v ≤ from → from + count ≤ v + (head_in b v).size → part c from count ≡ part b from count
  same_part v from count m ne lo hi = agree b c starts starts end (p ∷ []) one itself v from count m lo hi (λ i low high is. elim is [ inl e ↦ absurd (ne (sym e)) | inr never ↦ absurd never ])

  pub same_head : (v : ℕ) → IsAmong (64 ∷ starts) v → head_in c v ≡ head_in b v
  same_head v m = head_stays b c starts starts end (p ∷ []) one itself v m

  pub same_pointer : (v n : ℕ) → IsAmong (64 ∷ starts) v → v ≢ p → n ≤ (head_in b v).level → pointer_in c v n ≡ pointer_in b v n
  same_pointer v n m ne le = ap u64_in (same_part v (v + 8 + 8 * n) 8 m ne (omega arith) (omega (arith, le)))

  sides : (n i : ℕ) → n ≢ slot → p + 8 + 8 * n ≤ i → i < p + 8 + 8 * n + 8 → (i < p + 8 + 8 * slot) ⊎ (p + 8 + 8 * slot + 8 ≤ i)
  sides n i ne lo hi = grind arith

  pub own_pointer : (n : ℕ) → n ≢ slot → n ≤ (head_in b p).level → pointer_in c p n ≡ pointer_in b p n
  own_pointer n ne le =
      let span = span_of b starts es end l p place in
      ap u64_in (part-same c b (p + 8 + 8 * n) 8 (omega (arith, span.high, s.long, l.inside, le)) (omega (arith, span.high, l.inside, le)) (λ i lo hi.
      s.others i (omega (arith, span.high, l.inside, le)) (sides n i ne lo hi) (inl (omega (arith, le)))))

  -- all pointers but the one
  pub other_pointer : (v n : ℕ) → IsAmong (64 ∷ starts) v → (v ≢ p) ⊎ (n ≢ slot) → n ≤ (head_in b v).level → pointer_in c v n ≡ pointer_in b v n
  other_pointer v n m which le = elim (cases_eq v p) [
    | inr ne ↦ same_pointer v n m ne le
    | inl e ↦ elim which [
      | inl ne ↦ absurd (ne e)
      | inr ne ↦ ap (λ (w : ℕ). pointer_in c w n) e ∙ own_pointer n ne (subst (λ (w : ℕ). n ≤ (head_in b w).level) e le) ∙ ap (λ (w : ℕ). pointer_in b w n) (sym e)
    ]
  ]

  pub right : (h : ℕ) → IsAmong (heads_of es) h → HeadCheckIsRight b h → HeadCheckIsRight c h
  right h m old = elim (cases_eq h p) [
    | inl e ↦ subst (λ (w : ℕ). HeadCheckIsRight c w) (sym e) s.check
    | inr ne ↦
        let at = (head_of_log b starts es end l h m).0 in
        subst (λ (t : Head). u32_in (part c (h + (head_size_of t - 8)) 4) ≡ check_word (part c h (head_size_of t - 8))) (sym (same_head h at))
        (ap u32_in (same_part h (h + (head_size_of (head_in b h) - 8)) 4 at ne (omega arith) (omega arith)) ∙ old ∙ sym (ap check_word (same_part h h (head_size_of (head_in b h) - 8) at ne (omega arith) (omega arith))))
  ]

  pub stands : (v : ℕ) → IsAmong (64 ∷ starts) v → StandsAt b v (head_in b v) → StandsAt c v (head_in c v)
  stands v m is =
      let w = span_of b starts es end l v m in
      stands_kept b c v (same_head v m)
      (agree b c starts starts end (p ∷ []) one itself v v 8 m (omega arith) (omega arith) (λ i lo hi is. inl (omega arith)))
      (omega (arith, w.high, l.inside, s.long)) is

  pub rows_stay : Rows c 336 starts end
  rows_stay = rows_kept b c 336 starts end l.rows (λ v m. (same_head v (inr m), stands v (inr m) (row_at b 336 starts end v l.rows m)))

  pub dummy_stays : StandsAt c 64 (head_in c 64)
  dummy_stays = stands 64 (inl refl) l.dummy

  pub dummy_tail_stays : TailCheckIsRight c 64
  dummy_tail_stays = tail_stays b c starts starts end (p ∷ []) one itself 64 (inl refl) l.dummy_tail

  -- ---- an upper pointer

  module _ (upper : 2 ≤ slot) where
    zero_pointer : (h n : ℕ) → IsAmong (heads_of es) h → n ≤ 1 → pointer_in c h n ≡ pointer_in b h n
    zero_pointer h n m le = let tall = (has_slots b starts es end l h m).low in other_pointer h n (head_of_log b starts es end l h m).0 (inr (λ e. omega arith)) (omega arith)

    pub tidy_upper : (h : ℕ) → IsAmong (heads_of es) h → IsTidyHead b end h → IsTidyHead c end h
    tidy_upper h m old = (omega (arith, zero_pointer h 0 m (omega arith), old.0), omega (arith, zero_pointer h 1 m (omega arith), old.1), right h m old.2)

    pointers : (h v : ℕ) → IsAmong (heads_of es) h → h ≢ 0 → IsGreatestUnder end (pointer_in b h 0) (pointer_in b h 1) v → IsGreatestUnder end (pointer_in c h 0) (pointer_in c h 1) v
    pointers h v m ne old =
        subst (λ (x : ℕ). IsGreatestUnder end x (pointer_in c h 1) v) (sym (zero_pointer h 0 m (omega arith)))
        (subst (λ (y : ℕ). IsGreatestUnder end (pointer_in b h 0) y v) (sym (zero_pointer h 1 m (omega arith))) old)

    pub log_upper : HasLog c starts es end
    log_upper = record {
      least = l.least;
      inside = omega (arith, l.inside, s.long);
      dummy = dummy_stays;
      dummy_tail = dummy_tail_stays;
      rows = rows_stay;
      chain = chain_stays b c starts starts end (heads_of es) holds itself end end 0 pointers 64 [] es (inl refl) (omega arith)
          (λ v m. (inr m, let high = high_in_log b starts es end l v (in_chain b end starts 64 [] es v l.chain m).0 in omega arith)) l.chain;
    }

-- an upper pointer of bytes that end with their log is set
pub listed_upper : (b c starts : List ℕ) (es : List Entry) (l : Listed b starts es) (p slot to : ℕ) → IsAmong (heads_of es) p → SetsPointer b c p slot to → slot ≤ (head_in b p).level → 2 ≤ slot → length c ≡ length b → Listed c starts es
listed_upper b c starts es l p slot to p_in s fits upper long = record {
  log = subst (λ (n : ℕ). HasLog c starts es n) (sym long) (log_upper b c starts es (length b) l.log p slot to p_in s fits upper);
  aligned = omega (arith, l.aligned, long);
  heads = λ h m. subst (λ (n : ℕ). IsTidyHead c n h) (sym long) (tidy_upper b c starts es (length b) l.log p slot to p_in s fits upper h m (l.heads h m));
}
