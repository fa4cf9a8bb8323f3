-- One level of a change is relinked.
use Rattle.std.proofs.Common.{◌≡◌, ◌≢◌, ℕ, ◌+◌, ◌≤◌, List, ◌∷◌, ◌++◌, length, sym, ap, subst, ◌∙◌, inl, inr, arith, ◌⊎◌}
use Rattle.std.proofs.lemmas.Bool.{cases_eq, cases_lt}
use Rattle.skip_form.specs.Fields.{pointer_in}
use Rattle.skip_form.specs.Flaws.{head_in}
use Rattle.skip_spec.specs.Rows.{IsAmong}
use Rattle.skip_spec.specs.Chain.{Entry}
use Rattle.skip_spec.specs.Change.{heads_of, first_at, last_at}
use Rattle.skip_spec.specs.Opens.{Contents, Links, on_level}
use Rattle.skip_lists.proofs.Frames.{has_slots, log_different, other_pointer, listed_upper}
use Rattle.skip_lists.proofs.Links.{links_join, links_stay, links_on_stay, links_to_stay}
use Rattle.skip_lists.specs.Heads.{MaySet, HasSlots, SetsPointer}
use Rattle.skip_lists.specs.Levels.{Relinking}
use Rattle.skip_lists.specs.Tie.{AreKnown}
use Rattle.skip_spec.proofs.Lists.{ats, among_level, last_among, Different, different_level, on_level-append}
use Rattle.skip_spec.specs.Live.{Listed, Live}
use Rattle.skip_spec.proofs.SameLog.{head_of_log, tall}
use Rattle.skip_spec.proofs.Lists.{in_front, in_back, level_head, different_front, apart_front}

-- The pointer of one level from the front on is set.
module _ (b c starts : List ℕ) (front dropped added rest : List Entry) (level : ℕ) (r : Relinking b starts front dropped added rest level) (low : 1 ≤ level) (high : level ≤ 30)
    (s : SetsPointer b c (last_at 64 (on_level level front)) (level + 1) (first_at (on_level level (added ++ rest)))) (long : length c ≡ length b) where
  abbrev es : List Entry
  es = front ++ (added ++ rest)

  abbrev p : ℕ
  p = last_at 64 (on_level level front)

  p_on : IsAmong (64 ∷ ats (on_level level es)) p
  p_on = in_front level front (added ++ rest) p (last_among 64 (on_level level front))

  pub p_in : IsAmong (heads_of es) p
  p_in = level_head level es p p_on

  pub p_tall : level + 1 ≤ (head_in b p).level
  p_tall = tall b starts es (length b) r.listed.log level p high p_on

  differ : Different (heads_of es)
  differ = log_different b starts es (length b) r.listed.log

  -- all pointers but this one stay
  others : (other v : ℕ) → other ≤ 30 → IsAmong (64 ∷ ats (on_level other es)) v → (v ≢ p) ⊎ (other ≢ level) → pointer_in c v (other + 1) ≡ pointer_in b v (other + 1)
  others other v le m which =
      other_pointer b c starts es (length b) r.listed.log p (level + 1) (first_at (on_level level (added ++ rest))) p_in s p_tall v (other + 1)
      (head_of_log b starts es (length b) r.listed.log v (level_head other es v m)).0
      (elim which [ inl ne ↦ inl ne | inr ne ↦ inr (λ e. ne (omega (arith, e))) ])
      (tall b starts es (length b) r.listed.log other v le m)

  listed_c : Listed c starts es
  listed_c = listed_upper b c starts es r.listed p (level + 1) (first_at (on_level level (added ++ rest))) p_in s p_tall (omega arith) long

  here : Links c level 64 (on_level level es)
  here =
      let old = r.pending level (omega arith) high in
      subst (λ (l : List Entry). Links c level 64 l) (sym (on_level-append level front (added ++ rest)))
      (links_join c level 64 (on_level level front) (on_level level (added ++ rest))
      (links_to_stay b c level 64 (on_level level front) (different_level level 64 front (different_front front (added ++ rest) 64 differ)) (λ v m ne. others level v high (in_front level front (added ++ rest) v m) (inl ne)) old.front_links)
      s.pointer
      (links_on_stay b c level (on_level level (added ++ rest)) (λ v m. others level v high (in_back level front (added ++ rest) v m)
      (inl (apart_front front (added ++ rest) 64 v p differ (among_level level (added ++ rest) v m) (level_head level front p (last_among 64 (on_level level front)))))) old.rest_links))

  pub relinked : Relinking c starts front dropped added rest (level + 1)
  relinked = record {
    listed = listed_c;
    linked = λ other one lt le. elim (cases_eq other level) [
      | inl e ↦ subst (λ (n : ℕ). Links c n 64 (on_level n es)) (sym e) here
      | inr ne ↦ links_stay b c other 64 (on_level other es) (λ v m. others other v le m (inr ne)) (r.linked other one (grind (arith, ne)) le)
    ];
    pending = λ other lt le.
        let ne : other ≢ level = λ e. omega (arith, e, lt) in
        let old = r.pending other (omega (arith, lt)) le in
        record {
          front_links = links_to_stay b c other 64 (on_level other front) (different_level other 64 front (different_front front (added ++ rest) 64 differ)) (λ v m _. others other v le (in_front other front (added ++ rest) v m) (inr ne)) old.front_links;
          last = others other (last_at 64 (on_level other front)) le (in_front other front (added ++ rest) _ (last_among 64 (on_level other front))) (inr ne) ∙ old.last;
          rest_links = links_on_stay b c other (on_level other (added ++ rest)) (λ v m. others other v le (in_back other front (added ++ rest) v m) (inr ne)) old.rest_links;
        };
  }

-- the last of the front on a level has a pointer of that level
pub head_on : (b starts : List ℕ) (front dropped added rest : List Entry) (level : ℕ) → Relinking b starts front dropped added rest level → level ≤ 30 → HasSlots b (last_at 64 (on_level level front)) × (level + 1 ≤ (head_in b (last_at 64 (on_level level front))).level)
head_on b starts front dropped added rest level r high =
    let on = in_front level front (added ++ rest) (last_at 64 (on_level level front)) (last_among 64 (on_level level front)) in
    (has_slots b starts (front ++ (added ++ rest)) (length b) r.listed.log (last_at 64 (on_level level front)) (level_head level (front ++ (added ++ rest)) _ on), tall b starts (front ++ (added ++ rest)) (length b) r.listed.log level _ high on)

-- from a height on the levels never changed
pub all_relinked : (b starts : List ℕ) (front dropped added rest : List Entry) (height : ℕ) → Relinking b starts front dropped added rest height
    → ((level : ℕ) → height ≤ level → on_level level (dropped ++ rest) ≡ on_level level (added ++ rest))
    → Live b starts (front ++ (added ++ rest))
all_relinked b starts front dropped added rest height r alike = record {
  listed = r.listed;
  levels = λ level low le. elim (cases_lt level height) [
    | inl lt ↦ r.linked level low lt le
    | inr above ↦
        let p = r.pending level above le in
        subst (λ (l : List Entry). Links b level 64 l) (sym (on_level-append level front (added ++ rest)))
        (links_join b level 64 (on_level level front) (on_level level (added ++ rest)) p.front_links (p.last ∙ ap first_at (alike level above)) p.rest_links)
  ];
}

-- a level's pointer from the front on may be set
pub level_may : (base b starts : List ℕ) (front dropped added rest : List Entry) (level at to : ℕ) (says : Contents) → AreKnown says (front ++ (added ++ rest)) → Relinking b starts front dropped added rest level → 1 ≤ level → level ≤ 30 → at ≡ last_at 64 (on_level level front) → MaySet base says b at (level + 1) to
level_may base b starts front dropped added rest level at to says known r low high e =
    let on = in_front level front (added ++ rest) (last_at 64 (on_level level front)) (last_among 64 (on_level level front)) in
    subst (λ (v : ℕ). MaySet base says b v (level + 1) to) (sym e) (record {
      inside = (head_on b starts front dropped added rest level r high).1;
      known = λ lt. known _ (level_head level (front ++ (added ++ rest)) _ on) lt;
      which = λ lt. inl (omega (arith, low));
    })
