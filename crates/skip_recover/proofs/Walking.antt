-- Steps of the walk along the live records.
use Rattle.std.proofs.Common.{◌≡◌, ◌≢◌, ◌⊎◌, ℕ, ◌+◌, ◌<◌, ◌≤◌, List, [], ◌∷◌, ◌++◌, length, get_or, refl, sym, ap, subst, ◌∙◌, inl, inr, arith, append_assoc, append-nil}
use Rattle.std.proofs.lemmas.List.{length-append}
use Rattle.std.proofs.lemmas.Bool.{cases_lt}
use Rattle.base_devices.specs.CrashImages.{DiskState}
use Rattle.skip_form.specs.Fields.{pointer_in}
use Rattle.skip_form.specs.Flaws.{head_in}
use Rattle.skip_spec.specs.Rows.{IsAmong}
use Rattle.skip_spec.specs.Chain.{Entry, Chain}
use Rattle.skip_spec.specs.Change.{heads_of, first_at, last_at}
use Rattle.skip_spec.specs.Successor.{successor_under}
use Rattle.skip_spec.specs.Opens.{Contents, IsTidyHead, Links, on_level}
use Rattle.skip_spec.specs.Near.{heads}
use Rattle.skip_spec.specs.Place.{last_on}
use Rattle.skip_spec.proofs.Lists.{ats, among_both, among_front, among_back, last_among, last_more, Different, different_front, different_level, on_level-append, on_level-in, on_level-more, on_level-no_more, level_head, in_front}
use Rattle.skip_spec.proofs.Lives.{live_few}
use Rattle.skip_spec.proofs.SameLog.{log_of_file, tall}
use Rattle.skip_lists.specs.Levels.{LinksTo}
use Rattle.skip_lists.specs.Repair.{IsLinked}
use Rattle.skip_lists.specs.Tie.{TiedToBase}
use Rattle.skip_lists.proofs.Frames.{log_different}
use Rattle.skip_lists.proofs.Links.{links_split, links_to_stay, links_to_more, links_to_end, links_end}
use Rattle.skip_lists.proofs.Walks.{next_is, none_left}
use Rattle.skip_recover.specs.Heads.{HasSlot, HaveSlots, LeadsLast, Mended}
use Rattle.skip_recover.specs.Walks.{Walked}
use Rattle.skip_recover.proofs.Bases.{log}
use Rattle.skip_recover.proofs.Leading.{tidy_led}

among_more : (es : List Entry) (e : Entry) (v : ℕ) → IsAmong (heads_of (es ++ e ∷ [])) v → IsAmong (heads_of es) v ⊎ (e.at ≡ v)
among_more es e v (inl is) = inl (inl is)
among_more es e v (inr m) = elim (among_both es (e ∷ []) v m) [
  | inl before ↦ inl (inr before)
  | inr here ↦ elim here [ inl is ↦ inr is | inr never ↦ absurd never ]
]

-- ---- of the list

module _ (base old : List ℕ) (says : Contents) (s : DiskState) (t : TiedToBase base says old s) (passed left : List Entry) (split : says.chain ≡ passed ++ left) where
  on_way : (level : ℕ) → level ≤ 30 → (v : ℕ) → IsAmong (64 ∷ ats (on_level level passed)) v → HasSlot base says v (level + 1)
  on_way level le v m =
      let here : IsAmong (64 ∷ ats (on_level level says.chain)) v = subst (λ (es : List Entry). IsAmong (64 ∷ ats (on_level level es)) v) (sym split) (in_front level passed left v m) in
      (level_head level says.chain v here, tall base says.starts says.chain says.header.current_size (log_of_file base says t.committed) level v le here)

  differ : (level : ℕ) → Different (64 ∷ ats (on_level level passed))
  differ level = different_level level 64 passed (different_front passed left 64 (subst (λ (es : List Entry). Different (heads_of es)) split (log_different base says.starts says.chain says.header.current_size (log_of_file base says t.committed))))

  passed_head : (v : ℕ) → IsAmong (heads_of passed) v → IsAmong (heads says) v
  passed_head v (inl is) = inl is
  passed_head v (inr m) = inr (subst (λ (es : List Entry). IsAmong (ats es) v) (sym split) (among_front passed left v m))

  -- ---- what the walk has linked stays linked

  module _ (mid new last : List ℕ) (to height : ℕ) (w : Walked says old last passed left) (l : LeadsLast base says old mid last height to)
      (stays : (h slot : ℕ) → HasSlot base says h slot → 2 ≤ slot → pointer_in new h slot ≡ pointer_in mid h slot) where
    linked_stay : (level : ℕ) → 1 ≤ level → level ≤ 30 → LinksTo new level 64 (on_level level passed)
    linked_stay level lo le = links_to_stay old new level 64 (on_level level passed) (differ level) (λ v m ne.
        stays v (level + 1) (on_way level le v m) (omega (arith, lo))
        ∙ l.others v level (on_way level le v m) (inr (inr (λ e. ne (e ∙ w.last_is level le))))) (w.linked level lo le)

    last_leads : (level : ℕ) → 1 ≤ level → level ≤ 30 → level < height → pointer_in new (last_on level passed) (level + 1) ≡ to
    last_leads level lo le lt =
        stays (last_on level passed) (level + 1) (on_way level le (last_on level passed) (last_among 64 (on_level level passed))) (omega (arith, lo))
        ∙ ap (λ (h : ℕ). pointer_in mid h (level + 1)) (sym (w.last_is level le))
        ∙ l.done level lo lt

pub have_slots : (base old : List ℕ) (says : Contents) (s : DiskState) → TiedToBase base says old s → (last : List ℕ) (passed left : List Entry) → Walked says old last passed left → (height : ℕ) → height ≤ 31 → HaveSlots base says last height
have_slots base old says s t last passed left w height le i low lt =
    subst (λ (h : ℕ). HasSlot base says h (i + 1)) (sym (w.last_is i (omega (arith, le, lt))))
    (on_way base old says s t passed left w.split i (omega (arith, le, lt)) (last_on i passed) (last_among 64 (on_level i passed)))

-- ---- where it begins, and where it ends

pub walked_none : (says : Contents) (file last : List ℕ) → IsTidyHead file says.header.current_size 64 → ((i : ℕ) → i ≤ 30 → get_or last i 0 ≡ 64) → Walked says file last [] says.chain
walked_none says file last tidy is = record {
  split = refl;
  last_is = λ i le. is i le;
  linked = λ i lo le. record {};
  tidy = λ h m. elim m [ inl e ↦ subst (λ (v : ℕ). IsTidyHead file says.header.current_size v) e tidy | inr never ↦ absurd never ];
}

module _ (base old : List ℕ) (says : Contents) (s : DiskState) (t : TiedToBase base says old s) where
  pub walked_all : (new last : List ℕ) (passed left : List Entry) → left ≡ [] → Walked says old last passed left → LeadsLast base says old new last 31 0 → IsLinked says new
  walked_all new last passed left none w l =
      let all : says.chain ≡ passed = w.split ∙ ap (λ (es : List Entry). passed ++ es) none ∙ append-nil passed in
      let kept = linked_stay base old says s t passed left w.split new new last 0 31 w l (λ h slot has le. refl) in
      let ends = last_leads base old says s t passed left w.split new new last 0 31 w l (λ h slot has le. refl) in
      record {
        levels = λ i lo le. subst (λ (es : List Entry). Links new i 64 (on_level i es)) (sym all) (links_to_end new i 64 (on_level i passed) (kept i lo le) (ends i lo le (omega (arith, le))));
        tidy = λ h m. tidy_led base old says s t new last 31 0 says.header.current_size l h m (w.tidy h (subst (λ (es : List Entry). IsAmong (heads_of es) h) all m));
      }

  -- ---- one record more

  module _ (mid new last last' : List ℕ) (passed : List Entry) (e : Entry) (left : List Entry) (w : Walked says old last passed (e ∷ left)) (l : LeadsLast base says old mid last e.level e.at) (m : Mended base says mid new says.header.current_size e.at)
      (now : (i : ℕ) → i < e.level → get_or last' i 0 ≡ e.at) (kept : (i : ℕ) → e.level ≤ i → i ≤ 30 → get_or last' i 0 ≡ get_or last i 0) where
    before : (h : ℕ) → IsAmong (heads_of passed) h → IsTidyHead new says.header.current_size h
    before h there =
        let known = passed_head base old says s t passed (e ∷ left) w.split h there in
        m.stay h known (tidy_led base old says s t mid last e.level e.at says.header.current_size l h known (w.tidy h there))

    pub walked_on : Walked says new last' (passed ++ e ∷ []) left
    walked_on =
        let stay = linked_stay base old says s t passed (e ∷ left) w.split mid new last e.at e.level w l m.uppers in
        let leads = last_leads base old says s t passed (e ∷ left) w.split mid new last e.at e.level w l m.uppers in
        record {
          split = w.split ∙ sym (append_assoc passed (e ∷ []) left);
          last_is = λ i le. elim (cases_lt i e.level) [
            | inl lt ↦ now i lt ∙ sym (ap (last_at 64) (on_level-more i passed e lt) ∙ last_more 64 (on_level i passed) e)
            | inr ge ↦ kept i ge le ∙ w.last_is i le ∙ ap (last_at 64) (sym (on_level-no_more i passed e ge))
          ];
          linked = λ i lo le. elim (cases_lt i e.level) [
            | inl lt ↦ subst (λ (es : List Entry). LinksTo new i 64 es) (sym (on_level-more i passed e lt)) (links_to_more new i 64 (on_level i passed) e (stay i lo le) (leads i lo le lt))
            | inr ge ↦ subst (λ (es : List Entry). LinksTo new i 64 es) (sym (on_level-no_more i passed e ge)) (stay i lo le)
          ];
          tidy = λ h is. elim (among_more passed e h is) [
            | inl there ↦ before h there
            | inr here ↦ subst (λ (v : ℕ). IsTidyHead new says.header.current_size v) here m.tidy
          ];
        }

  -- ---- the next record

  module _ (last : List ℕ) (passed left : List Entry) (w : Walked says old last passed left) where
    pub next_here : successor_under old says.header.current_size (last_at 64 passed) ≡ first_at left
    next_here = next_is old says.starts says.chain says.header.current_size (log base old says s t) passed left w.split

    pub ends_here : first_at left ≡ 0 → left ≡ []
    ends_here z = none_left old says.starts says.chain says.header.current_size (log base old says s t) passed left w.split z

    pub head_here : IsAmong (heads says) (last_at 64 passed)
    head_here = passed_head base old says s t passed left w.split (last_at 64 passed) (last_among 64 passed)

    pub count_below : length passed < says.header.current_size
    count_below =
        let few = live_few base says.header.current_size says.starts says.chain t.committed.rows t.committed.chain in
        omega (arith, few, ap length w.split, length-append passed left)

  pub one_left : (left : List Entry) → first_at left ≢ 0 → (e : Entry) × (rest : List Entry) × (left ≡ e ∷ rest)
  one_left [] some = absurd (some refl)
  one_left (e ∷ rest) some = (e, rest, refl)

  module _ (last : List ℕ) (passed : List Entry) (e : Entry) (left : List Entry) (w : Walked says old last passed (e ∷ left)) where
    pub next_head : IsAmong (heads says) e.at
    next_head = inr (subst (λ (es : List Entry). IsAmong (ats es) e.at) (sym w.split) (among_back passed (e ∷ left) e.at (inl refl)))

    entry_level : (at : ℕ) (k : List ℕ) (es : List Entry) → Chain base says.header.current_size says.starts at k (es ++ e ∷ left) → (head_in base e.at).level ≡ e.level
    entry_level at k [] c = c.1.level
    entry_level at k (f ∷ es) c = entry_level f.at f.key es c.3

    pub next_level : (head_in base e.at).level ≡ e.level
    next_level = entry_level 64 [] passed (subst (λ (es : List Entry). Chain base says.header.current_size says.starts 64 [] es) w.split t.committed.chain)

    -- where all is linked already, the last ones lead to it
    pub leads_next : IsLinked says old → (i : ℕ) → 1 ≤ i → i ≤ 30 → i < e.level → pointer_in old (get_or last i 0) (i + 1) ≡ e.at
    leads_next l i lo le lt =
        let parts : on_level i says.chain ≡ on_level i passed ++ e ∷ on_level i left = ap (on_level i) w.split ∙ on_level-append i passed (e ∷ left) ∙ ap (λ (es : List Entry). on_level i passed ++ es) (on_level-in i e left lt) in
        ap (λ (h : ℕ). pointer_in old h (i + 1)) (w.last_is i le) ∙ (links_split old i 64 (on_level i passed) (e ∷ on_level i left) (subst (λ (es : List Entry). Links old i 64 es) parts (l.levels i lo le))).1

  pub leads_end : (last : List ℕ) (passed left : List Entry) → left ≡ [] → Walked says old last passed left → IsLinked says old → (i : ℕ) → 1 ≤ i → i < 31 → pointer_in old (get_or last i 0) (i + 1) ≡ 0
  leads_end last passed left none w l i lo lt =
      let le : i ≤ 30 = omega arith in
      let all : says.chain ≡ passed = w.split ∙ ap (λ (es : List Entry). passed ++ es) none ∙ append-nil passed in
      ap (λ (h : ℕ). pointer_in old h (i + 1)) (w.last_is i le) ∙ links_end old i 64 (on_level i passed) (subst (λ (es : List Entry). Links old i 64 (on_level i es)) all (l.levels i lo le))
