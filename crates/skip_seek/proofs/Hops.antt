-- A search on one upper level.
use Rattle.std.proofs.Common.{◌≡◌, ◌≢◌, ℕ, zero, suc, ◌+◌, ◌-◌, ◌<◌, ◌≤◌, true, false, List, [], ◌∷◌, ◌++◌, length, refl, sym, ap, subst, ◌∙◌, arith, append_assoc}
use Rattle.std.proofs.lemmas.List.{append-nil}
use Rattle.base_bytes.specs.OrderedMap.{IsBelow}
use Rattle.skip_form.specs.Fields.{pointer_in}
use Rattle.skip_form.specs.Flaws.{head_in}
use Rattle.skip_spec.specs.Records.{key_in}
use Rattle.skip_spec.specs.Chain.{Entry, Chain}
use Rattle.skip_spec.specs.Change.{first_at, last_at, last_key}
use Rattle.skip_spec.specs.Opens.{Links, on_level}
use Rattle.skip_spec.specs.Live.{Listed, Live}
use Rattle.skip_spec.specs.Place.{Place}
use Rattle.skip_lists.specs.Heads.{HasSlots}
use Rattle.skip_spec.proofs.Lists.{last_among, on_level-append, on_level-in, in_front, level_head, level_zero, all_front}
use Rattle.skip_lists.proofs.Links.{links_split}
use Rattle.skip_lists.proofs.Frames.{has_slots}
use Rattle.skip_spec.proofs.SameLog.{high_in_log, tall}
use Rattle.skip_lists.proofs.Spots.{levels_positive}
use Rattle.skip_image.specs.Image.{HasRecord}
use Rattle.skip_seek.specs.Climbing.{left, Standing, comes_before}
use Rattle.skip_seek.specs.Searches.{levels_of}
use Rattle.skip_seek.proofs.Reading.{first_stands, starts_inside}
use Rattle.skip_seek.proofs.Left.{advance, descend}
use Rattle.skip_seek.proofs.Walking.{none, some, next_on, inside, beyond, split_two, none_left, none_counted, levels-append, last-append, entry_of, rises_from, key_at, dummy_key, below_key, from_key}

module _ (b starts : List ℕ) (es : List Entry) (key : List ℕ) (live : Live b starts es) (place : Place es key) where
  abbrev ahead : List Entry
  ahead = place.front

  abbrev behind : List Entry
  behind = place.dropped ++ place.rest

  -- ---- where the search stands

  module _ (level at due : ℕ) (low : 1 ≤ level) (high : level ≤ 30) (s : Standing place.front level at due) where
    whole : es ≡ s.front ++ (s.mid ++ behind)
    whole = place.split ∙ ap (λ (l : List Entry). l ++ behind) s.parts ∙ append_assoc s.front s.mid behind

    split_live : Live b starts (s.front ++ (s.mid ++ behind))
    split_live = subst (λ (l : List Entry). Live b starts l) whole live

    listed : Listed b starts (s.front ++ (s.mid ++ behind))
    listed = subst (λ (l : List Entry). Listed b starts l) whole live.listed

    at_is : at ≡ last_at 64 (on_level level s.front)
    at_is = s.last level (omega arith)

    pub standing_slots : HasSlots b at × (level + 1 ≤ (head_in b at).level)
    standing_slots =
        let on = in_front level s.front (s.mid ++ behind) (last_at 64 (on_level level s.front)) (last_among 64 (on_level level s.front)) in
        subst (λ (v : ℕ). HasSlots b v × (level + 1 ≤ (head_in b v).level)) (sym at_is)
        (has_slots b starts (s.front ++ (s.mid ++ behind)) (length b) listed.log _ (level_head level (s.front ++ (s.mid ++ behind)) _ on), tall b starts (s.front ++ (s.mid ++ behind)) (length b) listed.log level _ high on)

    pub pointer_is : pointer_in b at (level + 1) ≡ first_at (on_level level (s.mid ++ behind))
    pointer_is =
        let l = subst (λ (l : List Entry). Links b level 64 (on_level level l)) whole (live.levels level low high) in
        ap (λ (v : ℕ). pointer_in b v (level + 1)) at_is
        ∙ (links_split b level 64 (on_level level s.front) (on_level level (s.mid ++ behind)) (subst (λ (l : List Entry). Links b level 64 l) (on_level-append level s.front (s.mid ++ behind)) l)).1

    -- the key where the search stands
    pub at_key : key_in b at ≡ last_key [] s.front
    at_key =
        let positive = level_zero s.front (all_front (λ e. 1 ≤ e.level) s.front (s.mid ++ behind) (levels_positive b starts (s.front ++ (s.mid ++ behind)) listed)) in
        ap (key_in b) (s.last 0 (omega arith) ∙ ap (last_at 64) positive)
        ∙ key_at b (length b) starts 64 [] s.front (s.mid ++ behind) (dummy_key b starts (s.front ++ (s.mid ++ behind)) listed) listed.log.chain

    -- what a pointer that is not 0 leads to
    pub record Leads (next : ℕ) : Type 0 where
      pub stands : HasRecord b next
      pub inside : next < length b
      pub above : IsBelow (key_in b at) (key_in b next)

    pub leads_on : (next : ℕ) → next ≡ pointer_in b at (level + 1) → next ≢ 0 → Leads next
    leads_on next is some_next = elim (next_on level next (s.mid ++ behind) (is ∙ pointer_is)) [
      | none z n ↦ absurd (some_next z)
      | some skipped e back parts n lt leads ↦
          let l = subst (λ (r : List Entry). Listed b starts (s.front ++ r)) parts listed in
          let stands = entry_of b (length b) starts 64 [] (s.front ++ skipped) e back (subst (λ (r : List Entry). Chain b (length b) starts 64 [] r) (sym (append_assoc s.front skipped (e ∷ back))) l.log.chain) in
          let there = first_stands b starts (s.front ++ (s.mid ++ behind)) split_live (s.front ++ skipped) e back (ap (λ (r : List Entry). s.front ++ r) parts ∙ sym (append_assoc s.front skipped (e ∷ back))) in
          let leading : Leads e.at = record {
            stands = there;
            inside = starts_inside b e.at there;
            above = subst (λ (k : List ℕ). IsBelow k (key_in b e.at)) (sym at_key) (subst (λ (k : List ℕ). IsBelow (last_key [] s.front) k) (sym stands.key) (rises_from b (length b) starts 64 [] s.front skipped e back l.log.chain));
          } in
          subst (λ (v : ℕ). Leads v) (sym leads) leading
    ]

    -- ---- a hop

    key_there : (skipped : List Entry) (e : Entry) (back : List Entry) → s.mid ++ behind ≡ skipped ++ e ∷ back → key_in b e.at ≡ e.key
    key_there skipped e back parts =
        let l = subst (λ (r : List Entry). Listed b starts (s.front ++ r)) parts listed in
        (entry_of b (length b) starts 64 [] (s.front ++ skipped) e back (subst (λ (r : List Entry). Chain b (length b) starts 64 [] r) (sym (append_assoc s.front skipped (e ∷ back))) l.log.chain)).key

    pub record Hopped (next : ℕ) : Type 0 where
      pub due' : ℕ
      pub standing : Standing place.front level next due'
      pub cost : due ≡ due' + 1

    pub hop : (next : ℕ) → next ≡ pointer_in b at (level + 1) → next ≢ 0 → comes_before (key_in b next) key ≡ true → Hopped next
    hop next is some_next lower = elim (next_on level next (s.mid ++ behind) (is ∙ pointer_is)) [
      | none z n ↦ absurd (some_next z)
      | some skipped e back parts n lt leads ↦
          let lesser : comes_before e.key key ≡ true = subst (λ (k : List ℕ). comes_before k key ≡ true) (ap (key_in b) leads ∙ key_there skipped e back parts) lower in
          elim (split_two s.mid behind skipped e back parts) [
            | beyond more p q ↦ absurd (let no = from_key b starts es key live place more e back q in cc)
            | inside more p q ↦ subst (λ (v : ℕ). Hopped v) (sym leads) (record {
              due' = left level (levels_of more);
              standing = record {
                front = s.front ++ (skipped ++ e ∷ []);
                mid = more;
                parts = s.parts ∙ ap (λ (l : List Entry). s.front ++ l) (p ∙ sym (append_assoc skipped (e ∷ []) more)) ∙ sym (append_assoc s.front (skipped ++ e ∷ []) more);
                last = λ lower le.
                    let one : on_level lower (e ∷ []) ≡ e ∷ [] = on_level-in lower e [] (omega (arith, le, lt)) in
                    let all : on_level lower (s.front ++ (skipped ++ e ∷ [])) ≡ on_level lower (s.front ++ skipped) ++ e ∷ [] = ap (on_level lower) (sym (append_assoc s.front skipped (e ∷ []))) ∙ on_level-append lower (s.front ++ skipped) (e ∷ []) ∙ ap (λ (l : List Entry). on_level lower (s.front ++ skipped) ++ l) one in
                    sym (ap (last_at 64) all ∙ last-append 64 (on_level lower (s.front ++ skipped)) e);
                cost = refl;
              };
              cost = s.cost ∙ ap (left level) (ap levels_of p ∙ levels-append skipped (e ∷ more)) ∙ fell level skipped e more n lt (omega arith);
            })
          ]
    ]
      where
        fell : (level : ℕ) (skipped : List Entry) (e : Entry) (more : List Entry) → on_level level skipped ≡ [] → level < e.level → 1 ≤ level → left level (levels_of skipped ++ e.level ∷ levels_of more) ≡ left level (levels_of more) + 1
        fell zero skipped e more n lt one = absurd (omega arith)
        fell (suc i) skipped e more n lt one = omega (arith, advance i e.level (levels_of skipped) (levels_of more) (none_counted (suc i) skipped n) lt)

    -- ---- the end of a level

    pub record Arrived (level' : ℕ) : Type 0 where
      pub due' : ℕ
      pub standing : Standing place.front level' at due'
      pub cost : due ≡ due' + 1
      pub last : at ≡ last_at 64 (on_level level place.front)

    arrive : on_level level s.mid ≡ [] → Arrived (level - 1)
    arrive n = record {
      due' = left (level - 1) (levels_of s.mid);
      standing = record { front = s.front; mid = s.mid; parts = s.parts; last = λ lower le. s.last lower (omega (arith, le)); cost = refl };
      cost = s.cost ∙ fell level s.mid n (omega arith);
      last = at_is ∙ ap (last_at 64) (sym (append-nil (on_level level s.front)) ∙ ap (λ (l : List Entry). on_level level s.front ++ l) (sym n) ∙ sym (on_level-append level s.front s.mid) ∙ ap (on_level level) (sym s.parts));
    }
      where
        fell : (level : ℕ) (mid : List Entry) → on_level level mid ≡ [] → 1 ≤ level → left level (levels_of mid) ≡ left (level - 1) (levels_of mid) + 1
        fell zero mid n one = absurd (omega arith)
        fell (suc i) mid n one =
            let same : suc i - 1 ≡ i = omega arith in
            omega (arith, descend i (levels_of mid) (none_counted (suc i) mid n), ap (λ (j : ℕ). left j (levels_of mid)) same)

    pub arrive_end : pointer_in b at (level + 1) ≡ 0 → Arrived (level - 1)
    arrive_end z = elim (next_on level (pointer_in b at (level + 1)) (s.mid ++ behind) pointer_is) [
      | none _ n ↦ arrive (none_left level s.mid behind n)
      | some skipped e back parts n lt leads ↦
          let l = subst (λ (r : List Entry). Listed b starts (s.front ++ r)) parts listed in
          let stands = entry_of b (length b) starts 64 [] (s.front ++ skipped) e back (subst (λ (r : List Entry). Chain b (length b) starts 64 [] r) (sym (append_assoc s.front skipped (e ∷ back))) l.log.chain) in
          absurd (omega (arith, z, leads, high_in_log b starts (s.front ++ (skipped ++ e ∷ back)) (length b) l.log e.at stands.start))
    ]

    pub arrive_stop : (next : ℕ) → next ≡ pointer_in b at (level + 1) → next ≢ 0 → comes_before (key_in b next) key ≡ false → Arrived (level - 1)
    arrive_stop next is some_next stop = elim (next_on level next (s.mid ++ behind) (is ∙ pointer_is)) [
      | none z n ↦ absurd (some_next z)
      | some skipped e back parts n lt leads ↦ elim (split_two s.mid behind skipped e back parts) [
        | beyond more p q ↦ arrive (none_left level s.mid more (sym (ap (on_level level) p) ∙ n))
        | inside more p q ↦
            let no : comes_before e.key key ≡ false = subst (λ (k : List ℕ). comes_before k key ≡ false) (ap (key_in b) leads ∙ key_there skipped e back parts) stop in
            let yes = below_key es key place (s.front ++ skipped) e more (s.parts ∙ ap (λ (l : List Entry). s.front ++ l) p ∙ sym (append_assoc s.front skipped (e ∷ more))) in
            absurd cc
      ]
    ]
