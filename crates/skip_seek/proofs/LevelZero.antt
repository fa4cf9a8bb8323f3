-- A search on level zero.
use Rattle.std.proofs.Common.{◌≡◌, ◌≢◌, ℕ, ◌+◌, ◌<◌, ◌≤◌, true, false, List, [], ◌∷◌, ◌++◌, length, refl, sym, ap, subst, ◌∙◌, inl, inr, arith, ◌⊎◌, append_assoc}
use Rattle.std.proofs.lemmas.List.{append-nil}
use Rattle.std.specs.List.{AllByRecursion}
use Rattle.base_bytes.specs.OrderedMap.{IsBelow}
use Rattle.skip_spec.specs.Records.{key_in}
use Rattle.skip_spec.specs.Chain.{Entry}
use Rattle.skip_spec.specs.Change.{first_at, last_at, last_key}
use Rattle.skip_spec.specs.Opens.{on_level}
use Rattle.skip_spec.specs.Live.{Listed, Live}
use Rattle.skip_spec.specs.Place.{Place}
use Rattle.skip_spec.proofs.Lists.{on_level-append, on_level-in, level_zero, all_front}
use Rattle.skip_spec.proofs.SameLog.{high_in_log}
use Rattle.skip_lists.proofs.Spots.{levels_positive}
use Rattle.skip_spec.specs.Successor.{successor_under}
use Rattle.skip_lists.proofs.Walks.{next_is}
use Rattle.skip_image.specs.Image.{HasRecord, CanStep}
use Rattle.skip_seek.specs.Climbing.{left, Standing, comes_before}
use Rattle.skip_seek.specs.Searches.{levels_of}
use Rattle.skip_seek.proofs.Reading.{first_stands, can_step, starts_inside}
use Rattle.skip_seek.proofs.Left.{advance_lowest}
use Rattle.skip_seek.proofs.Walking.{last-append, entry_of, rises_from, key_at, dummy_key, below_key, from_key}

-- ---- where the search stands

module _ (b starts : List ℕ) (es : List Entry) (key : List ℕ) (live : Live b starts es) (place : Place es key) (at due : ℕ) (s : Standing place.front 0 at due) where
  abbrev behind : List Entry
  behind = place.dropped ++ place.rest

  whole : es ≡ s.front ++ (s.mid ++ behind)
  whole = place.split ∙ ap (λ (l : List Entry). l ++ behind) s.parts ∙ append_assoc s.front s.mid behind

  listed : Listed b starts (s.front ++ (s.mid ++ behind))
  listed = subst (λ (l : List Entry). Listed b starts l) whole live.listed

  at_is : at ≡ last_at 64 s.front
  at_is = s.last 0 (omega arith) ∙ ap (last_at 64) (level_zero s.front (all_front (λ e. 1 ≤ e.level) s.front (s.mid ++ behind) (levels_positive b starts (s.front ++ (s.mid ++ behind)) listed)))

  pub zero_step : CanStep b (length b) at
  zero_step = subst (λ (v : ℕ). CanStep b (length b) v) (sym at_is) (can_step b starts es live s.front (s.mid ++ behind) whole)

  pub zero_next : successor_under b (length b) at ≡ first_at (s.mid ++ behind)
  zero_next = ap (successor_under b (length b)) at_is ∙ next_is b starts es (length b) live.listed.log s.front (s.mid ++ behind) whole

  at_key : key_in b at ≡ last_key [] s.front
  at_key = ap (key_in b) at_is ∙ key_at b (length b) starts 64 [] s.front (s.mid ++ behind) (dummy_key b starts (s.front ++ (s.mid ++ behind)) listed) listed.log.chain

  -- the record that comes next
  pub record Ahead (next : ℕ) : Type 0 where
    pub stands : HasRecord b next
    pub inside : next < length b
    pub above : IsBelow (key_in b at) (key_in b next)

  there : (e : Entry) (back : List Entry) → s.mid ++ behind ≡ e ∷ back → Ahead e.at × (key_in b e.at ≡ e.key)
  there e back parts =
      let l = subst (λ (r : List Entry). Listed b starts (s.front ++ r)) parts listed in
      let stands = entry_of b (length b) starts 64 [] s.front e back l.log.chain in (
        record {
          stands = first_stands b starts es live s.front e back (whole ∙ ap (λ (r : List Entry). s.front ++ r) parts);
          inside = starts_inside b e.at (first_stands b starts es live s.front e back (whole ∙ ap (λ (r : List Entry). s.front ++ r) parts));
          above = subst (λ (k : List ℕ). IsBelow k (key_in b e.at)) (sym at_key) (subst (λ (k : List ℕ). IsBelow (last_key [] s.front) k) (sym stands.key) (rises_from b (length b) starts 64 [] s.front [] e back l.log.chain));
        },
        stands.key,
      )

  ahead_in : (next : ℕ) (l : List Entry) → s.mid ++ behind ≡ l → next ≡ first_at l → next ≢ 0 → Ahead next
  ahead_in next [] parts is some = absurd (some is)
  ahead_in next (e ∷ back) parts is some = subst (λ (v : ℕ). Ahead v) (sym is) (there e back parts).0

  pub ahead : (next : ℕ) → next ≡ first_at (s.mid ++ behind) → next ≢ 0 → Ahead next
  ahead next is some = ahead_in next (s.mid ++ behind) refl is some

  pub record HoppedOn (next : ℕ) : Type 0 where
    pub due' : ℕ
    pub standing : Standing place.front 0 next due'
    pub cost : due ≡ due' + 2

  -- the search is done: nothing is left before the place
  pub record Done (next : ℕ) : Type 0 where
    pub last : at ≡ last_at 64 (on_level 0 place.front)
    pub here : next ≡ first_at behind
    pub cost : due ≡ 2

  done_here : s.mid ≡ [] → (next : ℕ) → next ≡ first_at (s.mid ++ behind) → Done next
  done_here empty next is = record {
    last = s.last 0 (omega arith) ∙ ap (λ (l : List Entry). last_at 64 (on_level 0 l)) (sym (append-nil s.front) ∙ ap (λ (l : List Entry). s.front ++ l) (sym empty) ∙ sym s.parts);
    here = is ∙ ap (λ (l : List Entry). first_at (l ++ behind)) empty;
    cost = s.cost ∙ ap (λ (l : List Entry). left 0 (levels_of l)) empty;
  }

  hop_from : (mid : List Entry) → s.mid ≡ mid → (next : ℕ) → next ≡ first_at (s.mid ++ behind) → next ≢ 0 → comes_before (key_in b next) key ≡ true → HoppedOn next
  hop_from [] empty next is some lower = stop behind refl
    where
      stop : (l : List Entry) → behind ≡ l → HoppedOn next
      stop [] e = absurd (some (is ∙ ap (λ (m : List Entry). first_at (m ++ behind)) empty ∙ ap first_at e))
      stop (f ∷ fs) e =
          let first : next ≡ f.at = is ∙ ap (λ (m : List Entry). first_at (m ++ behind)) empty ∙ ap first_at e in
          let t = there f fs (ap (λ (m : List Entry). m ++ behind) empty ∙ e) in
          let no = from_key b starts es key live place [] f fs e in
          let yes : comes_before f.key key ≡ true = subst (λ (k : List ℕ). comes_before k key ≡ true) (ap (key_in b) first ∙ t.1) lower in
          absurd cc
  hop_from (e ∷ more) parts next is some lower =
      let first : next ≡ e.at = is ∙ ap (λ (m : List Entry). first_at (m ++ behind)) parts in
      let positive = levels_positive b starts (s.front ++ ((e ∷ more) ++ behind)) (subst (λ (m : List Entry). Listed b starts (s.front ++ (m ++ behind))) parts listed) in
      let one = at_least s.front e (more ++ behind) positive in
      subst (λ (v : ℕ). HoppedOn v) (sym first) (record {
        due' = left 0 (levels_of more);
        standing = record {
          front = s.front ++ e ∷ [];
          mid = more;
          parts = s.parts ∙ ap (λ (l : List Entry). s.front ++ l) parts ∙ sym (append_assoc s.front (e ∷ []) more);
          last = λ lower le.
              let zero_is : lower ≡ 0 = omega arith in
              subst (λ (n : ℕ). e.at ≡ last_at 64 (on_level n (s.front ++ e ∷ []))) (sym zero_is)
              (sym (ap (last_at 64) (on_level-append 0 s.front (e ∷ []) ∙ ap (λ (l : List Entry). on_level 0 s.front ++ l) (on_level-in 0 e [] one)) ∙ last-append 64 (on_level 0 s.front) e));
          cost = refl;
        };
        cost = s.cost ∙ ap (λ (l : List Entry). left 0 (levels_of l)) parts ∙ (let f = advance_lowest e.level (levels_of more) one in omega (arith, f));
      })
    where
      at_least : (front : List Entry) (e : Entry) (back : List Entry) → AllByRecursion (λ e. 1 ≤ e.level) (front ++ (e ∷ back)) → 0 < e.level
      at_least [] e back all = omega (arith, all.0)
      at_least (f ∷ fs) e back all = at_least fs e back all.1

  pub hop_on : (next : ℕ) → next ≡ first_at (s.mid ++ behind) → next ≢ 0 → comes_before (key_in b next) key ≡ true → HoppedOn next
  hop_on next is some lower = hop_from s.mid refl next is some lower

  stop_from : (mid : List Entry) → s.mid ≡ mid → (next : ℕ) → next ≡ first_at (s.mid ++ behind) → (next ≡ 0) ⊎ (comes_before (key_in b next) key ≡ false) → Done next
  stop_from [] empty next is which = done_here empty next is
  stop_from (e ∷ more) parts next is which =
      let first : next ≡ e.at = is ∙ ap (λ (m : List Entry). first_at (m ++ behind)) parts in
      let t = there e (more ++ behind) (ap (λ (m : List Entry). m ++ behind) parts) in
      elim which [
        | inl z ↦ absurd (omega (arith, z, first, high_in_log b starts (s.front ++ ((e ∷ more) ++ behind)) (length b) (subst (λ (m : List Entry). Listed b starts (s.front ++ (m ++ behind))) parts listed).log e.at (entry_of b (length b) starts 64 [] s.front e (more ++ behind) (subst (λ (m : List Entry). Listed b starts (s.front ++ (m ++ behind))) parts listed).log.chain).start))
        | inr stop ↦
            let yes = below_key es key place s.front e more (s.parts ∙ ap (λ (l : List Entry). s.front ++ l) parts) in
            let no : comes_before e.key key ≡ false = subst (λ (k : List ℕ). comes_before k key ≡ false) (ap (key_in b) first ∙ t.1) stop in
            absurd cc
      ]

  pub stop_here : (next : ℕ) → next ≡ first_at (s.mid ++ behind) → (next ≡ 0) ⊎ (comes_before (key_in b next) key ≡ false) → Done next
  stop_here next is which = stop_from s.mid refl next is which
