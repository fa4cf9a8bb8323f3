-- What a search found, in the bytes.
use Rattle.std.proofs.Common.{◌≡◌, ◌≢◌, ℕ, ◌+◌, ◌<◌, ◌≤◌, List, [], ◌∷◌, ◌++◌, length, refl, sym, ap, subst, ◌∙◌, inl, inr, arith, ◌⊎◌}
use Rattle.std.specs.Prelude.{slice_index}
use Rattle.std.specs.List.{AllByRecursion}
use Rattle.std.proofs.lemmas.Bool.{cases_eq}
use Rattle.skip_form.specs.Fields.{pointer_in}
use Rattle.skip_form.specs.Flaws.{head_in}
use Rattle.skip_form.specs.Spelling.{IsLevelOf}
use Rattle.skip_spec.specs.Chain.{Entry, Chain, StandsAsEntry}
use Rattle.skip_spec.specs.Change.{first_at, last_at}
use Rattle.skip_spec.specs.Opens.{Links, on_level}
use Rattle.skip_spec.proofs.Kept.{row_at}
use Rattle.skip_lists.proofs.Frames.{has_slots}
use Rattle.skip_lists.proofs.Links.{links_split}
use Rattle.skip_lists.specs.Heads.{HasSlots}
use Rattle.skip_lists.specs.Levels.{IsSpot}
use Rattle.skip_spec.proofs.Lists.{among_back, last_among, on_level-append, on_level-in, on_level-out, in_front, level_head, level_zero, all_front}
use Rattle.skip_spec.proofs.SameLog.{high_in_log, tall}
use Rattle.skip_spec.specs.Live.{Listed, Live}

-- each record of a list has a level
pub levels_positive : (b : List ℕ) (starts : List ℕ) (es : List Entry) → Listed b starts es → AllByRecursion (λ e. 1 ≤ e.level) es
levels_positive b starts es l = go 64 [] es l.log.chain
  where
    go : (at : ℕ) (k : List ℕ) (es : List Entry) → Chain b (length b) starts at k es → AllByRecursion (λ e. 1 ≤ e.level) es
    go at k [] ch = record {}
    go at k (e ∷ es) ch =
        let is = row_at b 336 starts (length b) e.at l.log.rows ch.1.start in
        let level = subst (λ k. IsLevelOf k (head_in b e.at).level) ch.1.kind is.head.level in
        (omega (arith, level.0, ch.1.level), go e.at e.key es ch.3)

entry_in : (b : List ℕ) (bound : ℕ) (starts : List ℕ) (at : ℕ) (k : List ℕ) (front : List Entry) (d : Entry) (rest : List Entry) → Chain b bound starts at k (front ++ (d ∷ rest)) → StandsAsEntry b starts d
entry_in b bound starts at k [] d rest ch = ch.1
entry_in b bound starts at k (e ∷ es) d rest ch = entry_in b bound starts e.at e.key es d rest ch.3

module _ (b starts : List ℕ) (es : List Entry) (key before : List ℕ) (same_at next : ℕ) (live : Live b starts es) (at : IsSpot es key before same_at next) where
  abbrev front : List Entry
  front = at.place.front

  abbrev rest : List Entry
  rest = at.place.rest

  abbrev dropped : List Entry
  dropped = at.place.dropped

  pub split_live : Live b starts (front ++ (dropped ++ rest))
  split_live = subst (λ (l : List Entry). Live b starts l) at.place.split live

  pub before_zero : slice_index before 0 ≡ last_at 64 front
  before_zero = at.last 0 (omega arith) ∙ ap (last_at 64) (level_zero front (all_front (λ e. 1 ≤ e.level) front (dropped ++ rest) (levels_positive b starts (front ++ (dropped ++ rest)) split_live.listed)))

  pub before_slots : (level : ℕ) → level ≤ 30 → HasSlots b (slice_index before level) × (level + 1 ≤ (head_in b (slice_index before level)).level)
  before_slots level le =
      let on = in_front level front (dropped ++ rest) (last_at 64 (on_level level front)) (last_among 64 (on_level level front)) in
      subst (λ (v : ℕ). HasSlots b v × (level + 1 ≤ (head_in b v).level)) (sym (at.last level le))
      (has_slots b starts (front ++ (dropped ++ rest)) (length b) split_live.listed.log _ (level_head level (front ++ (dropped ++ rest)) _ on), tall b starts (front ++ (dropped ++ rest)) (length b) split_live.listed.log level _ le on)

  -- the record of the key
  pub record Found : Type 0 where
    pub entry : Entry
    pub is : dropped ≡ entry ∷ []
    pub here : entry.at ≡ same_at
    pub slots : HasSlots b same_at
    pub level : (head_in b same_at).level ≡ entry.level
    pub positive : 336 ≤ same_at

  entry_is : (d : Entry) → dropped ≡ d ∷ [] → Found
  entry_is d e =
      let l = subst (λ (s : List Entry). Listed b starts (front ++ (s ++ rest))) e split_live.listed in
      let stands = entry_in b (length b) starts 64 [] front d rest l.log.chain in
      let here : d.at ≡ same_at = sym (at.same_is ∙ ap first_at e) in
      record {
        entry = d;
        is = e;
        here = here;
        slots = subst (λ (v : ℕ). HasSlots b v) here (has_slots b starts (front ++ (d ∷ rest)) (length b) l.log d.at (inr (among_back front (d ∷ rest) d.at (inl refl))));
        level = ap (λ (v : ℕ). (head_in b v).level) (sym here) ∙ stands.level;
        positive = omega (arith, here, high_in_log b starts (front ++ (d ∷ rest)) (length b) l.log d.at stands.start);
      }

  pub found : same_at ≢ 0 → Found
  found some = elim at.place.same_key [
    | inl none ↦ absurd (some (at.same_is ∙ ap first_at none))
    | inr one ↦ entry_is one.0 one.1
  ]

  pub none_found : same_at ≡ 0 → dropped ≡ []
  none_found z = elim at.place.same_key [
    | inl none ↦ none
    | inr one ↦ let f = entry_is one.0 one.1 in absurd (omega (arith, f.positive, z))
  ]

  pub past_same : (level : ℕ) → 1 ≤ level → level ≤ 30 → same_at ≢ 0 → level < (head_in b same_at).level → pointer_in b same_at (level + 1) ≡ first_at (on_level level rest)
  past_same level low high some above =
      let f = found some in
      let l = split_live.levels level low high in
      let whole : on_level level (front ++ (dropped ++ rest)) ≡ on_level level front ++ (f.entry ∷ on_level level rest) =
      on_level-append level front (dropped ++ rest) ∙ ap (λ (s : List Entry). on_level level front ++ on_level level (s ++ rest)) f.is ∙ ap (λ (s : List Entry). on_level level front ++ s) (on_level-in level f.entry rest (omega (arith, f.level, above))) in
      let back = (links_split b level 64 (on_level level front) (f.entry ∷ on_level level rest) (subst (λ (s : List Entry). Links b level 64 s) whole l)).2 in
      ap (λ (v : ℕ). pointer_in b v (level + 1)) (sym f.here) ∙ lead (on_level level rest) f.entry.at level back
    where
      lead : (es : List Entry) (from level : ℕ) → Links b level from es → pointer_in b from (level + 1) ≡ first_at es
      lead [] from level l = l
      lead (e ∷ es) from level l = l.0

  pub past_before : (level : ℕ) → 1 ≤ level → level ≤ 30 → (same_at ≡ 0) ⊎ ((head_in b same_at).level ≤ level) → pointer_in b (slice_index before level) (level + 1) ≡ first_at (on_level level rest)
  past_before level low high which =
      let l = split_live.levels level low high in
      let last = (links_split b level 64 (on_level level front) (on_level level (dropped ++ rest)) (subst (λ (s : List Entry). Links b level 64 s) (on_level-append level front (dropped ++ rest)) l)).1 in
      ap (λ (v : ℕ). pointer_in b v (level + 1)) (at.last level high) ∙ last ∙ ap first_at (out which)
    where
      out : (same_at ≡ 0) ⊎ ((head_in b same_at).level ≤ level) → on_level level (dropped ++ rest) ≡ on_level level rest
      out (inl z) = ap (λ (s : List Entry). on_level level (s ++ rest)) (none_found z)
      out (inr le) = elim (cases_eq same_at 0) [
        | inl z ↦ ap (λ (s : List Entry). on_level level (s ++ rest)) (none_found z)
        | inr some ↦ let f = found some in ap (λ (s : List Entry). on_level level (s ++ rest)) f.is ∙ on_level-out level f.entry rest (omega (arith, f.level, le))
      ]

  -- from a height on the record of the key is on no level
  pub none_above : (height : ℕ) → AllByRecursion (λ e. e.level ≤ height) dropped → (level : ℕ) → height ≤ level → on_level level (dropped ++ rest) ≡ on_level level rest
  none_above height all level le = elim at.place.same_key [
    | inl none ↦ ap (λ (s : List Entry). on_level level (s ++ rest)) none
    | inr one ↦
        let low = subst (λ (s : List Entry). AllByRecursion (λ e. e.level ≤ height) s) one.1 all in
        ap (λ (s : List Entry). on_level level (s ++ rest)) one.1 ∙ on_level-out level one.0 rest (omega (arith, low.0, le))
  ]
