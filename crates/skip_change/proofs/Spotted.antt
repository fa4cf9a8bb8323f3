-- The lemmas of a spot, of one that is found in bytes.
use Rattle.std.proofs.Common.{◌≡◌, ◌≢◌, ℕ, ◌+◌, ◌<◌, ◌≤◌, List, [], ◌∷◌, ◌++◌, sym, ap, subst, ◌∙◌, inl, inr, arith, ◌⊎◌}
use Rattle.std.specs.Prelude.{slice_index}
use Rattle.std.specs.List.{AllByRecursion}
use Rattle.skip_form.specs.Fields.{pointer_in}
use Rattle.skip_form.specs.Flaws.{head_in}
use Rattle.skip_spec.specs.Chain.{Entry}
use Rattle.skip_spec.specs.Rows.{IsAmong}
use Rattle.skip_spec.specs.Change.{first_at, last_at, heads_of}
use Rattle.skip_spec.specs.Opens.{on_level}
use Rattle.skip_spec.specs.Live.{Live}
use Rattle.skip_spec.specs.Place.{height}
use Rattle.skip_spec.proofs.Lists.{ats, among_front, last_among}
use Rattle.skip_lists.specs.Heads.{HasSlots}
use Rattle.skip_lists.proofs.Spots as spots
use Rattle.skip_change.specs.Changing.{HasSpot}
use Rattle.skip_change.specs.declared.spot.Spot.{Spot}

-- the spot is that of the same bytes
abbrev pub moved : (b d key : List ℕ) (spot : Spot) → d ≡ b → HasSpot b key spot → HasSpot d key spot
moved b d key spot e s = record { starts = s.starts; es = s.es; live = subst (λ (x : List ℕ). Live x s.starts s.es) (sym e) s.live; found = s.found }

module _ (b key : List ℕ) (spot : Spot) (s : HasSpot b key spot) where
  pub before_slots : (level : ℕ) → level ≤ 30 → HasSlots b (slice_index spot.before level) × (level + 1 ≤ (head_in b (slice_index spot.before level)).level)
  before_slots level le = spots.before_slots b s.starts s.es key spot.before spot.same_at spot.next s.live s.found level le

  pub before_zero : slice_index spot.before 0 ≡ last_at 64 s.found.place.front
  before_zero = spots.before_zero b s.starts s.es key spot.before spot.same_at spot.next s.live s.found

  pub before_among : IsAmong (heads_of s.found.place.front) (slice_index spot.before 0)
  before_among = subst (λ (v : ℕ). IsAmong (heads_of s.found.place.front) v) (sym before_zero) (last_among 64 s.found.place.front)

  pub front_among : (v : ℕ) → IsAmong (heads_of s.found.place.front) v → IsAmong (heads_of s.es) v
  front_among v (inl is) = inl is
  front_among v (inr m) = inr (subst (λ (l : List Entry). IsAmong (ats l) v) (sym s.found.place.split) (among_front s.found.place.front (s.found.place.dropped ++ s.found.place.rest) v m))

  pub found_slots : spot.same_at ≢ 0 → HasSlots b spot.same_at
  found_slots some = (spots.found b s.starts s.es key spot.before spot.same_at spot.next s.live s.found some).slots

  -- the level of the record of the key
  pub found_height : spot.same_at ≢ 0 → height s.found.place.dropped ≡ (head_in b spot.same_at).level
  found_height some =
      let f = spots.found b s.starts s.es key spot.before spot.same_at spot.next s.live s.found some in
      ap height f.is ∙ sym f.level

  pub no_height : spot.same_at ≡ 0 → height s.found.place.dropped ≡ 0
  no_height none = ap height (spots.none_found b s.starts s.es key spot.before spot.same_at spot.next s.live s.found none)

  pub past_same : (level : ℕ) → 1 ≤ level → level ≤ 30 → spot.same_at ≢ 0 → level < (head_in b spot.same_at).level → pointer_in b spot.same_at (level + 1) ≡ first_at (on_level level s.found.place.rest)
  past_same level low high some above = spots.past_same b s.starts s.es key spot.before spot.same_at spot.next s.live s.found level low high some above

  pub past_before : (level : ℕ) → 1 ≤ level → level ≤ 30 → (spot.same_at ≡ 0) ⊎ ((head_in b spot.same_at).level ≤ level) → pointer_in b (slice_index spot.before level) (level + 1) ≡ first_at (on_level level s.found.place.rest)
  past_before level low high which = spots.past_before b s.starts s.es key spot.before spot.same_at spot.next s.live s.found level low high which

  -- from the height of the record of the key on it is on no level
  pub none_above : (h : ℕ) → height s.found.place.dropped ≤ h → (level : ℕ) → h ≤ level → on_level level (s.found.place.dropped ++ s.found.place.rest) ≡ on_level level s.found.place.rest
  none_above h le = spots.none_above b s.starts s.es key spot.before spot.same_at spot.next s.live s.found h (low s.found.place.dropped s.found.place.same_key le)
    where
      low : (ds : List Entry) → (ds ≡ []) ⊎ ((e : Entry) × (ds ≡ e ∷ []) × (e.key ≡ key)) → height ds ≤ h → AllByRecursion (λ e. e.level ≤ h) ds
      low ds (inl empty) le = subst (λ (l : List Entry). AllByRecursion (λ e. e.level ≤ h) l) (sym empty) (record {})
      low ds (inr one) le = subst (λ (l : List Entry). AllByRecursion (λ e. e.level ≤ h) l) (sym one.1) (omega (arith, le, ap height one.1), record {})
