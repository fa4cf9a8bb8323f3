-- One level after the other is led past a place.
use Rattle.std.proofs.Common.{◌≡◌, ℕ, ◌+◌, ◌<◌, ◌≤◌, List, ◌++◌, length, refl, sym, subst, inl, inr, arith}
use Rattle.std.specs.Prelude.{slice_index}
use Rattle.skip_form.specs.Flaws.{head_in}
use Rattle.skip_spec.specs.Rows.{IsAmong}
use Rattle.skip_spec.specs.Change.{last_at, heads_of}
use Rattle.skip_spec.specs.Opens.{Contents, on_level}
use Rattle.skip_spec.proofs.Lists.{among_front, in_front, last_among, level_head}
use Rattle.skip_spec.proofs.SameLog.{head_of_log, span_of}
use Rattle.skip_lists.specs.Heads.{HasSlots, SetsPointer, MaySet}
use Rattle.skip_lists.specs.Tie.{AreKnown}
use Rattle.skip_lists.proofs.Frames.{has_slots}
use Rattle.skip_lists.proofs.Relinked.{head_on, relinked, level_may}
use Rattle.skip_change.specs.Changing.{Swap, listed_by, IsBegun, IsRelinked}
use Rattle.skip_change.proofs.Keeping.{setting_keeps, keeps_then}

-- nothing was done yet
pub begun_relinked : (b before leads : List ℕ) (height : ℕ) (s : Swap) → IsBegun b before leads height s → IsRelinked b b 1 s
begun_relinked b before leads height s begun = record {
  relinking = begun.relinking;
  rest = record { header = refl; links = record { grows = omega arith; others = λ i low lt all. refl } };
}

-- the last of the front on a level has upper levels
pub front_slots : (old b before leads : List ℕ) (height done level : ℕ) (s : Swap) → IsBegun old before leads height s → IsRelinked old b done s → level ≤ 30 → HasSlots b (slice_index before level)
front_slots old b before leads height done level s begun is high =
    let at = last_at 64 (on_level level s.front) in
    let on = in_front level s.front (s.added ++ s.rest) at (last_among 64 (on_level level s.front)) in
    subst (λ (v : ℕ). HasSlots b v) (sym (begun.to_lead.last level high)) (has_slots b s.starts (listed_by s) (length b) is.relinking.listed.log at (level_head level (listed_by s) at on))

module _ (old b before leads : List ℕ) (height level : ℕ) (s : Swap) (begun : IsBegun old before leads height s) (done : IsRelinked old b level s) (high : level ≤ 30) where
  pub head_tall : level + 1 ≤ (head_in b (slice_index before level)).level
  head_tall = subst (λ (v : ℕ). level + 1 ≤ (head_in b v).level) (sym (begun.to_lead.last level high)) (head_on b s.starts s.front s.dropped s.added s.rest level done.relinking high).1

pub level_allowed : (base old b before leads : List ℕ) (height level to : ℕ) (says : Contents) (s : Swap) → IsBegun old before leads height s → AreKnown says (listed_by s) → IsRelinked old b level s → 1 ≤ level → level ≤ 30 → MaySet base says b (slice_index before level) (level + 1) to
level_allowed base old b before leads height level to says s begun known done low high = level_may base b s.starts s.front s.dropped s.added s.rest level (slice_index before level) to says known done.relinking low high (begun.to_lead.last level high)

pub level_relinked : (old b c before leads : List ℕ) (height level : ℕ) (s : Swap) → IsBegun old before leads height s → IsRelinked old b level s → 1 ≤ level → level ≤ 30 → level < height
    → SetsPointer b c (slice_index before level) (level + 1) (slice_index leads (level + 1)) → length c ≡ length b → IsRelinked old c (level + 1) s
level_relinked old b c before leads height level s begun done low high lt sets long =
    let at = begun.to_lead.last level high in
    let to = begun.to_lead.to level low lt in
    let here = last_at 64 (on_level level s.front) in
    let sets-2 = subst (λ (t : ℕ). SetsPointer b c here (level + 1) t) to (subst (λ (p : ℕ). SetsPointer b c p (level + 1) (slice_index leads (level + 1))) at sets) in
    let on = level_head level s.front here (last_among 64 (on_level level s.front)) in
    let tall = (head_on b s.starts s.front s.dropped s.added s.rest level done.relinking high).1 in
    let old_log = begun.relinking.listed.log in
    let log = done.relinking.listed.log in
    let past = (span_of b s.starts (listed_by s) (length b) log here (head_of_log b s.starts (listed_by s) (length b) log here (in_list here on)).0).low in
    record {
      relinking = relinked b c s.starts s.front s.dropped s.added s.rest level done.relinking low high sets-2 long;
      rest = keeps_then old b s.starts (listed_by s) s.front old_log in_list done.rest c (setting_keeps b c s.front here (level + 1) _ (omega (arith, log.least)) on past tall sets-2);
    }
  where
    in_list : (v : ℕ) → IsAmong (heads_of s.front) v → IsAmong (heads_of (listed_by s)) v
    in_list v (inl is) = inl is
    in_list v (inr m) = inr (among_front s.front (s.added ++ s.rest) v m)
