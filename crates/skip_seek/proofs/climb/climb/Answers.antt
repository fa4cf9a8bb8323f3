use Rattle.std.proofs.Common.{◌≡◌, ℕ, ◌+◌, ◌-◌, get_or, set, sym, ap, subst, ◌∙◌, refl, inl, inr, arith}
use Rattle.std.proofs.lemmas.Bool.{cases_eq}
use Rattle.std.proofs.lemmas.List.{get_or-set_same, get_or-set_other, length-set}
use Rattle.skip_spec.specs.Place.{last_on}
use Rattle.skip_spec.proofs.PlaceLemmas.{place_of, live_rises}
use Rattle.skip_seek.specs.Climbing.{Standing}
use Rattle.skip_seek.specs.Searches.{live_of}
use Rattle.skip_seek.proofs.Reading.{live_there}
use Rattle.skip_seek.proofs.Top.{top}
use Rattle.skip_seek.proofs.climb.climb.Goals as goal

pub loop-step-init : goal.loop-step-init
loop-step-init g c = record {
  last = λ place upper lt le. absurd (omega (arith, lt, le));
  stands = λ place.
      let b = c.args.image.now.bytes in
      let there = live_there b c.requires.live in
      let t = top b there.0 (live_of b) c.args.key.now there.1 place in
      record { due = t.0; standing = t.1; within = omega (arith, t.2) };
  long = refl;
}

pub walk_level-at-requires-clause-standing : goal.walk_level-at-requires-clause-standing
walk_level-at-requires-clause-standing g c =
    let b = c.args.image.now.bytes in
    let there = live_there b c.requires.live in
    let place = place_of (live_of b) c.args.key.now (live_rises b there.0 (live_of b) there.1) in
    let now = c.loop-step.invariant.stands place in
    (place, now.due, now.standing)

pub loop-step-preserved : goal.loop-step-preserved
loop-step-preserved g c =
    let n = 30 - c.loop-step.step in
    let down : n - 1 ≡ 30 - (c.loop-step.step + 1) = omega arith in
    record {
      last = λ place upper lt le.
          let now = c.loop-step.invariant.stands place in
          let a = c.walk_level-at.ensures.arrived place now.due now.standing in
          elim (cases_eq upper n) [
            | inl e ↦ ap (λ (m : ℕ). get_or (set c.loop-step.before n c.walk_level-at.result) m 0) e ∙ get_or-set_same c.loop-step.before n c.walk_level-at.result 0 (omega (arith, c.loop-step.invariant.long)) ∙ a.last ∙ ap (λ (m : ℕ). last_on m place.front) (sym e)
            | inr ne ↦ get_or-set_other c.loop-step.before n upper c.walk_level-at.result 0 ne ∙ c.loop-step.invariant.last place upper (grind (arith, ne, lt, down)) le
          ];
      stands = λ place.
          let now = c.loop-step.invariant.stands place in
          let a = c.walk_level-at.ensures.arrived place now.due now.standing in
          record {
            due = a.stands.due;
            standing = subst (λ (m : ℕ). Standing place.front m c.walk_level-at.result a.stands.due) down a.stands.standing;
            within = omega (arith, a.stands.within, now.within);
          };
      long = length-set c.loop-step.before n c.walk_level-at.result ∙ c.loop-step.invariant.long;
    }

pub returns : goal.returns
returns g c =
    let low : 30 - c.loop-step.step ≡ 0 = omega (arith, c.loop-step-test.false, c.loop-step.auto.step-end) in
    record {
      last = λ place upper lt le. get_or-set_other c.loop-step.before 0 upper c.loop-step.at 0 (λ e. omega (arith, e, lt)) ∙ c.loop-step.invariant.last place upper (omega (arith, lt, low)) le;
      stands = λ place.
          let now = c.loop-step.invariant.stands place in
          let here = get_or-set_same c.loop-step.before 0 c.loop-step.at 0 (omega (arith, c.loop-step.invariant.long)) in
          record {
            due = now.due;
            standing = subst (λ (v : ℕ). Standing place.front 0 v now.due) (sym here) (subst (λ (m : ℕ). Standing place.front m c.loop-step.at now.due) low now.standing);
            within = now.within;
          };
    }
