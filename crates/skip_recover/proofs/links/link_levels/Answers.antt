use Rattle.std.proofs.Common.{◌≡◌, ◌≤◌, ◌+◌, ℕ, List, get_or, refl, ap, subst, ◌∙◌, arith}
use Rattle.skip_form.specs.Fields.{pointer_in}
use Rattle.skip_spec.specs.Chain.{pairs}
use Rattle.skip_lists.proofs.Ties.{still_leaves, then_leaves}
use Rattle.skip_recover.specs.Heads.{LeadsLast}
use Rattle.skip_recover.proofs.Bases.{slots_of, no_flaw, slot_here}
use Rattle.skip_recover.proofs.Leading.{leads_none, leads_more}
use Rattle.skip_recover.proofs.Runs.{in_place_none, in_place_then}
use Rattle.skip_recover.proofs.links.link_levels.Goals as goal

pub loop-level-init : goal.loop-level-init
loop-level-init g c = record {
  done = λ base says t have. (t, leads_none base says c.args.image.now.bytes c.args.last.now c.args.to, still_leaves base c.args.image.now.bytes says _ t (g.met.D.Disk.is_moment c.args.disk.now));
  still = λ all. record { file = refl; written = refl };
  place = in_place_none c.args.image.now.bytes _ (g.met.D.Disk.is_moment c.args.disk.now);
  faults = refl;
  rest = g.met.D.Disk.rest_same _;
}

pub link-requires-clause-there : goal.link-requires-clause-there
link-requires-clause-there g c =
    let r = c.requires.tied in
    let now = c.loop-level.invariant.done r.0 r.1 r.2 r.3 in
    slots_of r.0 _ r.1 _ now.0 _ (r.3 c.loop-level.level (omega (arith, c.loop-level.auto.level)) (omega (arith, c.loop-level-test.true))).0

pub link-requires-clause-right : goal.link-requires-clause-right
link-requires-clause-right g c =
    let r = c.requires.tied in
    let now = c.loop-level.invariant.done r.0 r.1 r.2 r.3 in
    no_flaw r.0 _ r.1 _ now.0 _ (r.3 c.loop-level.level (omega (arith, c.loop-level.auto.level)) (omega (arith, c.loop-level-test.true))).0

pub link-requires-clause-slot : goal.link-requires-clause-slot
link-requires-clause-slot g c =
    let r = c.requires.tied in
    let now = c.loop-level.invariant.done r.0 r.1 r.2 r.3 in
    slot_here r.0 _ r.1 _ now.0 _ _ (r.3 c.loop-level.level (omega (arith, c.loop-level.auto.level)) (omega (arith, c.loop-level-test.true)))

pub link-requires-clause-reads : goal.link-requires-clause-reads
link-requires-clause-reads g c = let r = c.requires.tied in (c.loop-level.invariant.done r.0 r.1 r.2 r.3).0.reads

pub returns-in_err-link-clause-moments : goal.returns-in_err-link-clause-moments
returns-in_err-link-clause-moments g c = λ base says t have.
    let on = g.met.D.Disk.rest_goes_on in
    let now = c.loop-level.invariant.done base says t have in
    let has = have c.loop-level.level (omega (arith, c.loop-level.auto.level)) (omega (arith, c.loop-level-test.true)) in
    then_leaves (pairs says.chain) _ _ _ (on _ _ c.loop-level.invariant.rest) (on _ _ c.link.ensures.rest) c.loop-level.invariant.place.mark now.2 (c.link.ensures.moments base says now.0 has.0)

pub returns-in_err-link-clause-place : goal.returns-in_err-link-clause-place
returns-in_err-link-clause-place g c =
    let on = g.met.D.Disk.rest_goes_on in
    in_place_then _ _ _ _ _ _ (on _ _ c.loop-level.invariant.rest) (on _ _ c.link.ensures.rest) c.loop-level.invariant.place c.link.ensures.place

pub returns-in_err-link-clause-still : goal.returns-in_err-link-clause-still
returns-in_err-link-clause-still g c = λ all.
    let was = c.loop-level.invariant.still all in
    let lo : 1 ≤ c.loop-level.level = omega (arith, c.loop-level.auto.level) in
    let now = c.link.ensures.still (ap (λ (x : List ℕ). pointer_in x (get_or c.args.last.now c.loop-level.level 0) (c.loop-level.level + 1)) was.file ∙ all c.loop-level.level lo c.loop-level-test.true) in
    record { file = now.file ∙ was.file; written = now.written ∙ was.written }

pub loop-level-preserved : goal.loop-level-preserved
loop-level-preserved g c =
    let on = g.met.D.Disk.rest_goes_on in
    record {
      done = λ base says t have.
          let now = c.loop-level.invariant.done base says t have in
          let lo : 1 ≤ c.loop-level.level = omega (arith, c.loop-level.auto.level) in
          let hi = c.loop-level-test.true in
          let has = have c.loop-level.level lo hi in
          let next = c.in_ok-link.ensures.done base says now.0 has.0 in (
            next.0,
            leads_more base says c.args.image.now.bytes _ _ c.args.last.now c.loop-level.level c.args.to lo now.1 next.1 (λ i low lt. have i low (omega (arith, hi, lt))),
            then_leaves (pairs says.chain) _ _ _ (on _ _ c.loop-level.invariant.rest) (on _ _ c.link.ensures.rest) c.loop-level.invariant.place.mark now.2 (c.link.ensures.moments base says now.0 has.0),
          );
      still = λ all.
          let was = c.loop-level.invariant.still all in
          let lo : 1 ≤ c.loop-level.level = omega (arith, c.loop-level.auto.level) in
          let now = c.link.ensures.still (ap (λ (x : List ℕ). pointer_in x (get_or c.args.last.now c.loop-level.level 0) (c.loop-level.level + 1)) was.file ∙ all c.loop-level.level lo c.loop-level-test.true) in
          record { file = now.file ∙ was.file; written = now.written ∙ was.written };
      place = in_place_then _ _ _ _ _ _ (on _ _ c.loop-level.invariant.rest) (on _ _ c.link.ensures.rest) c.loop-level.invariant.place c.link.ensures.place;
      faults = c.in_ok-link.ensures.cause.kept ∙ c.loop-level.invariant.faults;
      rest = g.met.D.Disk.rest_then _ _ _ c.loop-level.invariant.rest c.link.ensures.rest;
    }

pub returns-clause-done : goal.returns-clause-done
returns-clause-done g c = λ base says t have.
    let now = c.loop-level.invariant.done base says t have in
    let end : c.loop-level.level ≡ c.args.height = omega (arith, c.loop-level.auto.level, c.loop-level-test.false, c.requires.low) in
    (now.0, subst (λ (n : ℕ). LeadsLast base says c.args.image.now.bytes c.loop-level.image.bytes c.args.last.now n c.args.to) end now.1)

pub returns-clause-moments : goal.returns-clause-moments
returns-clause-moments g c = λ base says t have. (c.loop-level.invariant.done base says t have).2
