use Rattle.std.proofs.Common.{◌≡◌, ◌+◌, ◌++◌, [], ℕ, List, ◌∷◌, length, refl, sym, ap, subst, ◌∙◌, arith}
use Rattle.std.proofs.lemmas.List.{length-append, get_or-replicate}
use Rattle.skip_spec.specs.Chain.{pairs}
use Rattle.skip_spec.specs.Opens.{IsTidyHead}
use Rattle.skip_spec.proofs.Lists.{last_more}
use Rattle.skip_lists.specs.Repair.{IsLinked}
use Rattle.skip_lists.proofs.Ties.{still_leaves, then_leaves}
use Rattle.skip_recover.proofs.Passing.{steps_on, turn, all_have, none, below}
use Rattle.skip_recover.proofs.Runs.{in_place_none, in_place_then}
use Rattle.skip_recover.proofs.Walking.{walked_none, walked_all, leads_end}
use Rattle.skip_recover.proofs.walk.walk.Goals as goal

pub loop-count-init : goal.loop-count-init
loop-count-init g c = record {
  done = λ base says t size. (
    [],
    says.chain,
    record {
      tied = t;
      walked = walked_none says c.args.image.now.bytes _ (subst (λ (n : ℕ). IsTidyHead c.args.image.now.bytes n 64) (sym size) c.requires.tidy) (λ i le. get_or-replicate 31 i 64 0 (omega (arith, le)));
      size = size;
    },
    refl,
    refl,
    still_leaves base c.args.image.now.bytes says _ t (g.met.D.Disk.is_moment c.args.disk.now),
  );
  still = λ base says t size l. record { file = refl; written = refl };
  place = in_place_none c.args.image.now.bytes _ (g.met.D.Disk.is_moment c.args.disk.now);
  faults = refl;
  rest = g.met.D.Disk.rest_same _;
}

pub next_after-next-requires : goal.next_after-next-requires
next_after-next-requires g c =
    let r = c.requires.tied in
    let s = c.loop-count.invariant.done r.0 r.1 r.2 r.3 in
    steps_on r.0 r.1 _ _ _ _ _ _ (s.0, s.1, s.2, s.3, s.4)

pub link_levels-requires-clause-tied : goal.link_levels-requires-clause-tied
link_levels-requires-clause-tied g c =
    let r = c.requires.tied in
    let s = c.loop-count.invariant.done r.0 r.1 r.2 r.3 in
    (r.0, r.1, s.2.tied, all_have r.0 r.1 _ _ _ _ _ _ (s.0, s.1, s.2, s.3, s.4))

pub pass-requires : goal.pass-requires
pass-requires g c =
    let r = c.requires.tied in
    let s = c.loop-count.invariant.done r.0 r.1 r.2 r.3 in
    let x = turn r.0 r.1 _ _ _ _ _ _ (s.0, s.1, s.2, s.3, s.4) c.next_after-next.result c.next_after-next.ensures c.if-next-eq0.false in
    (r.0, r.1, s.0, x.0, x.1, x.2, x.3)

pub unreachable-requires : goal.unreachable-requires
unreachable-requires g c =
    let r = c.requires.tied in
    let s = c.loop-count.invariant.done r.0 r.1 r.2 r.3 in
    omega (arith, below r.0 r.1 _ _ _ _ _ _ (s.0, s.1, s.2, s.3, s.4), c.loop-count-test.false)

pub returns-in_err-link_levels-clause-moments : goal.returns-in_err-link_levels-clause-moments
returns-in_err-link_levels-clause-moments g c = λ base says t size.
    let on = g.met.D.Disk.rest_goes_on in
    let s = c.loop-count.invariant.done base says t size in
    let have = all_have base says _ _ _ _ _ _ (s.0, s.1, s.2, s.3, s.4) in
    then_leaves (pairs says.chain) _ _ _ (on _ _ c.loop-count.invariant.rest) (on _ _ c.link_levels.ensures.rest) c.loop-count.invariant.place.mark s.5 (c.link_levels.ensures.moments base says s.2.tied have)

pub returns-then-next-eq0-clause-moments : goal.returns-then-next-eq0-clause-moments
returns-then-next-eq0-clause-moments g c = λ base says t size.
    let on = g.met.D.Disk.rest_goes_on in
    let s = c.loop-count.invariant.done base says t size in
    let have = all_have base says _ _ _ _ _ _ (s.0, s.1, s.2, s.3, s.4) in
    then_leaves (pairs says.chain) _ _ _ (on _ _ c.loop-count.invariant.rest) (on _ _ c.link_levels.ensures.rest) c.loop-count.invariant.place.mark s.5 (c.link_levels.ensures.moments base says s.2.tied have)

pub returns-then-next-eq0-clause-done : goal.returns-then-next-eq0-clause-done
returns-then-next-eq0-clause-done g c = λ base says t size.
    let s = c.loop-count.invariant.done base says t size in
    let have = all_have base says _ _ _ _ _ _ (s.0, s.1, s.2, s.3, s.4) in
    let now = c.in_ok-link_levels.ensures.done base says s.2.tied have in
    let gone = none base says _ _ _ _ _ _ (s.0, s.1, s.2, s.3, s.4) c.next_after-next.result c.next_after-next.ensures c.if-next-eq0.true in (
      now.0,
      walked_all base c.loop-count.image.bytes says _ s.2.tied c.link_levels.new.image.bytes c.loop-count.last s.0 s.1 gone s.2.walked now.1,
      (let e : c.loop-count.count ≡ length says.chain = omega (arith, s.4, ap length s.2.walked.split, length-append s.0 s.1, ap length gone) in e),
    )

pub returns-in_err-pass-clause-moments : goal.returns-in_err-pass-clause-moments
returns-in_err-pass-clause-moments g c = λ base says t size.
    let on = g.met.D.Disk.rest_goes_on in
    let s = c.loop-count.invariant.done base says t size in
    let x = turn base says _ _ _ _ _ _ (s.0, s.1, s.2, s.3, s.4) c.next_after-next.result c.next_after-next.ensures c.if-next-eq0.false in
    then_leaves (pairs says.chain) _ _ _ (on _ _ c.loop-count.invariant.rest) (on _ _ c.pass.ensures.rest) c.loop-count.invariant.place.mark s.5 (c.pass.ensures.moments base says s.0 x.0 x.1 x.2 x.3)

pub returns-in_err-link_levels-clause-place : goal.returns-in_err-link_levels-clause-place
returns-in_err-link_levels-clause-place g c =
    let on = g.met.D.Disk.rest_goes_on in
    in_place_then _ _ _ _ _ _ (on _ _ c.loop-count.invariant.rest) (on _ _ c.link_levels.ensures.rest) c.loop-count.invariant.place c.link_levels.ensures.place

pub returns-then-next-eq0-clause-place : goal.returns-then-next-eq0-clause-place
returns-then-next-eq0-clause-place g c =
    let on = g.met.D.Disk.rest_goes_on in
    in_place_then _ _ _ _ _ _ (on _ _ c.loop-count.invariant.rest) (on _ _ c.link_levels.ensures.rest) c.loop-count.invariant.place c.link_levels.ensures.place

pub returns-in_err-pass-clause-place : goal.returns-in_err-pass-clause-place
returns-in_err-pass-clause-place g c =
    let on = g.met.D.Disk.rest_goes_on in
    in_place_then _ _ _ _ _ _ (on _ _ c.loop-count.invariant.rest) (on _ _ c.pass.ensures.rest) c.loop-count.invariant.place c.pass.ensures.place

pub returns-in_err-link_levels-clause-still : goal.returns-in_err-link_levels-clause-still
returns-in_err-link_levels-clause-still g c = λ base says t size l.
    let s = c.loop-count.invariant.done base says t size in
    let gone = none base says _ _ _ _ _ _ (s.0, s.1, s.2, s.3, s.4) c.next_after-next.result c.next_after-next.ensures c.if-next-eq0.true in
    let was = c.loop-count.invariant.still base says t size l in
    let now = c.link_levels.ensures.still (leads_end base c.loop-count.image.bytes says _ s.2.tied c.loop-count.last s.0 s.1 gone s.2.walked (subst (λ (b : List ℕ). IsLinked says b) (sym was.file) l)) in
    record { file = now.file ∙ was.file; written = now.written ∙ was.written }

pub returns-then-next-eq0-clause-still : goal.returns-then-next-eq0-clause-still
returns-then-next-eq0-clause-still g c = λ base says t size l.
    let s = c.loop-count.invariant.done base says t size in
    let gone = none base says _ _ _ _ _ _ (s.0, s.1, s.2, s.3, s.4) c.next_after-next.result c.next_after-next.ensures c.if-next-eq0.true in
    let was = c.loop-count.invariant.still base says t size l in
    let now = c.link_levels.ensures.still (leads_end base c.loop-count.image.bytes says _ s.2.tied c.loop-count.last s.0 s.1 gone s.2.walked (subst (λ (b : List ℕ). IsLinked says b) (sym was.file) l)) in
    record { file = now.file ∙ was.file; written = now.written ∙ was.written }

pub returns-in_err-pass-clause-still : goal.returns-in_err-pass-clause-still
returns-in_err-pass-clause-still g c = λ base says t size l.
    let s = c.loop-count.invariant.done base says t size in
    let x = turn base says _ _ _ _ _ _ (s.0, s.1, s.2, s.3, s.4) c.next_after-next.result c.next_after-next.ensures c.if-next-eq0.false in
    let was = c.loop-count.invariant.still base says t size l in
    let now = c.pass.ensures.still base says s.0 x.0 x.1 x.2 x.3 (subst (λ (b : List ℕ). IsLinked says b) (sym was.file) l) in
    record { file = now.file ∙ was.file; written = now.written ∙ was.written }

pub loop-count-preserved : goal.loop-count-preserved
loop-count-preserved g c =
    let on = g.met.D.Disk.rest_goes_on in
    record {
      done = λ base says t size.
          let s = c.loop-count.invariant.done base says t size in
          let x = turn base says _ _ _ _ _ _ (s.0, s.1, s.2, s.3, s.4) c.next_after-next.result c.next_after-next.ensures c.if-next-eq0.false in (
            s.0 ++ x.0 ∷ [],
            x.1,
            c.in_ok-pass.ensures.done base says s.0 x.0 x.1 x.2 x.3,
            sym x.3 ∙ sym (last_more 64 s.0 x.0),
            (let e : c.loop-count.count + 1 ≡ length (s.0 ++ x.0 ∷ []) = omega (arith, s.4, length-append s.0 (x.0 ∷ [])) in e),
            then_leaves (pairs says.chain) _ _ _ (on _ _ c.loop-count.invariant.rest) (on _ _ c.pass.ensures.rest) c.loop-count.invariant.place.mark s.5 (c.pass.ensures.moments base says s.0 x.0 x.1 x.2 x.3),
          );
      still = λ base says t size l.
          let s = c.loop-count.invariant.done base says t size in
          let x = turn base says _ _ _ _ _ _ (s.0, s.1, s.2, s.3, s.4) c.next_after-next.result c.next_after-next.ensures c.if-next-eq0.false in
          let was = c.loop-count.invariant.still base says t size l in
          let now = c.pass.ensures.still base says s.0 x.0 x.1 x.2 x.3 (subst (λ (b : List ℕ). IsLinked says b) (sym was.file) l) in
          record { file = now.file ∙ was.file; written = now.written ∙ was.written };
      place = in_place_then _ _ _ _ _ _ (on _ _ c.loop-count.invariant.rest) (on _ _ c.pass.ensures.rest) c.loop-count.invariant.place c.pass.ensures.place;
      faults = c.in_ok-pass.ensures.cause.kept ∙ c.loop-count.invariant.faults;
      rest = g.met.D.Disk.rest_then _ _ _ c.loop-count.invariant.rest c.pass.ensures.rest;
    }
