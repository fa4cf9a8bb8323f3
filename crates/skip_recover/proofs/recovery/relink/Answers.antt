use Rattle.std.proofs.Common.{ℕ, List, sym, subst, ◌∙◌}
use Rattle.skip_spec.specs.Chain.{pairs}
use Rattle.skip_spec.specs.Opens.{IsTidyHead}
use Rattle.skip_lists.specs.Repair.{IsLinked}
use Rattle.skip_lists.proofs.Ties.{then_leaves}
use Rattle.skip_recover.proofs.Bases.{dummy_head, slots_of, no_flaw}
use Rattle.skip_recover.proofs.Runs.{in_place_then}
use Rattle.skip_recover.proofs.recovery.relink.Goals as goal

pub mend_head-requires-clause-there : goal.mend_head-requires-clause-there
mend_head-requires-clause-there g c = let r = c.requires in slots_of r.0 c.args.image.now.bytes r.1 _ r.2 64 (dummy_head r.1)

pub mend_head-requires-clause-right : goal.mend_head-requires-clause-right
mend_head-requires-clause-right g c = let r = c.requires in no_flaw r.0 c.args.image.now.bytes r.1 _ r.2 64 (dummy_head r.1)

pub returns-in_err-count-clause-moments : goal.returns-in_err-count-clause-moments
returns-in_err-count-clause-moments g c = λ base says t size.
    let on = g.met.D.Disk.rest_goes_on in
    let mid = c.in_ok-mend_head.ensures.done base says t (dummy_head says) size in
    then_leaves (pairs says.chain) _ _ _ (on _ _ c.mend_head.ensures.rest) (on _ _ c.walk.ensures.rest) c.mend_head.ensures.place.mark (c.mend_head.ensures.moments base says t (dummy_head says) size) (c.walk.ensures.moments base says mid.0 size)

pub returns-clause-moments : goal.returns-clause-moments
returns-clause-moments g c = λ base says t size.
    let on = g.met.D.Disk.rest_goes_on in
    let mid = c.in_ok-mend_head.ensures.done base says t (dummy_head says) size in
    then_leaves (pairs says.chain) _ _ _ (on _ _ c.mend_head.ensures.rest) (on _ _ c.walk.ensures.rest) c.mend_head.ensures.place.mark (c.mend_head.ensures.moments base says t (dummy_head says) size) (c.walk.ensures.moments base says mid.0 size)

pub returns-in_err-mend_head-clause-still : goal.returns-in_err-mend_head-clause-still
returns-in_err-mend_head-clause-still g c = λ base says t size l. c.mend_head.ensures.still (subst (λ (n : ℕ). IsTidyHead c.args.image.now.bytes n 64) size (l.tidy 64 (dummy_head says)))

pub returns-in_err-count-clause-still : goal.returns-in_err-count-clause-still
returns-in_err-count-clause-still g c = λ base says t size l.
    let mid = c.in_ok-mend_head.ensures.done base says t (dummy_head says) size in
    let was = c.mend_head.ensures.still (subst (λ (n : ℕ). IsTidyHead c.args.image.now.bytes n 64) size (l.tidy 64 (dummy_head says))) in
    let now = c.walk.ensures.still base says mid.0 size (subst (λ (b : List ℕ). IsLinked says b) (sym was.file) l) in
    record { file = now.file ∙ was.file; written = now.written ∙ was.written }

pub returns-clause-still : goal.returns-clause-still
returns-clause-still g c = λ base says t size l.
    let mid = c.in_ok-mend_head.ensures.done base says t (dummy_head says) size in
    let was = c.mend_head.ensures.still (subst (λ (n : ℕ). IsTidyHead c.args.image.now.bytes n 64) size (l.tidy 64 (dummy_head says))) in
    let now = c.walk.ensures.still base says mid.0 size (subst (λ (b : List ℕ). IsLinked says b) (sym was.file) l) in
    record { file = now.file ∙ was.file; written = now.written ∙ was.written }

pub returns-in_err-count-clause-place : goal.returns-in_err-count-clause-place
returns-in_err-count-clause-place g c =
    let on = g.met.D.Disk.rest_goes_on in
    in_place_then _ _ _ _ _ _ (on _ _ c.mend_head.ensures.rest) (on _ _ c.walk.ensures.rest) c.mend_head.ensures.place c.walk.ensures.place

pub returns-clause-place : goal.returns-clause-place
returns-clause-place g c =
    let on = g.met.D.Disk.rest_goes_on in
    in_place_then _ _ _ _ _ _ (on _ _ c.mend_head.ensures.rest) (on _ _ c.walk.ensures.rest) c.mend_head.ensures.place c.walk.ensures.place
