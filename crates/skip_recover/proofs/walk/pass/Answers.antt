use Rattle.std.proofs.Common.{◌≡◌, ℕ, List, None, sym, ap, subst, arith, ◌∙◌}
use Rattle.skip_form.specs.declared.head.Head.{Head}
use Rattle.skip_form.specs.Flaws.{head_flaw, head_in}
use Rattle.skip_spec.specs.Chain.{pairs}
use Rattle.skip_lists.proofs.Ties.{then_leaves}
use Rattle.skip_recover.proofs.Bases.{slots_of, no_flaw}
use Rattle.skip_recover.proofs.Passing.{known_at, level_at, have_at, passed_on, leads_at, tidy_at}
use Rattle.skip_recover.proofs.Runs.{in_place_then}
use Rattle.skip_recover.proofs.walk.pass.Goals as goal

pub head_of-level-requires : goal.head_of-level-requires
head_of-level-requires g c =
    let r = c.requires in
    subst (λ (x : List ℕ). head_flaw x c.args.at ≡ None) (sym c.bytes.ensures) (no_flaw r.0 c.args.image.now.bytes r.1 _ r.5.tied c.args.at (known_at r.0 r.1 _ _ _ r.2 r.3 r.4 _ r.5 c.args.at r.6))

pub link_levels-requires-clause-low : goal.link_levels-requires-clause-low
link_levels-requires-clause-low g c =
    let r = c.requires in
    let low = (slots_of r.0 c.args.image.now.bytes r.1 _ r.5.tied c.args.at (known_at r.0 r.1 _ _ _ r.2 r.3 r.4 _ r.5 c.args.at r.6)).low in
    omega (arith, low, ap (λ (x : List ℕ). (head_in x c.args.at).level) c.bytes.ensures, ap (λ (h : Head). h.level) c.head_of-level.ensures.head)

pub link_levels-requires-clause-tied : goal.link_levels-requires-clause-tied
link_levels-requires-clause-tied g c =
    let r = c.requires in
    let height = level_at r.0 r.1 _ _ _ r.2 r.3 r.4 _ r.5 c.args.at r.6 c.head_of-level.result c.bytes.result.now c.head_of-level.ensures.head c.bytes.ensures in
    (r.0, r.1, r.5.tied, have_at r.0 r.1 _ _ _ r.2 r.3 r.4 _ r.5 c.args.at r.6 c.head_of-level.result.level height)

pub returns-in_err-link_levels-clause-moments : goal.returns-in_err-link_levels-clause-moments
returns-in_err-link_levels-clause-moments g c = λ base says passed e left u is.
    let height = level_at base says _ _ _ passed e left _ u c.args.at is c.head_of-level.result c.bytes.result.now c.head_of-level.ensures.head c.bytes.ensures in
    c.link_levels.ensures.moments base says u.tied (have_at base says _ _ _ passed e left _ u c.args.at is c.head_of-level.result.level height)

pub mend_head-requires-clause-there : goal.mend_head-requires-clause-there
mend_head-requires-clause-there g c =
    let r = c.requires in
    let height = level_at r.0 r.1 _ _ _ r.2 r.3 r.4 _ r.5 c.args.at r.6 c.head_of-level.result c.bytes.result.now c.head_of-level.ensures.head c.bytes.ensures in
    let mid = c.in_ok-link_levels.ensures.done r.0 r.1 r.5.tied (have_at r.0 r.1 _ _ _ r.2 r.3 r.4 _ r.5 c.args.at r.6 c.head_of-level.result.level height) in
    slots_of r.0 c.link_levels.new.image.bytes r.1 _ mid.0 c.args.at (known_at r.0 r.1 _ _ _ r.2 r.3 r.4 _ r.5 c.args.at r.6)

pub mend_head-requires-clause-right : goal.mend_head-requires-clause-right
mend_head-requires-clause-right g c =
    let r = c.requires in
    let height = level_at r.0 r.1 _ _ _ r.2 r.3 r.4 _ r.5 c.args.at r.6 c.head_of-level.result c.bytes.result.now c.head_of-level.ensures.head c.bytes.ensures in
    let mid = c.in_ok-link_levels.ensures.done r.0 r.1 r.5.tied (have_at r.0 r.1 _ _ _ r.2 r.3 r.4 _ r.5 c.args.at r.6 c.head_of-level.result.level height) in
    no_flaw r.0 c.link_levels.new.image.bytes r.1 _ mid.0 c.args.at (known_at r.0 r.1 _ _ _ r.2 r.3 r.4 _ r.5 c.args.at r.6)

pub mend_head-requires-clause-reads : goal.mend_head-requires-clause-reads
mend_head-requires-clause-reads g c =
    let r = c.requires in
    let height = level_at r.0 r.1 _ _ _ r.2 r.3 r.4 _ r.5 c.args.at r.6 c.head_of-level.result c.bytes.result.now c.head_of-level.ensures.head c.bytes.ensures in
    let mid = c.in_ok-link_levels.ensures.done r.0 r.1 r.5.tied (have_at r.0 r.1 _ _ _ r.2 r.3 r.4 _ r.5 c.args.at r.6 c.head_of-level.result.level height) in
    mid.0.reads

pub returns-in_err-mend_head-clause-moments : goal.returns-in_err-mend_head-clause-moments
returns-in_err-mend_head-clause-moments g c = λ base says passed e left u is.
    let on = g.met.D.Disk.rest_goes_on in
    let height = level_at base says _ _ _ passed e left _ u c.args.at is c.head_of-level.result c.bytes.result.now c.head_of-level.ensures.head c.bytes.ensures in
    let have = have_at base says _ _ _ passed e left _ u c.args.at is c.head_of-level.result.level height in
    let mid = c.in_ok-link_levels.ensures.done base says u.tied have in
    then_leaves (pairs says.chain) _ _ _ (on _ _ c.link_levels.ensures.rest) (on _ _ c.mend_head.ensures.rest) c.link_levels.ensures.place.mark (c.link_levels.ensures.moments base says u.tied have) (c.mend_head.ensures.moments base says mid.0 (known_at base says _ _ _ passed e left _ u c.args.at is) u.size)

pub returns-clause-moments : goal.returns-clause-moments
returns-clause-moments g c = λ base says passed e left u is.
    let on = g.met.D.Disk.rest_goes_on in
    let height = level_at base says _ _ _ passed e left _ u c.args.at is c.head_of-level.result c.bytes.result.now c.head_of-level.ensures.head c.bytes.ensures in
    let have = have_at base says _ _ _ passed e left _ u c.args.at is c.head_of-level.result.level height in
    let mid = c.in_ok-link_levels.ensures.done base says u.tied have in
    then_leaves (pairs says.chain) _ _ _ (on _ _ c.link_levels.ensures.rest) (on _ _ c.mend_head.ensures.rest) c.link_levels.ensures.place.mark (c.link_levels.ensures.moments base says u.tied have) (c.mend_head.ensures.moments base says mid.0 (known_at base says _ _ _ passed e left _ u c.args.at is) u.size)

pub returns-clause-done : goal.returns-clause-done
returns-clause-done g c = λ base says passed e left u is.
    let height = level_at base says _ _ _ passed e left _ u c.args.at is c.head_of-level.result c.bytes.result.now c.head_of-level.ensures.head c.bytes.ensures in
    let have = have_at base says _ _ _ passed e left _ u c.args.at is c.head_of-level.result.level height in
    let mid = c.in_ok-link_levels.ensures.done base says u.tied have in
    let now = c.in_ok-mend_head.ensures.done base says mid.0 (known_at base says _ _ _ passed e left _ u c.args.at is) u.size in
    passed_on base says _ _ _ passed e left _ u c.args.at is c.link_levels.new.image.bytes c.mend_head.new.image.bytes c.set_last.new.last _ c.head_of-level.result.level height now.0 mid.1 now.1 c.set_last.ensures.below c.set_last.ensures.above

pub returns-in_err-link_levels-clause-still : goal.returns-in_err-link_levels-clause-still
returns-in_err-link_levels-clause-still g c = λ base says passed e left u is l.
    let height = level_at base says _ _ _ passed e left _ u c.args.at is c.head_of-level.result c.bytes.result.now c.head_of-level.ensures.head c.bytes.ensures in
    c.link_levels.ensures.still (leads_at base says _ _ _ passed e left _ u c.args.at is l c.head_of-level.result.level height)

pub returns-in_err-mend_head-clause-still : goal.returns-in_err-mend_head-clause-still
returns-in_err-mend_head-clause-still g c = λ base says passed e left u is l.
    let height = level_at base says _ _ _ passed e left _ u c.args.at is c.head_of-level.result c.bytes.result.now c.head_of-level.ensures.head c.bytes.ensures in
    let mid = c.link_levels.ensures.still (leads_at base says _ _ _ passed e left _ u c.args.at is l c.head_of-level.result.level height) in
    let now = c.mend_head.ensures.still (tidy_at base says _ _ _ passed e left _ u c.args.at is l _ mid.file) in
    record { file = now.file ∙ mid.file; written = now.written ∙ mid.written }

pub returns-clause-still : goal.returns-clause-still
returns-clause-still g c = λ base says passed e left u is l.
    let height = level_at base says _ _ _ passed e left _ u c.args.at is c.head_of-level.result c.bytes.result.now c.head_of-level.ensures.head c.bytes.ensures in
    let mid = c.link_levels.ensures.still (leads_at base says _ _ _ passed e left _ u c.args.at is l c.head_of-level.result.level height) in
    let now = c.mend_head.ensures.still (tidy_at base says _ _ _ passed e left _ u c.args.at is l _ mid.file) in
    record { file = now.file ∙ mid.file; written = now.written ∙ mid.written }

pub returns-in_err-mend_head-clause-place : goal.returns-in_err-mend_head-clause-place
returns-in_err-mend_head-clause-place g c =
    let on = g.met.D.Disk.rest_goes_on in
    in_place_then _ _ _ _ _ _ (on _ _ c.link_levels.ensures.rest) (on _ _ c.mend_head.ensures.rest) c.link_levels.ensures.place c.mend_head.ensures.place

pub returns-clause-place : goal.returns-clause-place
returns-clause-place g c =
    let on = g.met.D.Disk.rest_goes_on in
    in_place_then _ _ _ _ _ _ (on _ _ c.link_levels.ensures.rest) (on _ _ c.mend_head.ensures.rest) c.link_levels.ensures.place c.mend_head.ensures.place
