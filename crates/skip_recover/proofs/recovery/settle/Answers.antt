use Rattle.std.proofs.Common.{arith}
use Rattle.skip_spec.specs.Chain.{pairs}
use Rattle.skip_lists.proofs.Ties.{image_of, then_leaves}
use Rattle.skip_recover.proofs.Finishing.{header_here, linked_cut, whole}
use Rattle.skip_recover.proofs.Runs.{in_place_then}
use Rattle.skip_recover.proofs.recovery.settle.Goals as goal

pub cut_to_end-requires-clause-inside : goal.cut_to_end-requires-clause-inside
cut_to_end-requires-clause-inside g c = let r = c.requires in let long = (image_of r.0 c.args.image.now.bytes r.1 _ r.2).long in omega (arith, long, r.3)

pub finish-requires-clause-header : goal.finish-requires-clause-header
finish-requires-clause-header g c = let r = c.requires in header_here r.0 c.cut_to_end.new.image.bytes r.1 _ (c.in_ok-cut_to_end.ensures.done r.0 r.1 r.2 r.3)

pub finish-requires-clause-long : goal.finish-requires-clause-long
finish-requires-clause-long g c =
    let r = c.requires in
    let t = c.in_ok-cut_to_end.ensures.done r.0 r.1 r.2 r.3 in
    let long = (image_of r.0 c.cut_to_end.new.image.bytes r.1 _ t).long in
    let least = t.committed.least in
    omega (arith, long, least)

pub finish-requires-clause-reads : goal.finish-requires-clause-reads
finish-requires-clause-reads g c = let r = c.requires in (c.in_ok-cut_to_end.ensures.done r.0 r.1 r.2 r.3).reads

pub returns-in_err-finish-clause-moments : goal.returns-in_err-finish-clause-moments
returns-in_err-finish-clause-moments g c = λ base says t size l counted.
    let on = g.met.D.Disk.rest_goes_on in
    let mid = c.in_ok-cut_to_end.ensures.done base says t size in
    then_leaves (pairs says.chain) _ _ _ (on _ _ c.cut_to_end.ensures.rest) (on _ _ c.finish.ensures.rest) c.cut_to_end.ensures.place.mark (c.cut_to_end.ensures.moments base says t size)
    (c.finish.ensures.moments base says mid (linked_cut base c.args.image.now.bytes says _ t c.args.end size c.cut_to_end.new.image.bytes c.cut_to_end.ensures.bytes l) (whole base c.args.image.now.bytes says _ t c.args.end size c.cut_to_end.new.image.bytes c.cut_to_end.ensures.bytes) counted)

pub returns-clause-moments : goal.returns-clause-moments
returns-clause-moments g c = λ base says t size l counted.
    let on = g.met.D.Disk.rest_goes_on in
    let mid = c.in_ok-cut_to_end.ensures.done base says t size in
    then_leaves (pairs says.chain) _ _ _ (on _ _ c.cut_to_end.ensures.rest) (on _ _ c.finish.ensures.rest) c.cut_to_end.ensures.place.mark (c.cut_to_end.ensures.moments base says t size)
    (c.finish.ensures.moments base says mid (linked_cut base c.args.image.now.bytes says _ t c.args.end size c.cut_to_end.new.image.bytes c.cut_to_end.ensures.bytes l) (whole base c.args.image.now.bytes says _ t c.args.end size c.cut_to_end.new.image.bytes c.cut_to_end.ensures.bytes) counted)

pub returns-clause-done : goal.returns-clause-done
returns-clause-done g c = λ base says t size l counted.
    let mid = c.in_ok-cut_to_end.ensures.done base says t size in
    c.in_ok-finish.ensures.done base says mid (linked_cut base c.args.image.now.bytes says _ t c.args.end size c.cut_to_end.new.image.bytes c.cut_to_end.ensures.bytes l) (whole base c.args.image.now.bytes says _ t c.args.end size c.cut_to_end.new.image.bytes c.cut_to_end.ensures.bytes) counted

pub returns-in_err-finish-clause-place : goal.returns-in_err-finish-clause-place
returns-in_err-finish-clause-place g c =
    let on = g.met.D.Disk.rest_goes_on in
    in_place_then _ _ _ _ _ _ (on _ _ c.cut_to_end.ensures.rest) (on _ _ c.finish.ensures.rest) c.cut_to_end.ensures.place c.finish.ensures.place

pub returns-clause-place : goal.returns-clause-place
returns-clause-place g c =
    let on = g.met.D.Disk.rest_goes_on in
    in_place_then _ _ _ _ _ _ (on _ _ c.cut_to_end.ensures.rest) (on _ _ c.finish.ensures.rest) c.cut_to_end.ensures.place c.finish.ensures.place
