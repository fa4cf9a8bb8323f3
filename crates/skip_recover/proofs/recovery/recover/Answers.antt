use Rattle.std.proofs.Common.{◌≡◌, ℕ, List, take, sym, ap, arith}
use Rattle.base_devices.specs.CrashImages.{DiskState}
use Rattle.skip_form.specs.declared.header.Header.{Header}
use Rattle.skip_form.specs.Spelling.{IsHeader, header_bytes}
use Rattle.skip_spec.specs.Chain.{pairs}
use Rattle.skip_spec.specs.Opens.{Contents, with_dirty}
use Rattle.skip_lists.specs.Tie.{TiedToBase}
use Rattle.skip_lists.proofs.Ties.{then_leaves}
use Rattle.skip_recover.proofs.Finishing.{header_here, reads_here, is_recovered, moments_of, linked_here}
use Rattle.skip_recover.proofs.Runs.{in_place_then}
use Rattle.skip_recover.proofs.recovery.recover.Goals as goal

-- the committed end that the header names
ends : (base b : List ℕ) (says : Contents) (s : DiskState) → TiedToBase base says b s → (header : Header) → ((h : Header) → IsHeader h → take 64 b ≡ header_bytes h → header ≡ h) → says.header.current_size ≡ header.current_size
ends base b says s t header only = sym (ap (λ (h : Header). h.current_size) (only (with_dirty says.header) (reads_here base b says s t).fields (reads_here base b says s t).header))

pub header-end-requires : goal.header-end-requires
header-end-requires g c = let r = c.requires in record { there = header_here r.0 c.args.image.now.bytes r.1 _ r.2 }

pub relink-requires : goal.relink-requires
relink-requires g c = let r = c.requires in (r.0, r.1, r.2, ends r.0 c.args.image.now.bytes r.1 _ r.2 c.header-end.result c.header-end.ensures.only)

pub settle-requires : goal.settle-requires
settle-requires g c =
    let r = c.requires in
    let size = ends r.0 c.args.image.now.bytes r.1 _ r.2 c.header-end.result c.header-end.ensures.only in
    (r.0, r.1, (c.in_ok-count.ensures.done r.0 r.1 r.2 size).0, size)

pub returns-in_err-count-clause-moments : goal.returns-in_err-count-clause-moments
returns-in_err-count-clause-moments g c = λ m o.
    let r = c.requires in
    let size = ends r.0 c.args.image.now.bytes r.1 _ r.2 c.header-end.result c.header-end.ensures.only in
    moments_of r.0 c.args.image.now.bytes r.1 _ r.2 m _ _ o (c.relink.ensures.moments r.0 r.1 r.2 size)

pub returns-in_err-settle-clause-moments : goal.returns-in_err-settle-clause-moments
returns-in_err-settle-clause-moments g c = λ m o.
    let on = g.met.D.Disk.rest_goes_on in
    let r = c.requires in
    let size = ends r.0 c.args.image.now.bytes r.1 _ r.2 c.header-end.result c.header-end.ensures.only in
    let done = c.in_ok-count.ensures.done r.0 r.1 r.2 size in
    moments_of r.0 c.args.image.now.bytes r.1 _ r.2 m _ _ o
    (then_leaves (pairs r.1.chain) _ _ _ (on _ _ c.relink.ensures.rest) (on _ _ c.settle.ensures.rest) c.relink.ensures.place.mark (c.relink.ensures.moments r.0 r.1 r.2 size) (c.settle.ensures.moments r.0 r.1 done.0 size done.1 done.2))

pub returns-clause-moments : goal.returns-clause-moments
returns-clause-moments g c = λ m o.
    let on = g.met.D.Disk.rest_goes_on in
    let r = c.requires in
    let size = ends r.0 c.args.image.now.bytes r.1 _ r.2 c.header-end.result c.header-end.ensures.only in
    let done = c.in_ok-count.ensures.done r.0 r.1 r.2 size in
    moments_of r.0 c.args.image.now.bytes r.1 _ r.2 m _ _ o
    (then_leaves (pairs r.1.chain) _ _ _ (on _ _ c.relink.ensures.rest) (on _ _ c.settle.ensures.rest) c.relink.ensures.place.mark (c.relink.ensures.moments r.0 r.1 r.2 size) (c.settle.ensures.moments r.0 r.1 done.0 size done.1 done.2))

pub returns-clause-recovers : goal.returns-clause-recovers
returns-clause-recovers g c =
    let r = c.requires in
    let size = ends r.0 c.args.image.now.bytes r.1 _ r.2 c.header-end.result c.header-end.ensures.only in
    let done = c.in_ok-count.ensures.done r.0 r.1 r.2 size in
    is_recovered r.0 c.args.image.now.bytes r.1 _ r.2 c.settle.new.image.bytes (c.in_ok-settle.ensures.done r.0 r.1 done.0 size done.1 done.2)

pub returns-in_err-settle-clause-place : goal.returns-in_err-settle-clause-place
returns-in_err-settle-clause-place g c =
    let on = g.met.D.Disk.rest_goes_on in
    in_place_then _ _ _ _ _ _ (on _ _ c.relink.ensures.rest) (on _ _ c.settle.ensures.rest) c.relink.ensures.place c.settle.ensures.place

pub returns-clause-place : goal.returns-clause-place
returns-clause-place g c =
    let on = g.met.D.Disk.rest_goes_on in
    in_place_then _ _ _ _ _ _ (on _ _ c.relink.ensures.rest) (on _ _ c.settle.ensures.rest) c.relink.ensures.place c.settle.ensures.place

pub returns-in_err-count-clause-still : goal.returns-in_err-count-clause-still
returns-in_err-count-clause-still g c = λ says reads l.
    let r = c.requires in
    let size = ends r.0 c.args.image.now.bytes r.1 _ r.2 c.header-end.result c.header-end.ensures.only in
    let still = c.relink.ensures.still r.0 r.1 r.2 size (linked_here r.0 c.args.image.now.bytes r.1 _ r.2 says reads l) in
    omega (arith, still.written)

pub returns-in_err-settle-clause-still : goal.returns-in_err-settle-clause-still
returns-in_err-settle-clause-still g c = λ says reads l.
    let r = c.requires in
    let size = ends r.0 c.args.image.now.bytes r.1 _ r.2 c.header-end.result c.header-end.ensures.only in
    let still = c.relink.ensures.still r.0 r.1 r.2 size (linked_here r.0 c.args.image.now.bytes r.1 _ r.2 says reads l) in
    omega (arith, still.written, c.settle.ensures.written)

pub returns-clause-still : goal.returns-clause-still
returns-clause-still g c = λ says reads l.
    let r = c.requires in
    let size = ends r.0 c.args.image.now.bytes r.1 _ r.2 c.header-end.result c.header-end.ensures.only in
    let still = c.relink.ensures.still r.0 r.1 r.2 size (linked_here r.0 c.args.image.now.bytes r.1 _ r.2 says reads l) in
    omega (arith, still.written, c.settle.ensures.written)
