use Rattle.std.proofs.Common.{◌≡◌, ◌≤◌, length, max, ◌∙◌, arith}
use Rattle.skip_spec.specs.Chain.{pairs}
use Rattle.skip_spec.specs.Place.{height}
use Rattle.skip_lists.specs.Levels.{ArePast}
use Rattle.skip_lists.proofs.Ties.{then_leaves, then_up_to}
use Rattle.skip_change.proofs.Changed.{known_spot, put_swap, put_known, put_begun, put_done, tied_on}
use Rattle.skip_change.proofs.Spotted.{moved, before_slots}
use Rattle.skip_change.proofs.change.store.Goals as goal

pub height_at-height-requires-clause-spot : goal.height_at-height-requires-clause-spot
height_at-height-requires-clause-spot g c = (c.args.key.now, moved c.args.image.now.bytes c.bytes.result.now c.args.key.now c.args.spot.now c.bytes.ensures c.requires.spot)

pub pointers_past-pointers-requires-clause-spot : goal.pointers_past-pointers-requires-clause-spot
pointers_past-pointers-requires-clause-spot g c = (c.args.key.now, moved c.args.image.now.bytes c.bytes-2.result.now c.args.key.now c.args.spot.now c.bytes-2.ensures c.requires.spot)

pub place_record-requires-clause-there : goal.place_record-requires-clause-there
place_record-requires-clause-there g c = (before_slots c.args.image.now.bytes c.args.key.now c.args.spot.now c.requires.spot 0 (omega arith)).0

pub place_record-requires-clause-past : goal.place_record-requires-clause-past
place_record-requires-clause-past g c = c.requires.spot.live.listed.log.least

pub relink-requires-clause-begun : goal.relink-requires-clause-begun
relink-requires-clause-begun g c =
    let b = c.args.image.now.bytes in
    let key = c.args.key.now in
    let s = c.requires.spot in
    let past : ArePast c.pointers_past-pointers.result s.found.place.rest c.height_at-height.result = c.pointers_past-pointers.ensures key (moved b c.bytes-2.result.now key c.args.spot.now c.bytes-2.ensures s) in (
      put_swap b key c.args.spot.now s c.args.level c.args.value.now,
      put_begun b key c.args.spot.now s c.place_record.new.image.bytes c.args.committed c.args.level c.height_at-height.result c.pointers_past-pointers.result c.args.value.now c.requires.low c.height_at-height.ensures.low past c.in_ok-place_record.ensures.placed c.place_record.ensures.length c.requires.some c.toward-leads.result (λ i low lt. c.toward-leads.ensures.low i low lt ∙ c.length-end.ensures.size) c.toward-leads.ensures.high,
    )

pub returns-clause-stored : goal.returns-clause-stored
returns-clause-stored g c = λ s.
    let b = c.args.image.now.bytes in
    let key = c.args.key.now in
    let spot = c.args.spot.now in
    let past : ArePast c.pointers_past-pointers.result s.found.place.rest c.height_at-height.result = c.pointers_past-pointers.ensures key (moved b c.bytes-2.result.now key spot c.bytes-2.ensures s) in
    let is : c.height_at-height.result ≡ max c.args.level (height s.found.place.dropped) = c.height_at-height.ensures.exact key (moved b c.bytes.result.now key spot c.bytes.ensures s) in
    let begun = put_begun b key spot s c.place_record.new.image.bytes c.args.committed c.args.level c.height_at-height.result c.pointers_past-pointers.result c.args.value.now c.requires.low c.height_at-height.ensures.low past c.in_ok-place_record.ensures.placed c.place_record.ensures.length c.requires.some c.toward-leads.result (λ i low lt. c.toward-leads.ensures.low i low lt ∙ c.length-end.ensures.size) c.toward-leads.ensures.high in
    let tall : height s.found.place.dropped ≤ c.height_at-height.result = omega (arith, is) in
    put_done b key spot s c.place_record.new.image.bytes c.args.committed c.args.level c.height_at-height.result c.pointers_past-pointers.result c.args.value.now c.requires.low c.height_at-height.ensures.low past c.in_ok-place_record.ensures.placed c.place_record.ensures.length c.relink.new.image.bytes tall (c.in_ok-relink.ensures.relinked (put_swap b key spot s c.args.level c.args.value.now) begun) c.relink.ensures.length

pub returns-clause-tied : goal.returns-clause-tied
returns-clause-tied g c = λ base says t.
    let b = c.args.image.now.bytes in
    let key = c.args.key.now in
    let spot = c.args.spot.now in
    let s = c.requires.spot in
    let swap = put_swap b key spot s c.args.level c.args.value.now in
    let known = put_known b key spot s base says c.args.committed _ c.args.level c.args.value.now t in
    let past : ArePast c.pointers_past-pointers.result s.found.place.rest c.height_at-height.result = c.pointers_past-pointers.ensures key (moved b c.bytes-2.result.now key spot c.bytes-2.ensures s) in
    let begun = put_begun b key spot s c.place_record.new.image.bytes c.args.committed c.args.level c.height_at-height.result c.pointers_past-pointers.result c.args.value.now c.requires.low c.height_at-height.ensures.low past c.in_ok-place_record.ensures.placed c.place_record.ensures.length c.requires.some c.toward-leads.result (λ i low lt. c.toward-leads.ensures.low i low lt ∙ c.length-end.ensures.size) c.toward-leads.ensures.high in
    let first = c.in_ok-place_record.ensures.tied base says t.tied t.tidy (known_spot b key spot s base says c.args.committed _ t) in
    tied_on base says c.args.committed b c.relink.new.image.bytes _ _ _ _ t (c.in_ok-relink.ensures.tied base says swap first known begun) (returns-clause-stored g c s).live known

pub returns-in_err-place_record-clause-moments : goal.returns-in_err-place_record-clause-moments
returns-in_err-place_record-clause-moments g c = λ base says t.
    c.place_record.ensures.moments base says t.tied t.tidy (known_spot c.args.image.now.bytes c.args.key.now c.args.spot.now c.requires.spot base says c.args.committed _ t)

pub returns-in_err-relink-clause-moments : goal.returns-in_err-relink-clause-moments
returns-in_err-relink-clause-moments g c = λ base says t.
    let on = g.met.D.Disk.rest_goes_on in
    let b = c.args.image.now.bytes in
    let key = c.args.key.now in
    let spot = c.args.spot.now in
    let s = c.requires.spot in
    let past : ArePast c.pointers_past-pointers.result s.found.place.rest c.height_at-height.result = c.pointers_past-pointers.ensures key (moved b c.bytes-2.result.now key spot c.bytes-2.ensures s) in
    let swap = put_swap b key spot s c.args.level c.args.value.now in
    let known = put_known b key spot s base says c.args.committed _ c.args.level c.args.value.now t in
    let begun = put_begun b key spot s c.place_record.new.image.bytes c.args.committed c.args.level c.height_at-height.result c.pointers_past-pointers.result c.args.value.now c.requires.low c.height_at-height.ensures.low past c.in_ok-place_record.ensures.placed c.place_record.ensures.length c.requires.some c.toward-leads.result (λ i low lt. c.toward-leads.ensures.low i low lt ∙ c.length-end.ensures.size) c.toward-leads.ensures.high in
    let here = known_spot b key spot s base says c.args.committed _ t in
    then_leaves (pairs says.chain) _ _ _ (on _ _ c.place_record.ensures.rest) (on _ _ c.relink.ensures.rest) c.place_record.ensures.mark (c.place_record.ensures.moments base says t.tied t.tidy here)
    (c.relink.ensures.moments base says swap (c.in_ok-place_record.ensures.tied base says t.tied t.tidy here) known begun)

pub returns-clause-moments : goal.returns-clause-moments
returns-clause-moments g c = λ base says t.
    let on = g.met.D.Disk.rest_goes_on in
    let b = c.args.image.now.bytes in
    let key = c.args.key.now in
    let spot = c.args.spot.now in
    let s = c.requires.spot in
    let swap = put_swap b key spot s c.args.level c.args.value.now in
    let known = put_known b key spot s base says c.args.committed _ c.args.level c.args.value.now t in
    let past : ArePast c.pointers_past-pointers.result s.found.place.rest c.height_at-height.result = c.pointers_past-pointers.ensures key (moved b c.bytes-2.result.now key spot c.bytes-2.ensures s) in
    let begun = put_begun b key spot s c.place_record.new.image.bytes c.args.committed c.args.level c.height_at-height.result c.pointers_past-pointers.result c.args.value.now c.requires.low c.height_at-height.ensures.low past c.in_ok-place_record.ensures.placed c.place_record.ensures.length c.requires.some c.toward-leads.result (λ i low lt. c.toward-leads.ensures.low i low lt ∙ c.length-end.ensures.size) c.toward-leads.ensures.high in
    let here = known_spot b key spot s base says c.args.committed _ t in
    then_leaves (pairs says.chain) _ _ _ (on _ _ c.place_record.ensures.rest) (on _ _ c.relink.ensures.rest) c.place_record.ensures.mark (c.place_record.ensures.moments base says t.tied t.tidy here)
    (c.relink.ensures.moments base says swap (c.in_ok-place_record.ensures.tied base says t.tied t.tidy here) known begun)

pub returns-in_err-place_record-clause-long : goal.returns-in_err-place_record-clause-long
returns-in_err-place_record-clause-long g c = c.place_record.ensures.long

pub returns-in_err-relink-clause-long : goal.returns-in_err-relink-clause-long
returns-in_err-relink-clause-long g c = λ most le.
    let on = g.met.D.Disk.rest_goes_on in
    let mid : length c.place_record.new.image.bytes ≤ most = omega (arith, le, c.relink.ensures.length) in
    then_up_to most _ _ _ (on _ _ c.place_record.ensures.rest) (on _ _ c.relink.ensures.rest) c.place_record.ensures.mark (c.place_record.ensures.long most mid) (c.relink.ensures.long most le)

pub returns-clause-long : goal.returns-clause-long
returns-clause-long g c = λ most le.
    let on = g.met.D.Disk.rest_goes_on in
    let mid : length c.place_record.new.image.bytes ≤ most = omega (arith, le, c.relink.ensures.length) in
    then_up_to most _ _ _ (on _ _ c.place_record.ensures.rest) (on _ _ c.relink.ensures.rest) c.place_record.ensures.mark (c.place_record.ensures.long most mid) (c.relink.ensures.long most le)

pub returns-in_err-place_record-clause-length : goal.returns-in_err-place_record-clause-length
returns-in_err-place_record-clause-length g c = c.place_record.ensures.length

pub returns-in_err-relink-clause-length : goal.returns-in_err-relink-clause-length
returns-in_err-relink-clause-length g c = c.relink.ensures.length ∙ c.place_record.ensures.length

pub returns-clause-length : goal.returns-clause-length
returns-clause-length g c = c.relink.ensures.length ∙ c.place_record.ensures.length

pub returns-in_err-place_record-clause-written : goal.returns-in_err-place_record-clause-written
returns-in_err-place_record-clause-written g c = λ s. omega (arith, c.place_record.ensures.written, c.requires.low)

pub returns-in_err-relink-clause-written : goal.returns-in_err-relink-clause-written
returns-in_err-relink-clause-written g c = λ s.
    let is : c.height_at-height.result ≡ max c.args.level (height s.found.place.dropped) = c.height_at-height.ensures.exact c.args.key.now (moved c.args.image.now.bytes c.bytes.result.now c.args.key.now c.args.spot.now c.bytes.ensures s) in
    omega (arith, c.place_record.ensures.written, c.relink.ensures.written, is)

pub returns-clause-written : goal.returns-clause-written
returns-clause-written g c = λ s.
    let is : c.height_at-height.result ≡ max c.args.level (height s.found.place.dropped) = c.height_at-height.ensures.exact c.args.key.now (moved c.args.image.now.bytes c.bytes.result.now c.args.key.now c.args.spot.now c.bytes.ensures s) in
    omega (arith, c.place_record.ensures.written, c.relink.ensures.written, is)
