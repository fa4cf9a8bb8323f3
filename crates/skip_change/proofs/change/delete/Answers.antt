use Rattle.std.proofs.Common.{◌≡◌, ℕ, ◌≤◌, List, length, sym, ap, subst, ◌∙◌, arith}
use Rattle.skip_form.specs.Flaws.{head_in}
use Rattle.skip_spec.specs.Chain.{pairs}
use Rattle.skip_spec.specs.Place.{height}
use Rattle.skip_lists.specs.Heads.{HasSlots}
use Rattle.skip_lists.specs.Levels.{ArePast}
use Rattle.skip_lists.proofs.Ties.{then_leaves, then_up_to}
use Rattle.skip_change.proofs.Changed.{known_spot, gone_swap, gone_known, gone_begun, gone_done, tied_on}
use Rattle.skip_change.proofs.Spotted.{moved, before_slots, found_slots, found_height}
use Rattle.skip_change.proofs.change.delete.Goals as goal

pub level_at-height-requires : goal.level_at-height-requires
level_at-height-requires g c = record { there = subst (λ (d : List ℕ). HasSlots d c.args.spot.now.same_at) (sym c.bytes.ensures) (found_slots c.args.image.now.bytes c.requires.spot.0 c.args.spot.now c.requires.spot.1 c.requires.there) }

-- the record of the key has a level that the loops may take
in_range : (b : List ℕ) (same_at : ℕ) (d : List ℕ) (n : ℕ) → d ≡ b → n ≡ (head_in d same_at).level → HasSlots b same_at → (1 ≤ n) × (n ≤ 31)
in_range b same_at d n e is slots =
    let same : (head_in d same_at).level ≡ (head_in b same_at).level = ap (λ (x : List ℕ). (head_in x same_at).level) e in
    (omega (arith, is, same, slots.low), omega (arith, is, same, slots.high))

pub pointers_past-pointers-requires-clause-low : goal.pointers_past-pointers-requires-clause-low
pointers_past-pointers-requires-clause-low g c =
    (in_range c.args.image.now.bytes c.args.spot.now.same_at c.bytes.result.now c.level_at-height.result c.bytes.ensures c.level_at-height.ensures (found_slots c.args.image.now.bytes c.requires.spot.0 c.args.spot.now c.requires.spot.1 c.requires.there)).0

pub pointers_past-pointers-requires-clause-height : goal.pointers_past-pointers-requires-clause-height
pointers_past-pointers-requires-clause-height g c =
    (in_range c.args.image.now.bytes c.args.spot.now.same_at c.bytes.result.now c.level_at-height.result c.bytes.ensures c.level_at-height.ensures (found_slots c.args.image.now.bytes c.requires.spot.0 c.args.spot.now c.requires.spot.1 c.requires.there)).1

pub relink-requires-clause-low : goal.relink-requires-clause-low
relink-requires-clause-low g c =
    (in_range c.args.image.now.bytes c.args.spot.now.same_at c.bytes.result.now c.level_at-height.result c.bytes.ensures c.level_at-height.ensures (found_slots c.args.image.now.bytes c.requires.spot.0 c.args.spot.now c.requires.spot.1 c.requires.there)).0

pub relink-requires-clause-height : goal.relink-requires-clause-height
relink-requires-clause-height g c =
    (in_range c.args.image.now.bytes c.args.spot.now.same_at c.bytes.result.now c.level_at-height.result c.bytes.ensures c.level_at-height.ensures (found_slots c.args.image.now.bytes c.requires.spot.0 c.args.spot.now c.requires.spot.1 c.requires.there)).1

pub pointers_past-pointers-requires-clause-spot : goal.pointers_past-pointers-requires-clause-spot
pointers_past-pointers-requires-clause-spot g c = (c.requires.spot.0, moved c.args.image.now.bytes c.bytes-2.result.now c.requires.spot.0 c.args.spot.now c.bytes-2.ensures c.requires.spot.1)

pub place_record-requires-clause-there : goal.place_record-requires-clause-there
place_record-requires-clause-there g c = (before_slots c.args.image.now.bytes c.requires.spot.0 c.args.spot.now c.requires.spot.1 0 (omega arith)).0

pub place_record-requires-clause-past : goal.place_record-requires-clause-past
place_record-requires-clause-past g c = c.requires.spot.1.live.listed.log.least

pub relink-requires-clause-begun : goal.relink-requires-clause-begun
relink-requires-clause-begun g c =
    let b = c.args.image.now.bytes in
    let key = c.requires.spot.0 in
    let s = c.requires.spot.1 in
    let past : ArePast c.pointers_past-pointers.result s.found.place.rest c.level_at-height.result = c.pointers_past-pointers.ensures key (moved b c.bytes-2.result.now key c.args.spot.now c.bytes-2.ensures s) in (
      gone_swap b key c.args.spot.now s,
      gone_begun b key c.args.spot.now s c.place_record.new.image.bytes c.args.committed c.level_at-height.result c.in_ok-place_record.ensures.placed c.place_record.ensures.length c.pointers_past-pointers.result past,
    )

-- the height of the record of the key
tall : (b key : List ℕ) (same_at : ℕ) (d : List ℕ) (n h : ℕ) → d ≡ b → n ≡ (head_in d same_at).level → h ≡ (head_in b same_at).level → h ≡ n
tall b key same_at d n h e is here = here ∙ sym (ap (λ (x : List ℕ). (head_in x same_at).level) e) ∙ sym is

pub returns-clause-deleted : goal.returns-clause-deleted
returns-clause-deleted g c = λ key s.
    let b = c.args.image.now.bytes in
    let spot = c.args.spot.now in
    let past : ArePast c.pointers_past-pointers.result s.found.place.rest c.level_at-height.result = c.pointers_past-pointers.ensures key (moved b c.bytes-2.result.now key spot c.bytes-2.ensures s) in
    let begun = gone_begun b key spot s c.place_record.new.image.bytes c.args.committed c.level_at-height.result c.in_ok-place_record.ensures.placed c.place_record.ensures.length c.pointers_past-pointers.result past in
    let is = tall b key spot.same_at c.bytes.result.now c.level_at-height.result (height s.found.place.dropped) c.bytes.ensures c.level_at-height.ensures (found_height b key spot s c.requires.there) in
    let enough : height s.found.place.dropped ≤ c.level_at-height.result = omega (arith, is) in
    gone_done b key spot s c.place_record.new.image.bytes c.args.committed c.level_at-height.result c.in_ok-place_record.ensures.placed c.place_record.ensures.length c.relink.new.image.bytes enough (c.in_ok-relink.ensures.relinked (gone_swap b key spot s) begun) c.relink.ensures.length

pub returns-clause-tied : goal.returns-clause-tied
returns-clause-tied g c = λ base says t.
    let b = c.args.image.now.bytes in
    let key = c.requires.spot.0 in
    let spot = c.args.spot.now in
    let s = c.requires.spot.1 in
    let known = gone_known b key spot s says t.known in
    let past : ArePast c.pointers_past-pointers.result s.found.place.rest c.level_at-height.result = c.pointers_past-pointers.ensures key (moved b c.bytes-2.result.now key spot c.bytes-2.ensures s) in
    let begun = gone_begun b key spot s c.place_record.new.image.bytes c.args.committed c.level_at-height.result c.in_ok-place_record.ensures.placed c.place_record.ensures.length c.pointers_past-pointers.result past in
    let first = c.in_ok-place_record.ensures.tied base says t.tied t.tidy (known_spot b key spot s base says c.args.committed _ t) in
    tied_on base says c.args.committed b c.relink.new.image.bytes _ _ _ _ t (c.in_ok-relink.ensures.tied base says (gone_swap b key spot s) first known begun) (returns-clause-deleted g c key s).live known

pub returns-in_err-place_record-clause-moments : goal.returns-in_err-place_record-clause-moments
returns-in_err-place_record-clause-moments g c = λ base says t.
    c.place_record.ensures.moments base says t.tied t.tidy (known_spot c.args.image.now.bytes c.requires.spot.0 c.args.spot.now c.requires.spot.1 base says c.args.committed _ t)

pub returns-in_err-relink-clause-moments : goal.returns-in_err-relink-clause-moments
returns-in_err-relink-clause-moments g c = λ base says t.
    let on = g.met.D.Disk.rest_goes_on in
    let b = c.args.image.now.bytes in
    let key = c.requires.spot.0 in
    let spot = c.args.spot.now in
    let s = c.requires.spot.1 in
    let past : ArePast c.pointers_past-pointers.result s.found.place.rest c.level_at-height.result = c.pointers_past-pointers.ensures key (moved b c.bytes-2.result.now key spot c.bytes-2.ensures s) in
    let begun = gone_begun b key spot s c.place_record.new.image.bytes c.args.committed c.level_at-height.result c.in_ok-place_record.ensures.placed c.place_record.ensures.length c.pointers_past-pointers.result past in
    let known = gone_known b key spot s says t.known in
    let here = known_spot b key spot s base says c.args.committed _ t in
    then_leaves (pairs says.chain) _ _ _ (on _ _ c.place_record.ensures.rest) (on _ _ c.relink.ensures.rest) c.place_record.ensures.mark (c.place_record.ensures.moments base says t.tied t.tidy here)
    (c.relink.ensures.moments base says (gone_swap b key spot s) (c.in_ok-place_record.ensures.tied base says t.tied t.tidy here) known begun)

pub returns-clause-moments : goal.returns-clause-moments
returns-clause-moments g c = λ base says t.
    let on = g.met.D.Disk.rest_goes_on in
    let b = c.args.image.now.bytes in
    let key = c.requires.spot.0 in
    let spot = c.args.spot.now in
    let s = c.requires.spot.1 in
    let known = gone_known b key spot s says t.known in
    let past : ArePast c.pointers_past-pointers.result s.found.place.rest c.level_at-height.result = c.pointers_past-pointers.ensures key (moved b c.bytes-2.result.now key spot c.bytes-2.ensures s) in
    let begun = gone_begun b key spot s c.place_record.new.image.bytes c.args.committed c.level_at-height.result c.in_ok-place_record.ensures.placed c.place_record.ensures.length c.pointers_past-pointers.result past in
    let here = known_spot b key spot s base says c.args.committed _ t in
    then_leaves (pairs says.chain) _ _ _ (on _ _ c.place_record.ensures.rest) (on _ _ c.relink.ensures.rest) c.place_record.ensures.mark (c.place_record.ensures.moments base says t.tied t.tidy here)
    (c.relink.ensures.moments base says (gone_swap b key spot s) (c.in_ok-place_record.ensures.tied base says t.tied t.tidy here) known begun)

pub returns-in_err-place_record-clause-long : goal.returns-in_err-place_record-clause-long
returns-in_err-place_record-clause-long g c = c.place_record.ensures.long

pub returns-in_err-relink-clause-long : goal.returns-in_err-relink-clause-long
returns-in_err-relink-clause-long g c = λ most le.
    let on = g.met.D.Disk.rest_goes_on in
    let mid : length c.place_record.new.image.bytes ≤ most = omega (arith, le, c.relink.ensures.length) in
    then_up_to most _ _ _ (on _ _ c.place_record.ensures.rest) (on _ _ c.relink.ensures.rest) c.place_record.ensures.mark (c.place_record.ensures.long most mid) (c.relink.ensures.long most le)

pub returns-clause-long : goal.returns-clause-long
returns-clause-long g c = λ most le.
    let on = g.met.D.Disk.rest_goes_on in
    let mid : length c.place_record.new.image.bytes ≤ most = omega (arith, le, c.relink.ensures.length) in
    then_up_to most _ _ _ (on _ _ c.place_record.ensures.rest) (on _ _ c.relink.ensures.rest) c.place_record.ensures.mark (c.place_record.ensures.long most mid) (c.relink.ensures.long most le)

pub returns-in_err-place_record-clause-written : goal.returns-in_err-place_record-clause-written
returns-in_err-place_record-clause-written g c = λ key s.
    let here = found_height c.args.image.now.bytes key c.args.spot.now s c.requires.there in
    let low = (found_slots c.args.image.now.bytes key c.args.spot.now s c.requires.there).low in
    omega (arith, c.place_record.ensures.written, here, low)

pub returns-in_err-relink-clause-written : goal.returns-in_err-relink-clause-written
returns-in_err-relink-clause-written g c = λ key s.
    let is = tall c.args.image.now.bytes key c.args.spot.now.same_at c.bytes.result.now c.level_at-height.result (height s.found.place.dropped) c.bytes.ensures c.level_at-height.ensures (found_height c.args.image.now.bytes key c.args.spot.now s c.requires.there) in
    omega (arith, c.place_record.ensures.written, c.relink.ensures.written, is)

pub returns-clause-written : goal.returns-clause-written
returns-clause-written g c = λ key s.
    let is = tall c.args.image.now.bytes key c.args.spot.now.same_at c.bytes.result.now c.level_at-height.result (height s.found.place.dropped) c.bytes.ensures c.level_at-height.ensures (found_height c.args.image.now.bytes key c.args.spot.now s c.requires.there) in
    omega (arith, c.place_record.ensures.written, c.relink.ensures.written, is)
