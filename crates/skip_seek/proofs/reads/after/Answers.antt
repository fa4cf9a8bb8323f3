use Rattle.std.proofs.Common.{ℕ, List, ◌++◌, sym, ap, subst, ◌∙◌, arith}
use Rattle.skip_spec.specs.Chain.{Entry}
use Rattle.skip_spec.specs.Place.{first_pair}
use Rattle.skip_spec.specs.Successor.{successor_under}
use Rattle.skip_spec.proofs.PlaceLemmas.{place_above}
use Rattle.skip_image.specs.Image.{CanStep}
use Rattle.skip_seek.specs.Searches.{live_of}
use Rattle.skip_seek.proofs.Answered.{past_found, none_dropped}
use Rattle.skip_seek.proofs.Reading.{live_there, two_looks}
use Rattle.skip_seek.proofs.reads.after.Goals as goal

pub pair_at-requires-2-clause-there : goal.pair_at-requires-2-clause-there
pair_at-requires-2-clause-there g c =
    let place = c.seek-found.ensures.found.place in
    (place.dropped ++ place.rest, record { passed = place.front; parts = place.split; first = c.seek-found.ensures.found.first })

pub returns-clause-pair : goal.returns-clause-pair
returns-clause-pair g c =
    let b = c.args.image.now.bytes in
    let found = c.seek-found.ensures.found in
    let place = found.place in
    let none = none_dropped (live_of b) c.args.key.now place c.seek-found.result.exact found.has_key.1 c.if-found.false in
    c.pair_at-2.ensures (place.dropped ++ place.rest) (record { passed = place.front; parts = place.split; first = found.first })
    ∙ ap (λ (ds : List Entry). first_pair (ds ++ place.rest)) none
    ∙ sym (place_above (live_of b) c.args.key.now place)

pub successor-next-requires : goal.successor-next-requires
successor-next-requires g c =
    let b = c.args.image.now.bytes in
    let t = live_there b c.requires.live in
    let found = c.seek-found.ensures.found in
    let past = past_found b t.0 (live_of b) t.1 c.args.key.now found.place c.seek-found.result.here found.first (found.has_key.0 c.if-found.true) in
    record { there = subst (λ (n : ℕ). CanStep b n c.seek-found.result.here) (sym c.length.ensures.size) past.step }

pub pair_at-requires-clause-there : goal.pair_at-requires-clause-there
pair_at-requires-clause-there g c =
    let b = c.args.image.now.bytes in
    let t = live_there b c.requires.live in
    let found = c.seek-found.ensures.found in
    let past = past_found b t.0 (live_of b) t.1 c.args.key.now found.place c.seek-found.result.here found.first (found.has_key.0 c.if-found.true) in
    let next = c.successor-next.ensures.value ∙ ap (λ (n : ℕ). successor_under b n c.seek-found.result.here) c.length.ensures.size ∙ past.next in
    (found.place.rest, record { passed = past.passed; parts = past.parts; first = next })

pub returns-then-found-clause-pair : goal.returns-then-found-clause-pair
returns-then-found-clause-pair g c =
    let b = c.args.image.now.bytes in
    let t = live_there b c.requires.live in
    let found = c.seek-found.ensures.found in
    let past = past_found b t.0 (live_of b) t.1 c.args.key.now found.place c.seek-found.result.here found.first (found.has_key.0 c.if-found.true) in
    let next = c.successor-next.ensures.value ∙ ap (λ (n : ℕ). successor_under b n c.seek-found.result.here) c.length.ensures.size ∙ past.next in
    c.pair_at.ensures found.place.rest (record { passed = past.passed; parts = past.parts; first = next })
    ∙ sym (place_above (live_of b) c.args.key.now found.place)

pub returns-then-found-clause-cost : goal.returns-then-found-clause-cost
returns-then-found-clause-cost g c = λ place. omega (arith, c.seek-found.ensures.cost place, c.successor-next.ensures.cost, two_looks c.args.image.now.bytes c.length.result c.seek-found.result.here)
