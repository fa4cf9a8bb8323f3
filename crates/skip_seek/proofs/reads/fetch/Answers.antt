use Rattle.std.proofs.Common.{List, ℕ, ◌++◌, Some, sym, ap, ◌∙◌}
use Rattle.skip_spec.specs.Place.{first_value}
use Rattle.skip_spec.proofs.PlaceLemmas.{place_value, live_rises}
use Rattle.skip_seek.specs.Searches.{live_of}
use Rattle.skip_seek.proofs.Answered.{record_there, dropped_found, its_value, none_dropped}
use Rattle.skip_seek.proofs.Reading.{live_there}
use Rattle.skip_seek.proofs.reads.fetch.Goals as goal

pub value-requires : goal.value-requires
value-requires g c =
    let b = c.args.image.now.bytes in
    let t = live_there b c.requires.live in
    let found = c.seek-found.ensures.found in
    let place = found.place in
    let some = (dropped_found b t.0 (live_of b) t.1 c.args.key.now place c.seek-found.result.here found.first (found.has_key.0 c.if-found.true)).0 in
    record { there = record_there b t.0 (live_of b) t.1 place.front (place.dropped ++ place.rest) c.seek-found.result.here place.split found.first some }

pub returns-then-found-clause-value : goal.returns-then-found-clause-value
returns-then-found-clause-value g c =
    let b = c.args.image.now.bytes in
    let t = live_there b c.requires.live in
    let found = c.seek-found.ensures.found in
    let place = found.place in
    ap (λ (v : List ℕ). Some v) c.value.ensures
    ∙ sym (its_value b t.0 (live_of b) t.1 c.args.key.now place c.seek-found.result.here found.first (found.has_key.0 c.if-found.true))
    ∙ sym (place_value (live_of b) c.args.key.now place (live_rises b t.0 (live_of b) t.1))

pub returns-else-found-clause-value : goal.returns-else-found-clause-value
returns-else-found-clause-value g c =
    let b = c.args.image.now.bytes in
    let t = live_there b c.requires.live in
    let found = c.seek-found.ensures.found in
    let place = found.place in
    sym (ap first_value (none_dropped (live_of b) c.args.key.now place c.seek-found.result.exact found.has_key.1 c.if-found.false))
    ∙ sym (place_value (live_of b) c.args.key.now place (live_rises b t.0 (live_of b) t.1))
