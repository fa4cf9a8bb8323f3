use Rattle.std.proofs.Common.{sym, ◌∙◌, ◌++◌}
use Rattle.skip_spec.proofs.PlaceLemmas.{place_from}
use Rattle.skip_seek.specs.Searches.{live_of}
use Rattle.skip_seek.proofs.reads.at_least.Goals as goal

pub pair_at-requires-clause-there : goal.pair_at-requires-clause-there
pair_at-requires-clause-there g c =
    let place = c.seek-here.ensures.found.place in
    (place.dropped ++ place.rest, record { passed = place.front; parts = place.split; first = c.seek-here.ensures.found.first })

pub returns-clause-pair : goal.returns-clause-pair
returns-clause-pair g c =
    let b = c.args.image.now.bytes in
    let place = c.seek-here.ensures.found.place in
    c.pair_at.ensures (place.dropped ++ place.rest) (record { passed = place.front; parts = place.split; first = c.seek-here.ensures.found.first })
    ∙ sym (place_from (live_of b) c.args.key.now place)
