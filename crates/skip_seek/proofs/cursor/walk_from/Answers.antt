use Rattle.std.proofs.Common.{◌++◌, sym}
use Rattle.skip_seek.specs.Searches.{live_of}
use Rattle.skip_seek.proofs.FromPlaces.{from_place}
use Rattle.skip_seek.proofs.Reading.{live_there}
use Rattle.skip_seek.proofs.cursor.walk_from.Goals as goal

pub returns-clause-place : goal.returns-clause-place
returns-clause-place g c =
    let b = c.args.image.now.bytes in
    let t = live_there b c.requires.live in
    let found = c.seek.ensures.found in
    let place = found.place in
    record {
      records = place.dropped ++ place.rest;
      from = record { passed = place.front; parts = place.split; first = found.first };
      pairs_are = sym (from_place b t.0 (live_of b) c.args.key.now t.1 place);
    }
