use Rattle.std.proofs.Common.{List, subst}
use Rattle.base_bytes.specs.OrderedMap.{Map, IsOrderedMap, pairs_from}
use Rattle.skip_spec.specs.Chain.{Entry, pairs}
use Rattle.skip_spec.proofs.PlaceLemmas.{live_rises}
use Rattle.skip_seek.specs.Searches.{live_of, map_of}
use Rattle.skip_seek.proofs.Prefixes.{prefix_from, from_begins, back_rises}
use Rattle.skip_seek.proofs.Reading.{live_there}
use Rattle.skip_seek.proofs.prefixed.Walk.new.Goals as goal

pub returns-clause-left : goal.returns-clause-left
returns-clause-left g c =
    let b = c.args.image.now.bytes in
    let t = live_there b c.requires.live in
    let at = c.walk_from-place.ensures.place in
    let whole = subst (λ (es : List Entry). IsOrderedMap (pairs es)) at.from.parts (live_rises b t.0 (live_of b) t.1) in
    record {
      live = c.requires.live;
      all = pairs_from (map_of b) c.args.prefix.now;
      at = at;
      rise = subst (λ (m : Map). IsOrderedMap m) at.pairs_are (back_rises at.from.passed at.records whole);
      begins = from_begins c.args.prefix.now (map_of b);
      left_is = prefix_from c.args.prefix.now (map_of b);
    }
