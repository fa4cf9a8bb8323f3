use Rattle.std.proofs.Common.{ℕ, ap, ◌∙◌}
use Rattle.skip_lists.proofs.Walks.{found_spot}
use Rattle.skip_seek.specs.Searches.{live_of}
use Rattle.skip_seek.proofs.Reading.{live_there}
use Rattle.skip_txn.proofs.Sound.{chosen_true, chosen_false}
use Rattle.skip_txn.proofs.place.spot_counted.Goals as goal

pub returns : goal.returns
returns g c =
    let b = c.args.image.now.bytes in
    let t = live_there b c.requires.live in
    let found = c.seek-found.result in
    record {
      starts = t.0;
      es = live_of b;
      live = t.1;
      found = found_spot b t.0 (live_of b) c.args.key.now found.here found.before found.exact c.same_at.result c.next_at.result t.1 c.seek-found.ensures.found
          (λ is. (c.same_at.ensures ∙ chosen_true found.exact found.here 0 is, c.next_at.ensures.past is))
          (λ isnt. (c.same_at.ensures ∙ chosen_false found.exact found.here 0 isnt, c.next_at.ensures.here isnt));
    }
