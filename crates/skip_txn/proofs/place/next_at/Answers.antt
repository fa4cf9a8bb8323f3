use Rattle.std.proofs.Common.{ℕ, sym, subst}
use Rattle.skip_image.specs.Image.{CanStep}
use Rattle.skip_seek.specs.Searches.{live_of}
use Rattle.skip_seek.proofs.Answered.{past_found}
use Rattle.skip_seek.proofs.Reading.{live_there}
use Rattle.skip_txn.proofs.place.next_at.Goals as goal

pub successor-requires : goal.successor-requires
successor-requires g c =
    let b = c.args.image.now.bytes in
    let t = live_there b c.requires.live in
    let found = c.requires.found in
    let past = past_found b t.0 (live_of b) t.1 c.args.key.now found.place c.args.found.now.here found.first (found.has_key.0 c.if-found.true) in
    record { there = subst (λ (n : ℕ). CanStep b n c.args.found.now.here) (sym c.length.ensures.size) past.step }
