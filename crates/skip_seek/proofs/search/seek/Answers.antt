use Rattle.std.proofs.Common.{ℕ, ◌++◌, get_or, set, sym, ap, ◌∙◌, inl, inr, arith}
use Rattle.std.proofs.lemmas.Bool.{cases_eq}
use Rattle.std.proofs.lemmas.List.{get_or-set_same, get_or-set_other}
use Rattle.skip_spec.specs.Place.{last_on}
use Rattle.skip_spec.proofs.PlaceLemmas.{place_of, live_rises}
use Rattle.skip_seek.specs.Searches.{live_of}
use Rattle.skip_seek.proofs.Answered.{record_or_none, found_dropped, dropped_found}
use Rattle.skip_seek.proofs.Reading.{live_there}
use Rattle.skip_seek.proofs.search.seek.Goals as goal

pub walk_lowest-last-requires-clause-standing : goal.walk_lowest-last-requires-clause-standing
walk_lowest-last-requires-clause-standing g c =
    let b = c.args.image.now.bytes in
    let t = live_there b c.requires.live in
    let place = place_of (live_of b) c.args.key.now (live_rises b t.0 (live_of b) t.1) in
    let up = c.climb-before.ensures.stands place in
    (place, up.due, up.standing)

pub has_key-requires : goal.has_key-requires
has_key-requires g c =
    let b = c.args.image.now.bytes in
    let t = live_there b c.requires.live in
    let place = place_of (live_of b) c.args.key.now (live_rises b t.0 (live_of b) t.1) in
    let up = c.climb-before.ensures.stands place in
    let down = c.walk_lowest-last.ensures.reached place up.due up.standing in
    record { there = record_or_none b t.0 (live_of b) t.1 place.front (place.dropped ++ place.rest) c.walk_lowest-last.result.1 place.split down.next_is }

pub returns-clause-found : goal.returns-clause-found
returns-clause-found g c =
    let b = c.args.image.now.bytes in
    let t = live_there b c.requires.live in
    let place = place_of (live_of b) c.args.key.now (live_rises b t.0 (live_of b) t.1) in
    let up = c.climb-before.ensures.stands place in
    let down = c.walk_lowest-last.ensures.reached place up.due up.standing in
    let above = c.climb-before.ensures.last place in
    let ps = c.climb-before.result in
    let last = c.walk_lowest-last.result.0 in
    let here = c.walk_lowest-last.result.1 in
    record {
      place = place;
      first = down.next_is;
      last = λ level le. elim (cases_eq level 0) [
        | inl z ↦ ap (λ (m : ℕ). get_or (set ps 0 last) m 0) z ∙ get_or-set_same ps 0 last 0 (omega arith) ∙ down.last_is ∙ ap (λ (m : ℕ). last_on m place.front) (sym z)
        | inr nz ↦ get_or-set_other ps 0 level last 0 nz ∙ above level (grind (arith, nz)) le
      ];
      has_key = (
        (λ yes. let is = c.has_key.ensures.0 yes in found_dropped b t.0 (live_of b) t.1 c.args.key.now place here down.next_is is.0 is.1),
        (λ some. c.has_key.ensures.1 (dropped_found b t.0 (live_of b) t.1 c.args.key.now place here down.next_is some)),
      );
    }

pub returns-clause-cost : goal.returns-clause-cost
returns-clause-cost g c = λ place.
    let up = c.climb-before.ensures.stands place in
    let down = c.walk_lowest-last.ensures.reached place up.due up.standing in
    omega (arith, down.within, up.within)
