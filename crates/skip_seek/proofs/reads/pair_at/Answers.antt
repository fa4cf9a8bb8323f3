use Rattle.std.proofs.Common.{Some, sym, ap, ◌∙◌}
use Rattle.skip_spec.specs.Place.{first_pair}
use Rattle.skip_seek.specs.Searches.{live_of}
use Rattle.skip_seek.proofs.Answered.{record_there, none_at_end, pair_there}
use Rattle.skip_seek.proofs.Reading.{live_there}
use Rattle.skip_seek.proofs.reads.pair_at.Goals as goal

pub returns-then-at-eq0 : goal.returns-then-at-eq0
returns-then-at-eq0 c = λ es from.
    let b = c.args.image.now.bytes in
    let t = live_there b c.requires.live in
    sym (ap first_pair (none_at_end b t.0 (live_of b) t.1 from.passed es c.args.at from.parts from.first c.if-at-eq0.true))

pub key-requires : goal.key-requires
key-requires c =
    let b = c.args.image.now.bytes in
    let t = live_there b c.requires.live in
    let from = c.requires.there.1 in
    record { there = record_there b t.0 (live_of b) t.1 from.passed c.requires.there.0 c.args.at from.parts from.first (λ z. c.if-at-eq0.false z) }

pub value-requires : goal.value-requires
value-requires c =
    let b = c.args.image.now.bytes in
    let t = live_there b c.requires.live in
    let from = c.requires.there.1 in
    record { there = record_there b t.0 (live_of b) t.1 from.passed c.requires.there.0 c.args.at from.parts from.first (λ z. c.if-at-eq0.false z) }

pub returns : goal.returns
returns c = λ es from.
    let b = c.args.image.now.bytes in
    let t = live_there b c.requires.live in
    let key = c.key.ensures in
    let value = c.value.ensures in
    (λ i. Some (key i, value i)) ∙ sym (pair_there b t.0 (live_of b) t.1 from.passed es c.args.at from.parts from.first (λ z. c.if-at-eq0.false z))
