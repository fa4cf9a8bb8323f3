use Rattle.std.proofs.Common.{ℕ, ◌∷◌, refl, sym, ap, subst, ◌∙◌, arith}
use Rattle.skip_spec.specs.Chain.{pairs}
use Rattle.skip_spec.specs.Successor.{successor_under}
use Rattle.skip_image.specs.Image.{CanStep}
use Rattle.skip_seek.specs.Searches.{live_of}
use Rattle.skip_seek.proofs.Answered.{record_there, none_at_end, leading}
use Rattle.skip_seek.proofs.Reading.{live_there, two_looks}
use Rattle.skip_seek.proofs.cursor.step.Goals as goal

pub returns-then-place-eq0-clause-step : goal.returns-then-place-eq0-clause-step
returns-then-place-eq0-clause-step g c = λ left at.
    let b = c.args.image.now.bytes in
    let t = live_there b c.requires.live in
    sym at.pairs_are ∙ ap pairs (none_at_end b t.0 (live_of b) t.1 at.from.passed at.records c.args.place at.from.parts at.from.first c.if-place-eq0.true)

pub key-requires : goal.key-requires
key-requires g c =
    let b = c.args.image.now.bytes in
    let t = live_there b c.requires.live in
    let at = c.requires.at.1 in
    record { there = record_there b t.0 (live_of b) t.1 at.from.passed at.records c.args.place at.from.parts at.from.first (λ z. c.if-place-eq0.false z) }

pub value-requires : goal.value-requires
value-requires g c =
    let b = c.args.image.now.bytes in
    let t = live_there b c.requires.live in
    let at = c.requires.at.1 in
    record { there = record_there b t.0 (live_of b) t.1 at.from.passed at.records c.args.place at.from.parts at.from.first (λ z. c.if-place-eq0.false z) }

pub successor-requires : goal.successor-requires
successor-requires g c =
    let b = c.args.image.now.bytes in
    let t = live_there b c.requires.live in
    let at = c.requires.at.1 in
    let l = leading b t.0 (live_of b) t.1 at.from.passed at.records c.args.place at.from.parts at.from.first (λ z. c.if-place-eq0.false z) in
    record { there = subst (λ (n : ℕ). CanStep b n c.args.place) (sym c.length.ensures.size) l.on.step }

pub returns-clause-step : goal.returns-clause-step
returns-clause-step g c = λ left at.
    let b = c.args.image.now.bytes in
    let t = live_there b c.requires.live in
    let l = leading b t.0 (live_of b) t.1 at.from.passed at.records c.args.place at.from.parts at.from.first (λ z. c.if-place-eq0.false z) in
    let key = c.key.ensures in
    let value = c.value.ensures in (
      pairs l.back,
      sym at.pairs_are ∙ l.pairs_are ∙ (λ i. (sym key i, sym value i) ∷ pairs l.back),
      record {
        records = l.back;
        from = record {
          passed = l.on.passed;
          parts = l.on.parts;
          first = c.successor.ensures.value ∙ ap (λ (n : ℕ). successor_under b n c.args.place) c.length.ensures.size ∙ l.on.next;
        };
        pairs_are = refl;
      },
    )

pub returns-clause-cost : goal.returns-clause-cost
returns-clause-cost g c = omega (arith, c.successor.ensures.cost, two_looks c.args.image.now.bytes c.length.result c.args.place)
