use Rattle.std.proofs.Common.{◌≡◌, true, false, List, ℕ, length, sym, ap, ◌∙◌, arith}
use Rattle.skip_spec.specs.Records.{key_in}
use Rattle.skip_seek.specs.Climbing.{comes_before}
use Rattle.skip_seek.specs.Searches.{live_of}
use Rattle.skip_seek.proofs.Hops.{standing_slots, leads_on, hop, arrive_end, arrive_stop}
use Rattle.skip_seek.proofs.Measure.{measure_falls}
use Rattle.skip_seek.proofs.Reading.{live_there}
use Rattle.skip_seek.proofs.climb.walk_level.Goals as goal

pub upper-next-requires-clause-there : goal.upper-next-requires-clause-there
upper-next-requires-clause-there g c =
    let b = c.args.image.now.bytes in
    let t = live_there b c.requires.live in
    let r = c.requires.standing in
    let now = c.hops.invariant.walked r.0 r.1 r.2 in
    (standing_slots b t.0 (live_of b) c.args.key.now t.1 r.0 c.args.level c.hops.at now.due c.requires.low c.requires.high now.standing).0

pub upper-next-requires-clause-level : goal.upper-next-requires-clause-level
upper-next-requires-clause-level g c =
    let b = c.args.image.now.bytes in
    let t = live_there b c.requires.live in
    let r = c.requires.standing in
    let now = c.hops.invariant.walked r.0 r.1 r.2 in
    omega (arith, (standing_slots b t.0 (live_of b) c.args.key.now t.1 r.0 c.args.level c.hops.at now.due c.requires.low c.requires.high now.standing).1)

pub returns-then-next-eq0 : goal.returns-then-next-eq0
returns-then-next-eq0 g c = record {
  arrived = λ place due standing.
      let b = c.args.image.now.bytes in
      let t = live_there b c.requires.live in
      let now = c.hops.invariant.walked place due standing in
      let a = arrive_end b t.0 (live_of b) c.args.key.now t.1 place c.args.level c.hops.at now.due c.requires.low c.requires.high now.standing (sym c.upper-next.ensures.value ∙ c.if-next-eq0.true) in
      record { last = a.last; stands = record { due = a.due'; standing = a.standing; within = omega (arith, c.upper-next.ensures.cost, now.within, a.cost) } };
}

pub key-requires : goal.key-requires
key-requires g c =
    let b = c.args.image.now.bytes in
    let t = live_there b c.requires.live in
    let r = c.requires.standing in
    let now = c.hops.invariant.walked r.0 r.1 r.2 in
    record { there = (leads_on b t.0 (live_of b) c.args.key.now t.1 r.0 c.args.level c.hops.at now.due c.requires.low c.requires.high now.standing c.upper-next.result c.upper-next.ensures.value (λ e. c.if-next-eq0.false e)).stands }

pub returns-then-not-comes_before : goal.returns-then-not-comes_before
returns-then-not-comes_before g c = record {
  arrived = λ place due standing.
      let b = c.args.image.now.bytes in
      let t = live_there b c.requires.live in
      let now = c.hops.invariant.walked place due standing in
      let stop : comes_before (key_in b c.upper-next.result) c.args.key.now ≡ false = sym (c.comes_before.ensures ∙ ap (λ (k : List ℕ). comes_before k c.args.key.now) c.key.ensures) ∙ c.if-not-comes_before.true in
      let a = arrive_stop b t.0 (live_of b) c.args.key.now t.1 place c.args.level c.hops.at now.due c.requires.low c.requires.high now.standing c.upper-next.result c.upper-next.ensures.value (λ e. c.if-next-eq0.false e) stop in
      record { last = a.last; stands = record { due = a.due'; standing = a.standing; within = omega (arith, c.upper-next.ensures.cost, now.within, a.cost) } };
}

pub hops-smaller : goal.hops-smaller
hops-smaller g c =
    let b = c.args.image.now.bytes in
    let t = live_there b c.requires.live in
    let r = c.requires.standing in
    let now = c.hops.invariant.walked r.0 r.1 r.2 in
    let on = leads_on b t.0 (live_of b) c.args.key.now t.1 r.0 c.args.level c.hops.at now.due c.requires.low c.requires.high now.standing c.upper-next.result c.upper-next.ensures.value (λ e. c.if-next-eq0.false e) in
    measure_falls b (length b) c.hops.at c.upper-next.result on.inside on.above

pub hops-preserved : goal.hops-preserved
hops-preserved g c = record {
  walked = λ place due standing.
      let b = c.args.image.now.bytes in
      let t = live_there b c.requires.live in
      let now = c.hops.invariant.walked place due standing in
      let lower : comes_before (key_in b c.upper-next.result) c.args.key.now ≡ true = sym (c.comes_before.ensures ∙ ap (λ (k : List ℕ). comes_before k c.args.key.now) c.key.ensures) ∙ c.if-not-comes_before.false in
      let h = hop b t.0 (live_of b) c.args.key.now t.1 place c.args.level c.hops.at now.due c.requires.low c.requires.high now.standing c.upper-next.result c.upper-next.ensures.value (λ e. c.if-next-eq0.false e) lower in
      record { due = h.due'; standing = h.standing; within = omega (arith, c.upper-next.ensures.cost, now.within, h.cost) };
}
