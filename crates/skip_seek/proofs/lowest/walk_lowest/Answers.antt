use Rattle.std.proofs.Common.{◌≡◌, true, false, List, ℕ, length, sym, ap, subst, ◌∙◌, inl, inr, arith}
use Rattle.skip_spec.specs.Records.{key_in}
use Rattle.skip_spec.specs.Successor.{successor_under}
use Rattle.skip_image.specs.Image.{CanStep}
use Rattle.skip_seek.specs.Climbing.{comes_before}
use Rattle.skip_seek.specs.Searches.{live_of}
use Rattle.skip_seek.proofs.LevelZero.{zero_step, zero_next, ahead, hop_on, stop_here}
use Rattle.skip_seek.proofs.Measure.{measure_falls}
use Rattle.skip_seek.proofs.Reading.{live_there, two_looks}
use Rattle.skip_seek.proofs.lowest.walk_lowest.Goals as goal

pub successor-next-requires : goal.successor-next-requires
successor-next-requires g c =
    let b = c.args.image.now.bytes in
    let t = live_there b c.requires.live in
    let r = c.requires.standing in
    let now = c.hops.invariant.walked r.0 r.1 r.2 in
    record { there = subst (λ (n : ℕ). CanStep b n c.hops.at) (sym c.length.ensures.size) (zero_step b t.0 (live_of b) c.args.key.now t.1 r.0 c.hops.at now.due now.standing) }

pub returns-then-next-eq0 : goal.returns-then-next-eq0
returns-then-next-eq0 g c = record {
  reached = λ place due standing.
      let b = c.args.image.now.bytes in
      let t = live_there b c.requires.live in
      let now = c.hops.invariant.walked place due standing in
      let is = c.successor-next.ensures.value ∙ ap (λ (n : ℕ). successor_under b n c.hops.at) c.length.ensures.size ∙ zero_next b t.0 (live_of b) c.args.key.now t.1 place c.hops.at now.due now.standing in
      let d = stop_here b t.0 (live_of b) c.args.key.now t.1 place c.hops.at now.due now.standing c.successor-next.result is (inl c.if-next-eq0.true) in
      record { last_is = d.last; next_is = d.here; within = omega (arith, c.successor-next.ensures.cost, two_looks b c.length.result c.hops.at, now.within, d.cost) };
}

pub key-requires : goal.key-requires
key-requires g c =
    let b = c.args.image.now.bytes in
    let t = live_there b c.requires.live in
    let r = c.requires.standing in
    let now = c.hops.invariant.walked r.0 r.1 r.2 in
    let is = c.successor-next.ensures.value ∙ ap (λ (n : ℕ). successor_under b n c.hops.at) c.length.ensures.size ∙ zero_next b t.0 (live_of b) c.args.key.now t.1 r.0 c.hops.at now.due now.standing in
    record { there = (ahead b t.0 (live_of b) c.args.key.now t.1 r.0 c.hops.at now.due now.standing c.successor-next.result is (λ e. c.if-next-eq0.false e)).stands }

pub returns-then-not-comes_before : goal.returns-then-not-comes_before
returns-then-not-comes_before g c = record {
  reached = λ place due standing.
      let b = c.args.image.now.bytes in
      let t = live_there b c.requires.live in
      let now = c.hops.invariant.walked place due standing in
      let is = c.successor-next.ensures.value ∙ ap (λ (n : ℕ). successor_under b n c.hops.at) c.length.ensures.size ∙ zero_next b t.0 (live_of b) c.args.key.now t.1 place c.hops.at now.due now.standing in
      let stop : comes_before (key_in b c.successor-next.result) c.args.key.now ≡ false = sym (c.comes_before.ensures ∙ ap (λ (k : List ℕ). comes_before k c.args.key.now) c.key.ensures) ∙ c.if-not-comes_before.true in
      let d = stop_here b t.0 (live_of b) c.args.key.now t.1 place c.hops.at now.due now.standing c.successor-next.result is (inr stop) in
      record { last_is = d.last; next_is = d.here; within = omega (arith, c.successor-next.ensures.cost, two_looks b c.length.result c.hops.at, now.within, d.cost) };
}

pub hops-smaller : goal.hops-smaller
hops-smaller g c =
    let b = c.args.image.now.bytes in
    let t = live_there b c.requires.live in
    let r = c.requires.standing in
    let now = c.hops.invariant.walked r.0 r.1 r.2 in
    let is = c.successor-next.ensures.value ∙ ap (λ (n : ℕ). successor_under b n c.hops.at) c.length.ensures.size ∙ zero_next b t.0 (live_of b) c.args.key.now t.1 r.0 c.hops.at now.due now.standing in
    let on = ahead b t.0 (live_of b) c.args.key.now t.1 r.0 c.hops.at now.due now.standing c.successor-next.result is (λ e. c.if-next-eq0.false e) in
    measure_falls b (length b) c.hops.at c.successor-next.result on.inside on.above

pub hops-preserved : goal.hops-preserved
hops-preserved g c = record {
  walked = λ place due standing.
      let b = c.args.image.now.bytes in
      let t = live_there b c.requires.live in
      let now = c.hops.invariant.walked place due standing in
      let is = c.successor-next.ensures.value ∙ ap (λ (n : ℕ). successor_under b n c.hops.at) c.length.ensures.size ∙ zero_next b t.0 (live_of b) c.args.key.now t.1 place c.hops.at now.due now.standing in
      let lower : comes_before (key_in b c.successor-next.result) c.args.key.now ≡ true = sym (c.comes_before.ensures ∙ ap (λ (k : List ℕ). comes_before k c.args.key.now) c.key.ensures) ∙ c.if-not-comes_before.false in
      let h = hop_on b t.0 (live_of b) c.args.key.now t.1 place c.hops.at now.due now.standing c.successor-next.result is (λ e. c.if-next-eq0.false e) lower in
      record { due = h.due'; standing = h.standing; within = omega (arith, c.successor-next.ensures.cost, two_looks b c.length.result c.hops.at, now.within, h.cost) };
}
