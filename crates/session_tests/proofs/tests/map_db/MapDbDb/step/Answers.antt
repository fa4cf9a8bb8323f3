use Rattle.std.proofs.Common.{ap, map, arith}
use Rattle.session_tests.specs.MemorySessions.{pairs_in}
use Rattle.session_tests.proofs.MemoryLemmas.{search_place, step_found, step_none}
use Rattle.session_tests.proofs.tests.map_db.MapDbDb.step.Goals as goal

pub returns-then-place-cursor : goal.returns-then-place-cursor
returns-then-place-cursor g c =
    step_found (pairs_in c.args.self.now.seen.entries) (pairs_in c.loop-key.key-iterator) (pairs_in c.next.new.self) c.loop-key.place c.args.cursor.place
    (c.in-Some.key.now.items, c.in-Some.value.now.items) (c.deref.result.now, c.deref-then-place-cursor.result.now)
    c.loop-key.invariant.left (ap (map (λ e. (e.0.items, e.1.items))) c.in-Some.ensures.steps) c.deref.ensures.value c.deref-then-place-cursor.ensures.value c.if-place-cursor.true

pub loop-key-preserved : goal.loop-key-preserved
loop-key-preserved g c = record {
  left = search_place (pairs_in c.args.self.now.seen.entries) (pairs_in c.loop-key.key-iterator) (pairs_in c.next.new.self) c.loop-key.place
      (c.in-Some.key.now.items, c.in-Some.value.now.items) c.loop-key.invariant.left (ap (map (λ e. (e.0.items, e.1.items))) c.in-Some.ensures.steps);
  before = omega (arith, c.loop-key.invariant.before, c.if-place-cursor.false);
}

pub returns : goal.returns
returns g c =
    step_none (pairs_in c.args.self.now.seen.entries) (pairs_in c.loop-key.key-iterator) c.loop-key.place c.args.cursor.place
    c.loop-key.invariant.left (ap (map (λ e. (e.0.items, e.1.items))) c.in-None.ensures.steps.0) c.loop-key.invariant.before
