use Rattle.std.proofs.Common.{◌≡◌, ap, map, ◌∙◌, List, ℕ}
use Rattle.std.specs.Ordering.{is_lt}
use Rattle.base_bytes.specs.OrderedMap.{key_order}
use Rattle.session_tests.specs.MemorySessions.{pairs_in}
use Rattle.session_tests.proofs.MemoryLemmas.{below_by, not_below_by, search_ends, search_from, search_place, search_stops}
use Rattle.session_tests.proofs.tests.map_db.MapDbDb.walk_from.Goals as goal

pub returns-then-not-is_lt : goal.returns-then-not-is_lt
returns-then-not-is_lt g c =
    let order : c.compare_keys.result ≡ key_order c.in-Some.found.now.items c.args.key.now = c.compare_keys.ensures ∙ ap (λ (k : List ℕ). key_order k c.args.key.now) c.deref.ensures.value in
    search_stops (pairs_in c.args.self.now.seen.entries) (pairs_in c.loop-found.found-iterator) c.args.key.now c.loop-found.place c.loop-found.invariant.left c.loop-found.invariant.from
    (c.in-Some.found.now.items, c.in-Some.field-0-1.now.items) (pairs_in c.next.new.self) (ap (map (λ e. (e.0.items, e.1.items))) c.in-Some.ensures.steps) c.args.self.now.ordered
    (not_below_by _ c.is_lt.result (c.is_lt.ensures ∙ ap is_lt order) c.if-not-is_lt.true)

pub loop-found-preserved : goal.loop-found-preserved
loop-found-preserved g c =
    let order : c.compare_keys.result ≡ key_order c.in-Some.found.now.items c.args.key.now = c.compare_keys.ensures ∙ ap (λ (k : List ℕ). key_order k c.args.key.now) c.deref.ensures.value in
    record {
      left = search_place (pairs_in c.args.self.now.seen.entries) (pairs_in c.loop-found.found-iterator) (pairs_in c.next.new.self) c.loop-found.place
          (c.in-Some.found.now.items, c.in-Some.field-0-1.now.items) c.loop-found.invariant.left (ap (map (λ e. (e.0.items, e.1.items))) c.in-Some.ensures.steps);
      from = search_from (pairs_in c.args.self.now.seen.entries) (pairs_in c.loop-found.found-iterator) c.args.key.now c.loop-found.place c.loop-found.invariant.left c.loop-found.invariant.from
          (c.in-Some.found.now.items, c.in-Some.field-0-1.now.items) (pairs_in c.next.new.self) (ap (map (λ e. (e.0.items, e.1.items))) c.in-Some.ensures.steps)
          (below_by _ c.is_lt.result (c.is_lt.ensures ∙ ap is_lt order) c.if-not-is_lt.false);
    }

pub returns : goal.returns
returns g c =
    search_ends (pairs_in c.args.self.now.seen.entries) (pairs_in c.loop-found.found-iterator) c.args.key.now c.loop-found.place c.loop-found.invariant.left c.loop-found.invariant.from
    (ap (map (λ e. (e.0.items, e.1.items))) c.in-None.ensures.steps.0)
