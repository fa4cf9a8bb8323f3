use Rattle.std.proofs.Common.{◌∙◌, ap, sym, map, List, ℕ, refl, rules}
use Rattle.base_bytes.specs.OrderedMap.{put}
use Rattle.session_tests.specs.MemorySessions.{counting_kind}
use Rattle.session_tests.proofs.Trees.{tree_put, put_sound}
use Rattle.session_tests.proofs.MemoryLemmas.{stored_memory, stored_some}
use Rattle.session_tests.proofs.tests.map_db.MapDb.put_pair.Goals as goal

pub returns-in-Ok-clause-answer : goal.returns-in-Ok-clause-answer
returns-in-Ok-clause-answer c =
    let seen = map (λ e. (e.0.items, e.1.items)) c.args.self.now.seen.entries in
    record {
      ok = search rules;
      done = stored_memory (counting_kind 9) c.args.self.now.in_transaction seen _ _ _ c.args.self.now.has_changed c.requires 0 c.args.key.now c.args.value.now _ _
          (ap (map (λ e. (e.0.items, e.1.items))) c.in-Ok.ensures.entries
          ∙ tree_put c.args.self.now.seen.entries c.in-Ok-Ok.key c.in-Ok-Ok.value
          ∙ ap (λ (k : List ℕ). put seen k c.in-Ok-Ok.value.items) (c.in-Ok-Ok.ensures.items_if_clones_equal (λ x y p. p))
          ∙ ap (λ (v : List ℕ). put seen c.args.key.now v) (c.in-Ok-Ok.ensures'.items_if_clones_equal (λ x y p. p)))
          refl;
      refused = tt;
      after = tt;
    }

pub invariant_of-self-clause-ordered : goal.invariant_of-self-clause-ordered
invariant_of-self-clause-ordered c = (put_sound c.args.self.now.seen.entries c.insert.new.self.entries c.in-Ok-Ok.key c.in-Ok-Ok.value c.args.key.now c.in-Ok.ensures.entries (c.in-Ok-Ok.ensures.items_if_clones_equal (λ x y p. p)) (stored_some c.args.key.now c.args.value.now (sym c.pair_fault.ensures ∙ c.in_default.is)) c.args.self.now.ordered c.args.self.now.some).ordered

pub invariant_of-self-clause-some : goal.invariant_of-self-clause-some
invariant_of-self-clause-some c = (put_sound c.args.self.now.seen.entries c.insert.new.self.entries c.in-Ok-Ok.key c.in-Ok-Ok.value c.args.key.now c.in-Ok.ensures.entries (c.in-Ok-Ok.ensures.items_if_clones_equal (λ x y p. p)) (stored_some c.args.key.now c.args.value.now (sym c.pair_fault.ensures ∙ c.in_default.is)) c.args.self.now.ordered c.args.self.now.some).some
