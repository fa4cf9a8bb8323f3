use Rattle.std.proofs.Common.{map, refl}
use Rattle.session_tests.proofs.Trees.{tree_clone, clone_sound}
use Rattle.session_tests.proofs.MemoryLemmas.{begun_memory}
use Rattle.session_tests.proofs.tests.map_db.MapDbDb.begin.Goals as goal

pub returns-in-Ok-clause-answer : goal.returns-in-Ok-clause-answer
returns-in-Ok-clause-answer g c = record {
  ok = refl;
  done = begun_memory c.args.self.now.in_transaction _ (map (λ e. (e.0.items, e.1.items)) c.args.self.now.saved.entries) _ c.args.self.now.changes c.args.self.now.saved_changes c.args.self.now.has_changed (c.requires refl) (tree_clone _ _ c.in-Ok.ensures.cases);
  refused = tt;
  after = tt;
}

pub invariant_of-self-clause-saved_ordered : goal.invariant_of-self-clause-saved_ordered
invariant_of-self-clause-saved_ordered g c = (clone_sound c.args.self.now.seen.entries c.in-Ok.copy.entries c.in-Ok.ensures.cases c.args.self.now.ordered c.args.self.now.some).ordered

pub invariant_of-self-clause-saved_some : goal.invariant_of-self-clause-saved_some
invariant_of-self-clause-saved_some g c = (clone_sound c.args.self.now.seen.entries c.in-Ok.copy.entries c.in-Ok.ensures.cases c.args.self.now.ordered c.args.self.now.some).some
