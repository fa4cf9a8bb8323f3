use Rattle.std.proofs.Common.{◌≡◌, ◌+◌, ◌∙◌, Bool, true, false, Some, None, not, nat_lt, ap, sym, map, refl, rules}
use Rattle.std.specs.Prelude.{if◌then◌else◌}
use Rattle.session_tests.specs.MemorySessions.{counting_kind}
use Rattle.db_core.specs.declared.fault.DbFault.TheVariants.{Full}
use Rattle.base_bytes.proofs.OrderedMaps.{without_absent}
use Rattle.session_tests.proofs.Trees.{tree_some, tree_without, without_sound}
use Rattle.session_tests.proofs.MemoryLemmas.{deleted_memory, kept_memory, delete_owed}
use Rattle.session_tests.proofs.tests.map_db.MapDb.take_out.Goals as goal

pub returns-then-is_none-clause-was_there : goal.returns-then-is_none-clause-was_there
returns-then-is_none-clause-was_there c = sym (tree_some c.args.self.now.seen.entries c.args.key.now c.get.result false c.get.ensures.value (c.is_none.ensures ∙ ap not c.if-is_none.true))

pub returns-then-is_none-clause-answer : goal.returns-then-is_none-clause-answer
returns-then-is_none-clause-answer c =
    let none = tree_some c.args.self.now.seen.entries c.args.key.now c.get.result false c.get.ensures.value (c.is_none.ensures ∙ ap not c.if-is_none.true) in
    let m = map (λ e. (e.0.items, e.1.items)) c.args.self.now.seen.entries in
    record {
      ok = delete_owed 9 c.args.self.now.in_transaction m (map (λ e. (e.0.items, e.1.items)) c.args.self.now.saved.entries) c.args.self.now.changes c.args.self.now.saved_changes c.args.self.now.has_changed c.args.key.now false none;
      done = kept_memory (counting_kind 9) c.args.self.now.in_transaction m (map (λ e. (e.0.items, e.1.items)) c.args.self.now.saved.entries) c.args.self.now.changes c.args.self.now.saved_changes c.args.self.now.has_changed c.requires c.args.key.now none (without_absent m c.args.key.now none);
      refused = tt;
      after = tt;
    }

pub returns-then-self-ge9-clause-answer : goal.returns-then-self-ge9-clause-answer
returns-then-self-ge9-clause-answer c =
    let there = tree_some c.args.self.now.seen.entries c.args.key.now c.get.result true c.get.ensures.value (c.is_none.ensures ∙ ap not c.if-is_none.false) in
    let m = map (λ e. (e.0.items, e.1.items)) c.args.self.now.seen.entries in
    let over : nat_lt 9 (c.args.self.now.changes + 1) ≡ true = search rules in
    record {
      ok = tt;
      done = tt;
      refused = delete_owed 9 c.args.self.now.in_transaction m (map (λ e. (e.0.items, e.1.items)) c.args.self.now.saved.entries) c.args.self.now.changes c.args.self.now.saved_changes c.args.self.now.has_changed c.args.key.now true there ∙ ap (λ (b : Bool). if b then Some (Full (c.args.self.now.changes + 1)) else None) over;
      after = refl;
    }

pub returns-clause-was_there : goal.returns-clause-was_there
returns-clause-was_there c = sym (tree_some c.args.self.now.seen.entries c.args.key.now c.get.result true c.get.ensures.value (c.is_none.ensures ∙ ap not c.if-is_none.false))

pub returns-clause-answer : goal.returns-clause-answer
returns-clause-answer c =
    let there = tree_some c.args.self.now.seen.entries c.args.key.now c.get.result true c.get.ensures.value (c.is_none.ensures ∙ ap not c.if-is_none.false) in
    let m = map (λ e. (e.0.items, e.1.items)) c.args.self.now.seen.entries in
    let within : nat_lt 9 (c.args.self.now.changes + 1) ≡ false = search rules in
    record {
      ok = delete_owed 9 c.args.self.now.in_transaction m (map (λ e. (e.0.items, e.1.items)) c.args.self.now.saved.entries) c.args.self.now.changes c.args.self.now.saved_changes c.args.self.now.has_changed c.args.key.now true there ∙ ap (λ (b : Bool). if b then Some (Full (c.args.self.now.changes + 1)) else None) within;
      done = deleted_memory (counting_kind 9) c.args.self.now.in_transaction m _ _ _ c.args.self.now.has_changed c.requires c.args.key.now _ _ there (ap (map (λ e. (e.0.items, e.1.items))) c.remove.ensures.entries ∙ tree_without c.args.self.now.seen.entries c.args.key.now) refl;
      refused = tt;
      after = tt;
    }

pub invariant_of-self-clause-ordered : goal.invariant_of-self-clause-ordered
invariant_of-self-clause-ordered c = (without_sound c.args.self.now.seen.entries c.remove.new.self.entries c.args.key.now c.remove.ensures.entries c.args.self.now.ordered c.args.self.now.some).ordered

pub invariant_of-self-clause-some : goal.invariant_of-self-clause-some
invariant_of-self-clause-some c = (without_sound c.args.self.now.seen.entries c.remove.new.self.entries c.args.key.now c.remove.ensures.entries c.args.self.now.ordered c.args.self.now.some).some
