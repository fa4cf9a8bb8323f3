use Rattle.std.proofs.Common.{◌≡◌, ◌≤◌, ◌∙◌, ℕ, List, None, false, length, sym, ap, subst, arith}
use Rattle.base_bytes.specs.OrderedMap.{Map, put}
use Rattle.db_core.specs.Refusals.{store_refusal, pair_refusal}
use Rattle.flat_db.specs.FlatText.{canonical_text}
use Rattle.flat_db.specs.Kept.{map_among}
use Rattle.flat_db.specs.Sessions.{FlatSession, flat_kind, flat_state, session_of, IsSession}
use Rattle.flat_db.specs.declared.session.Stage.{Stage}
use Rattle.flat_db.proofs.SessionLemmas.{session_changed, session_same, seen_same, seen_is, seen_stored, store_owed, within_limit}
use Rattle.flat_db.proofs.session.FlatDb.put_pair.Goals as goal

-- nothing is owed where the pair's sizes are right and the text fits
nothing_owed : (bytes slice key value : List ℕ) (seen : _) (stage : Stage) (s : FlatSession) (size : ℕ) → session_of bytes seen stage ≡ s → (flat_state s).is_broken ≡ false → slice ≡ bytes → pair_refusal key value ≡ None
    → size ≡ length (canonical_text (put (map_among slice seen) key value)) → size ≤ 67108864 → store_refusal flat_kind (flat_state s) 0 key value ≡ None
nothing_owed bytes slice key value seen stage s size view sound same right counted fits =
    store_owed (flat_state s) 0 key value sound right
    ∙ within_limit size _ (counted ∙ ap (λ (l : List ℕ). length (canonical_text (put (map_among l seen) key value))) same ∙ ap (λ (m : Map). length (canonical_text (put m key value))) (seen_is bytes seen stage s view sound)) fits

pub invariant_of-self : goal.invariant_of-self
invariant_of-self c =
    session_same c.self.inside.bytes.items c.put.new.bytes.items c.put.ensures.grown.0 c.self.inside.seen c.put.new.self c.self.inside.stage c.put.ensures.grown.1 c.put.ensures.short c.put.ensures.kept c.in_default-put.ensures.same c.self.invariant

pub returns-in_default-put-clause-answer : goal.returns-in_default-put-clause-answer
returns-in_default-put-clause-answer c = record {
  ok = tt;
  done = tt;
  refused = nothing_owed c.self.inside.bytes.items c.deref.result.now c.args.key.now c.args.value.now c.self.inside.seen c.self.inside.stage c.args.self.now c.size_with-size.result c.self.view_is (sym c.is_broken.ensures ∙ c.if-is_broken.false) c.deref.ensures.value
      (sym c.pair_fault.ensures ∙ c.in_default.is) c.size_with-size.ensures c.if-size-gt-FLAT_LIMIT.false;
  after = ap flat_state (seen_same c.self.inside.bytes.items c.put.new.bytes.items c.put.ensures.grown.0 c.self.inside.seen c.put.new.self c.self.inside.stage c.put.ensures.grown.1 c.in_default-put.ensures.same c.self.invariant ∙ c.self.view_is);
}

pub invariant_of-self-2 : goal.invariant_of-self-2
invariant_of-self-2 c =
    subst (IsSession c.put.new.bytes.items c.put.new.self) (sym c.note_change.ensures)
    (session_changed c.self.inside.bytes.items c.put.new.bytes.items c.put.ensures.grown.0 c.self.inside.seen c.put.new.self c.self.inside.stage c.put.ensures.grown.1 c.put.ensures.short c.put.ensures.kept (omega (arith, c.in-Ok.ensures.size)) c.self.invariant)

pub returns-clause-answer : goal.returns-clause-answer
returns-clause-answer c = record {
  ok = nothing_owed c.self.inside.bytes.items c.deref.result.now c.args.key.now c.args.value.now c.self.inside.seen c.self.inside.stage c.args.self.now c.size_with-size.result c.self.view_is (sym c.is_broken.ensures ∙ c.if-is_broken.false) c.deref.ensures.value
      (sym c.pair_fault.ensures ∙ c.in_default.is) c.size_with-size.ensures c.if-size-gt-FLAT_LIMIT.false;
  done = ap (λ (t : Stage). flat_state (session_of c.put.new.bytes.items c.put.new.self t)) c.note_change.ensures
      ∙ seen_stored c.self.inside.bytes.items c.put.new.bytes.items c.put.ensures.grown.0 c.self.inside.seen c.put.new.self c.self.inside.stage c.args.self.now 0 c.args.key.now c.args.value.now c.self.view_is
      (c.requires (sym c.is_broken.ensures ∙ c.if-is_broken.false)) c.put.ensures.grown.1 c.self.invariant c.in-Ok.ensures.done;
  refused = tt;
  after = tt;
}
