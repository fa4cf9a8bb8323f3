use Rattle.std.proofs.Common.{◌≡◌, ◌∙◌, List, ℕ, length, refl, sym, ap, subst}
use Rattle.std.specs.List.{remove}
use Rattle.std.specs.Prelude.{is_some}
use Rattle.base_bytes.specs.OrderedMap.{Map, value_at, without}
use Rattle.flat_db.specs.FlatText.{canonical_text}
use Rattle.flat_db.specs.Kept.{IsKept, map_among}
use Rattle.flat_db.specs.Places.{HasKeyAt}
use Rattle.flat_db.specs.Sessions.{flat_state, session_of, IsSession}
use Rattle.flat_db.specs.declared.pairs.Pairs.{Pairs}
use Rattle.flat_db.specs.declared.session.Stage.{Stage}
use Rattle.flat_db.proofs.PairLemmas.{without_kept}
use Rattle.flat_db.proofs.SessionLemmas.{session_still, seen_is, seen_deleted, deleted_absent, delete_owed, delete_free, within_limit, over_limit, key_is_there, key_is_absent, size_then}
use Rattle.flat_db.proofs.session.FlatDb.take_out.Goals as goal

pub returns-in_default-clause-was_there : goal.returns-in_default-clause-was_there
returns-in_default-clause-was_there c =
    sym (key_is_absent c.self.inside.bytes.items c.deref.result.now c.args.key.now c.self.inside.seen c.self.inside.stage c.args.self.now c.in_default.field-0 c.self.view_is (sym c.is_broken.ensures ∙ c.if-is_broken.false) c.deref.ensures.value c.in_default.ensures.between c.self.invariant)

pub returns-in_default-clause-answer : goal.returns-in_default-clause-answer
returns-in_default-clause-answer c =
    let none = sym (returns-in_default-clause-was_there c) in
    record {
      ok = delete_free (flat_state c.args.self.now) c.args.key.now (sym c.is_broken.ensures ∙ c.if-is_broken.false) none;
      done = deleted_absent (flat_state c.args.self.now) c.args.key.now none;
      refused = tt;
      after = tt;
    }

pub returns-then-size-gt-FLAT_LIMIT-clause-answer : goal.returns-then-size-gt-FLAT_LIMIT-clause-answer
returns-then-size-gt-FLAT_LIMIT-clause-answer c =
    let sound = sym c.is_broken.ensures ∙ c.if-is_broken.false in
    let has = c.in-Ok.ensures.own in
    let there = key_is_there c.self.inside.bytes.items c.deref.result.now c.args.key.now c.self.inside.seen c.self.inside.stage c.args.self.now c.in-Ok.place c.self.view_is sound c.deref.ensures.value has in
    let size = size_then c.self.inside.bytes.items c.deref.result.now c.args.key.now c.self.inside.seen c.self.inside.stage c.args.self.now c.in-Ok.place c.self.view_is sound c.deref.ensures.value c.size_without-size.result
    (subst (λ (l : List ℕ). HasKeyAt c.args.key.now (map_among l c.self.inside.seen) c.in-Ok.place → c.size_without-size.result ≡ length (canonical_text (without (map_among l c.self.inside.seen) c.args.key.now))) (c.deref-2.ensures.value ∙ sym c.deref.ensures.value) (c.size_without-size.ensures c.args.key.now) has) in
    record {
      ok = tt;
      done = tt;
      refused = delete_owed (flat_state c.args.self.now) c.args.key.now sound there ∙ over_limit c.size_without-size.result _ size c.if-size-gt-FLAT_LIMIT.true;
      after = refl;
    }

pub returns-clause-was_there : goal.returns-clause-was_there
returns-clause-was_there c =
    sym (key_is_there c.self.inside.bytes.items c.deref.result.now c.args.key.now c.self.inside.seen c.self.inside.stage c.args.self.now c.in-Ok.place c.self.view_is (sym c.is_broken.ensures ∙ c.if-is_broken.false) c.deref.ensures.value c.in-Ok.ensures.own)

-- the pairs without the key's own, among the session's bytes
kept_without : (bytes slice other key : List ℕ) (seen later : Pairs) (place : ℕ) → IsKept bytes seen → slice ≡ bytes → other ≡ bytes → HasKeyAt key (map_among slice seen) place → later.entries.items ≡ remove seen.entries.items place
    → ((k : List ℕ) → HasKeyAt k (map_among other seen) place → later.size ≡ length (canonical_text (without (map_among other seen) k))) → IsKept bytes later × (map_among bytes later ≡ without (map_among bytes seen) key)
kept_without bytes slice other key seen later place kept same also has removed sized =
    let own = subst (λ (l : List ℕ). HasKeyAt key (map_among l seen) place) same has in
    without_kept bytes key seen later place kept own removed (subst (λ (l : List ℕ). (k : List ℕ) → HasKeyAt k (map_among l seen) place → later.size ≡ length (canonical_text (without (map_among l seen) k))) also sized key own)

pub invariant_of-self : goal.invariant_of-self
invariant_of-self c =
    let kept = kept_without c.self.inside.bytes.items c.deref.result.now c.deref-2.result.now c.args.key.now c.self.inside.seen (record { entries = c.remove.new.self; size = c.size_without-size.result }) c.in-Ok.place c.self.invariant.kept c.deref.ensures.value c.deref-2.ensures.value
    c.in-Ok.ensures.own c.remove.ensures.items c.size_without-size.ensures in
    subst (IsSession c.self.inside.bytes.items (record { entries = c.remove.new.self; size = c.size_without-size.result })) (sym c.note_change.ensures)
    (session_still c.self.inside.bytes.items c.self.inside.seen _ c.self.inside.stage kept.0 c.if-size-gt-FLAT_LIMIT.false c.self.invariant)

pub returns-clause-answer : goal.returns-clause-answer
returns-clause-answer c =
    let sound = sym c.is_broken.ensures ∙ c.if-is_broken.false in
    let bytes = c.self.inside.bytes.items in
    let key = c.args.key.now in
    let has = c.in-Ok.ensures.own in
    let there = key_is_there bytes c.deref.result.now key c.self.inside.seen c.self.inside.stage c.args.self.now c.in-Ok.place c.self.view_is sound c.deref.ensures.value has in
    let size = size_then bytes c.deref.result.now key c.self.inside.seen c.self.inside.stage c.args.self.now c.in-Ok.place c.self.view_is sound c.deref.ensures.value c.size_without-size.result
    (subst (λ (l : List ℕ). HasKeyAt key (map_among l c.self.inside.seen) c.in-Ok.place → c.size_without-size.result ≡ length (canonical_text (without (map_among l c.self.inside.seen) key))) (c.deref-2.ensures.value ∙ sym c.deref.ensures.value) (c.size_without-size.ensures key) has) in
    let kept = kept_without bytes c.deref.result.now c.deref-2.result.now key c.self.inside.seen (record { entries = c.remove.new.self; size = c.size_without-size.result }) c.in-Ok.place c.self.invariant.kept c.deref.ensures.value c.deref-2.ensures.value
    has c.remove.ensures.items c.size_without-size.ensures in
    record {
      ok = delete_owed (flat_state c.args.self.now) key sound there ∙ within_limit c.size_without-size.result _ size c.if-size-gt-FLAT_LIMIT.false;
      done = ap (λ (t : Stage). flat_state (session_of bytes (record { entries = c.remove.new.self; size = c.size_without-size.result }) t)) c.note_change.ensures
          ∙ seen_deleted bytes c.self.inside.seen (record { entries = c.remove.new.self; size = c.size_without-size.result }) c.self.inside.stage c.args.self.now key c.self.view_is (c.requires sound)
          (ap (λ (m : Map). is_some (value_at m key)) (seen_is bytes c.self.inside.seen c.self.inside.stage c.args.self.now c.self.view_is sound) ∙ there) kept.1;
      refused = tt;
      after = tt;
    }
