use Rattle.std.proofs.Common.{◌≡◌, List, ℕ, [], ◌∷◌, ◌++◌, length, sym, ap, subst, ◌∙◌, append_assoc, arith}
use Rattle.base_bytes.specs.OrderedMap.{Map, pairs_from}
use Rattle.db_fill.proofs.WalkSteps.{walks_from, walks_on, walks_out, fewer, none_left}
use Rattle.db_tool.proofs.PrefixLemmas.{shown_more}
use Rattle.db_tool.specs.Printing.{pair_text, shown}
use Rattle.sha1.specs.Sha1.{Holds, sha1}
use Rattle.db_exercise.proofs.report.digest_of.Goals.{else-loop-test, then-loop-test+in_default}
use Rattle.db_exercise.proofs.report.digest_of.Goals as goal

pub loop-init : goal.loop-init
loop-init g c =
    let seen = (g.B.Db.state c.args.db.now).seen in
    record {
      done = [];
      left = pairs_from seen [];
      at = c.walk_from-cursor.ensures;
      walked = walks_from seen;
      few = omega (arith, fewer seen);
      holds = c.new-digest.ensures;
    }

-- a pair's four parts behind what was shown
in_parts : (done key value : List ℕ) → (((done ++ key) ++ (9 ∷ [])) ++ value) ++ (10 ∷ []) ≡ done ++ pair_text (key, value)
in_parts done key value =
    append_assoc ((done ++ key) ++ (9 ∷ [])) value (10 ∷ []) ∙ append_assoc (done ++ key) (9 ∷ []) (value ++ (10 ∷ [])) ∙ append_assoc done key (9 ∷ (value ++ (10 ∷ [])))

pub loop-preserved : goal.loop-preserved
loop-preserved g c =
    let inv = c.loop.invariant in
    let seen = (g.B.Db.state c.args.db.now).seen in
    let key = c.in-Some.step.pair.key.now in
    let value = c.in-Some.step.pair.value.now in
    let at = c.in-Some.ensures inv.left inv.at in
    record {
      done = inv.done ++ ((key, value) ∷ []);
      left = at.0;
      at = at.2;
      walked = walks_on seen inv.done inv.left at.0 (key, value) inv.walked at.1;
      few = omega (arith, inv.few, ap length at.1);
      holds = subst (λ (l : List ℕ). Holds c.update-in-loop-3.new.self l) (in_parts (shown inv.done) key value ∙ sym (shown_more inv.done (key, value)))
          (c.update-in-loop-3.ensures _ (c.update-in-loop-2.ensures _ (c.update-in-loop.ensures _ (c.update.ensures _ inv.holds))));
    }

-- the walk ends where no pair is left, or behind as many as there are
pub returns : goal.returns
returns g c =
    let inv = c.loop.invariant in
    let seen = (g.B.Db.state c.args.db.now).seen in
    let none : inv.left ≡ [] = elim c.loop-test.branch [
      | else-loop-test w ↦ none_left seen inv.left c.loop.counter (length seen) inv.few (omega (arith, c.count-end.ensures.count, w.loop-test.false))
      | then-loop-test+in_default w ↦ w.in_default.ensures inv.left inv.at
    ] in
    c.finalize.ensures _ inv.holds ∙ ap (λ (m : Map). sha1 (shown m)) (walks_out seen inv.done inv.left inv.walked none)
