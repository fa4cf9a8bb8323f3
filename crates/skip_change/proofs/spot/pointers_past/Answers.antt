use Rattle.std.proofs.Common.{◌≡◌, ℕ, ◌+◌, get_or, set, sym, ap, subst, ◌∙◌, inl, inr, arith}
use Rattle.std.proofs.lemmas.Bool.{cases_eq}
use Rattle.std.proofs.lemmas.List.{get_or-set_same, get_or-set_other, length-set}
use Rattle.skip_spec.specs.Change.{first_at}
use Rattle.skip_spec.specs.Opens.{on_level}
use Rattle.skip_lists.specs.Levels.{ArePast}
use Rattle.skip_change.proofs.spot.pointers_past.Goals as goal

pub loop-level-preserved : goal.loop-level-preserved
loop-level-preserved c = record {
  long = length-set c.loop-level.pointers (c.loop-level.level + 1) c.pointer_past.result ∙ c.loop-level.invariant.long;
  past = λ key s.
      let old = c.loop-level.invariant.past key s in
      let n = c.loop-level.level in
      let ps = c.loop-level.pointers in
      record {
        zero_is = get_or-set_other ps (n + 1) 0 c.pointer_past.result 0 (λ e. omega (arith, e)) ∙ old.zero_is;
        one_is = get_or-set_other ps (n + 1) 1 c.pointer_past.result 0 (λ e. omega (arith, e, c.loop-level.auto.level)) ∙ old.one_is;
        upper = λ level low lt. elim (cases_eq level n) [
          | inl e ↦ ap (λ (m : ℕ). get_or (set ps (n + 1) c.pointer_past.result) (m + 1) 0) e ∙ get_or-set_same ps (n + 1) c.pointer_past.result 0 (omega (arith, c.loop-level.invariant.long, c.loop-level-test.true, c.requires.height)) ∙ c.pointer_past.ensures key s ∙ ap (λ (m : ℕ). first_at (on_level m s.found.place.rest)) (sym e)
          | inr ne ↦ get_or-set_other ps (n + 1) (level + 1) c.pointer_past.result 0 (λ e. ne (omega (arith, e))) ∙ old.upper level low (grind (arith, ne))
        ];
      };
}

pub returns : goal.returns
returns c = λ key s.
    let e : c.loop-level.level ≡ c.args.height = omega (arith, c.loop-level-test.false, c.loop-level.auto.level-end, c.requires.low) in
    subst (λ (n : ℕ). ArePast c.loop-level.pointers s.found.place.rest n) e (c.loop-level.invariant.past key s)
