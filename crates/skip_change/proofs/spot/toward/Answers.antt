use Rattle.std.proofs.Common.{ℕ, ◌+◌, get_or, set, ap, ◌∙◌, inl, inr, arith}
use Rattle.std.proofs.lemmas.Bool.{cases_eq}
use Rattle.std.proofs.lemmas.List.{get_or-set_same, get_or-set_other, length-set}
use Rattle.skip_change.proofs.spot.toward.Goals as goal

pub loop-i-preserved : goal.loop-i-preserved
loop-i-preserved c =
    let n = c.loop-i.i in
    let ps = c.loop-i.leads in
    record {
      long = length-set ps (n + 1) c.args.to ∙ c.loop-i.invariant.long;
      low = λ j from lt. elim (cases_eq j n) [
        | inl e ↦ ap (λ (m : ℕ). get_or (set ps (n + 1) c.args.to) (m + 1) 0) e ∙ get_or-set_same ps (n + 1) c.args.to 0 (omega (arith, c.loop-i.invariant.long, c.loop-i-test.true, c.requires.level))
        | inr ne ↦ get_or-set_other ps (n + 1) (j + 1) c.args.to 0 (λ e. ne (omega (arith, e))) ∙ c.loop-i.invariant.low j from (grind (arith, ne))
      ];
      high = λ j le. get_or-set_other ps (n + 1) (j + 1) c.args.to 0 (λ e. omega (arith, e, le)) ∙ c.loop-i.invariant.high j (omega (arith, le));
    }

pub returns-clause-high : goal.returns-clause-high
returns-clause-high c = λ i le low. c.loop-i.invariant.high i (omega (arith, le, low, c.loop-i-test.false, c.loop-i.auto.i-end, c.loop-i.auto.i, c.requires.low))
