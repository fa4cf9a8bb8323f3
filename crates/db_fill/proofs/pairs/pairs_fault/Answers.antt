use Rattle.std.proofs.Common.{◌≡◌, ℕ, ◌+◌, ◌≤◌, List, [], length, Some, None, sym, ap, ◌∙◌, arith}
use Rattle.std.specs.Prelude.{Option}
use Rattle.std.specs.Option.{option_or}
use Rattle.base_bytes.specs.OrderedMap.{Map, pairs_from}
use Rattle.db_core.specs.declared.fault.DbFault.{DbFault}
use Rattle.db_fill.specs.Filling.{pairs_refusal}
use Rattle.db_fill.proofs.WalkSteps.{from_first, fewer, none_left}
use Rattle.db_fill.proofs.pairs.pairs_fault.Goals as goal

pub loop-init : goal.loop-init
loop-init g c =
    let seen = (g.B.Db.state c.args.from.now).seen in
    record {
      left = pairs_from seen [];
      at = c.walk_from-cursor.ensures;
      few = omega (arith, fewer seen);
      same = sym (ap pairs_refusal (from_first seen));
    }

pub loop-preserved : goal.loop-preserved
loop-preserved g c =
    let inv = c.loop.invariant in
    let at = c.in-Some.ensures inv.left inv.at in
    record {
      left = at.0;
      at = at.2;
      few = omega (arith, inv.few, ap length at.1);
      same = inv.same ∙ ap pairs_refusal at.1 ∙ ap (λ (o : Option DbFault). option_or o (pairs_refusal at.0)) (sym c.pair_fault.ensures ∙ c.in_default-pair_fault.is);
    }

pub returns-in-Some-pair_fault : goal.returns-in-Some-pair_fault
returns-in-Some-pair_fault g c =
    let inv = c.loop.invariant in
    let at = c.in-Some.ensures inv.left inv.at in
    sym (inv.same ∙ ap pairs_refusal at.1 ∙ ap (λ (o : Option DbFault). option_or o (pairs_refusal at.0)) (sym c.pair_fault.ensures ∙ c.in-Some-pair_fault.is))

pub returns-in_default : goal.returns-in_default
returns-in_default g c =
    let inv = c.loop.invariant in
    sym (inv.same ∙ ap pairs_refusal (c.in_default.ensures inv.left inv.at))

pub returns-after-loop : goal.returns-after-loop
returns-after-loop g c =
    let inv = c.loop.invariant in
    let seen = (g.B.Db.state c.args.from.now).seen in
    sym (inv.same ∙ ap pairs_refusal (none_left seen inv.left c.loop.counter (length seen) inv.few (omega (arith, c.count-end.ensures.count))))
