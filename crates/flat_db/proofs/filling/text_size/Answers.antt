use Rattle.std.proofs.Common.{ℕ, [], length, ap, arith}
use Rattle.std.proofs.lemmas.List.{length-append}
use Rattle.base_bytes.specs.OrderedMap.{Map, pairs_from}
use Rattle.db_fill.proofs.WalkSteps.{from_first, fewer, none_left}
use Rattle.flat_db.specs.FlatText.{canonical_text, pair_line}
use Rattle.flat_db.proofs.filling.text_size.Goals as goal

abbrev text_length : Map → ℕ
text_length m = length (canonical_text m)

pub loop-init : goal.loop-init
loop-init g c =
    let seen = (g.B.Db.state c.args.from.now).seen in
    record {
      left = pairs_from seen [];
      at = c.walk_from-cursor.ensures;
      few = omega (arith, fewer seen);
      small = omega arith;
      whole = omega (arith, ap text_length (from_first seen));
    }

pub loop-preserved : goal.loop-preserved
loop-preserved g c =
    let inv = c.loop.invariant in
    let at = c.in-Some.ensures inv.left inv.at in
    record {
      left = at.0;
      at = at.2;
      few = omega (arith, inv.few, ap length at.1);
      small = omega (arith, c.saturating_add-size.ensures);
      whole = omega (arith, inv.small, inv.whole, ap text_length at.1, length-append (pair_line c.in-Some.step.pair.key.now c.in-Some.step.pair.value.now) (canonical_text at.0), c.told_line_size.ensures, c.saturating_add-size.ensures);
    }

pub returns-in_default : goal.returns-in_default
returns-in_default g c =
    let inv = c.loop.invariant in
    omega (arith, inv.small, inv.whole, ap text_length (c.in_default.ensures inv.left inv.at))

pub returns-after-loop : goal.returns-after-loop
returns-after-loop g c =
    let inv = c.loop.invariant in
    let seen = (g.B.Db.state c.args.from.now).seen in
    omega (arith, inv.small, inv.whole, ap text_length (none_left seen inv.left c.loop.counter (length seen) inv.few (omega (arith, c.count-end.ensures.count))))
