use Rattle.std.proofs.Common.{arith}
use Rattle.skip_change.proofs.Spotted.{found_slots, found_height, no_height}
use Rattle.skip_change.proofs.spot.height_at.Goals as goal

pub returns-then-spot-eq0-clause-exact : goal.returns-then-spot-eq0-clause-exact
returns-then-spot-eq0-clause-exact c = λ key s.
    let none = no_height c.args.bytes.now key c.args.spot.now s (omega (arith, c.if-spot-eq0.true)) in
    omega (arith, none)

pub level_at-requires : goal.level_at-requires
level_at-requires c = record { there = found_slots c.args.bytes.now c.requires.spot.0 c.args.spot.now c.requires.spot.1 (λ e. c.if-spot-eq0.false e) }

pub returns-clause-exact : goal.returns-clause-exact
returns-clause-exact c = λ key s.
    let here = found_height c.args.bytes.now key c.args.spot.now s (λ e. c.if-spot-eq0.false e) in
    omega (arith, here, c.level_at.ensures)

pub returns-clause-high : goal.returns-clause-high
returns-clause-high c =
    let there = found_slots c.args.bytes.now c.requires.spot.0 c.args.spot.now c.requires.spot.1 (λ e. c.if-spot-eq0.false e) in
    omega (arith, there.high, c.level_at.ensures, c.requires.level)
