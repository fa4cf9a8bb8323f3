use Rattle.std.proofs.Common.{length, ap, arith}
use Rattle.skip_txn.proofs.Changed.{spot_of_place, none_there, one_there, parts_long}
use Rattle.skip_txn.proofs.place.count_with.Goals as goal

pub overflow_add-result : goal.overflow_add-result
overflow_add-result c = record { fits = omega (arith, c.requires.few) }

pub returns-then-spot-eq0 : goal.returns-then-spot-eq0
returns-then-spot-eq0 c = λ key place s.
    let t = spot_of_place c.args.image.now.bytes key c.args.spot.now s place in
    let none = none_there c.args.image.now.bytes key c.args.spot.now t c.if-spot-eq0.true in
    omega (arith, c.requires.counted, parts_long _ key place, ap length none)

pub returns-else-spot-eq0 : goal.returns-else-spot-eq0
returns-else-spot-eq0 c = λ key place s.
    let t = spot_of_place c.args.image.now.bytes key c.args.spot.now s place in
    let one = one_there c.args.image.now.bytes key c.args.spot.now t c.if-spot-eq0.false in
    omega (arith, c.requires.counted, parts_long _ key place, ap length one.1)
