use Rattle.std.proofs.Common.{arith}
use Rattle.skip_spec.proofs.Flawless.{front_right, row_stands}
use Rattle.skip_image.proofs.Verified.{is_verified}
use Rattle.skip_image.proofs.verify.examine.Goals as goal

pub check_rows-requires-clause-room : goal.check_rows-requires-clause-room
check_rows-requires-clause-room c =
    let inside = (front_right c.args.file.now c.in_ok-log.ensures.finds).inside in
    omega (arith, inside, c.requires.room, c.clear.ensures.size)

pub check_dummy-requires-clause-there : goal.check_dummy-requires-clause-there
check_dummy-requires-clause-there c =
    row_stands c.args.file.now 64 (λ i. omega (arith, c.type_inv.file i)) (front_right c.args.file.now c.in_ok-log.ensures.finds).dummy

pub check_list-requires-clause-room : goal.check_list-requires-clause-room
check_list-requires-clause-room c =
    let inside = (front_right c.args.file.now c.in_ok-log.ensures.finds).inside in
    omega (arith, inside, c.in_ok-log.ensures.log.end, c.requires.room, c.clear.ensures.size, c.check_rows.ensures.size)

pub returns-clause-verified : goal.returns-clause-verified
returns-clause-verified c =
    let file = c.args.file.now in
    let m = c.in_ok-check_rows.ensures.right in
    is_verified file (λ i. omega (arith, c.type_inv.file i)) (front_right file c.in_ok-log.ensures.finds) m.0 m.1.0 c.in_ok-check_dummy.ensures c.in_ok-count.count (c.in_ok-count.ensures.list m.0 m.1) c.in_ok-log.log.dirty c.in_ok-log.ensures.log.dirty
