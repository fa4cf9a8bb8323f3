use Rattle.std.proofs.Common.{length, arith}
use Rattle.skip_spec.specs.Chain.{pairs}
use Rattle.skip_lists.proofs.Ties.{then_leaves, then_up_to}
use Rattle.skip_change.proofs.Dirtied.{dirtied_spot, deleted_is, is_tied, tied_again}
use Rattle.skip_change.proofs.Ended.{tied_up_to}
use Rattle.skip_change.proofs.OnePlace.{spot_at}
use Rattle.skip_change.proofs.transaction.take_out.Goals as goal

pub make_dirty-requires-clause-there : goal.make_dirty-requires-clause-there
make_dirty-requires-clause-there g c = let least = c.requires.spot.1.live.listed.log.least in omega (arith, least)

pub delete-requires-clause-room : goal.delete-requires-clause-room
delete-requires-clause-room g c = omega (arith, c.requires.room, c.make_dirty.ensures.spare)

pub delete-requires-clause-limit : goal.delete-requires-clause-limit
delete-requires-clause-limit g c = omega (arith, c.requires.limit, c.make_dirty.ensures.dirty.long)

pub delete-requires-clause-spot : goal.delete-requires-clause-spot
delete-requires-clause-spot g c = (c.requires.spot.0, dirtied_spot c.args.image.now.bytes c.make_dirty.new.image.bytes c.requires.spot.0 c.args.spot.now c.make_dirty.ensures.dirty c.requires.spot.1)

pub returns-clause-deletes : goal.returns-clause-deletes
returns-clause-deletes g c = λ key found starts es live place some.
    let b = c.args.image.now.bytes in
    let m = c.make_dirty.new.image.bytes in
    let spot = c.args.spot.now in
    let dirty = c.make_dirty.ensures.dirty in
    let s = spot_at b key spot found starts es live place in
    deleted_is b m c.delete.new.image.bytes key spot s dirty (c.in_ok-delete.ensures.deleted key (dirtied_spot b m key spot dirty s))

pub returns-clause-tied : goal.returns-clause-tied
returns-clause-tied g c = λ base says end t.
    let m = c.make_dirty.new.image.bytes in
    let d = g.D.Disk.state c.make_dirty.new.disk in
    let first = c.in_ok-make_dirty.ensures.tied base says t in
    let new = c.delete.new.image.bytes in
    let up = c.delete.ensures.long (length new) (omega arith) (λ i left. let is = tied_up_to base m says d first i left in (is.0, is.1, omega (arith, is.2, c.delete.ensures.length))) in
    tied_again base new says c.args.committed (g.D.Disk.state c.delete.new.disk) (c.in_ok-delete.ensures.tied base says (is_tied base m says c.args.committed d end first)) up.0

pub returns-in_err-make_dirty-clause-moments : goal.returns-in_err-make_dirty-clause-moments
returns-in_err-make_dirty-clause-moments g c = λ base says end t. c.make_dirty.ensures.moments base says t

pub returns-in_err-delete-clause-moments : goal.returns-in_err-delete-clause-moments
returns-in_err-delete-clause-moments g c = λ base says end t.
    let on = g.met.D.Disk.rest_goes_on in
    let m = c.make_dirty.new.image.bytes in
    let d = g.D.Disk.state c.make_dirty.new.disk in
    let first = c.in_ok-make_dirty.ensures.tied base says t in
    then_leaves (pairs says.chain) _ _ _ (on _ _ c.make_dirty.ensures.rest) (on _ _ c.delete.ensures.rest) c.make_dirty.ensures.mark (c.make_dirty.ensures.moments base says t)
    (c.delete.ensures.moments base says (is_tied base m says c.args.committed d end first))

pub returns-clause-moments : goal.returns-clause-moments
returns-clause-moments g c = λ base says end t.
    let on = g.met.D.Disk.rest_goes_on in
    let m = c.make_dirty.new.image.bytes in
    let d = g.D.Disk.state c.make_dirty.new.disk in
    let first = c.in_ok-make_dirty.ensures.tied base says t in
    then_leaves (pairs says.chain) _ _ _ (on _ _ c.make_dirty.ensures.rest) (on _ _ c.delete.ensures.rest) c.make_dirty.ensures.mark (c.make_dirty.ensures.moments base says t)
    (c.delete.ensures.moments base says (is_tied base m says c.args.committed d end first))

pub returns-in_err-make_dirty-clause-long : goal.returns-in_err-make_dirty-clause-long
returns-in_err-make_dirty-clause-long g c = λ most le. c.make_dirty.ensures.long most (omega (arith, le))

pub returns-in_err-delete-clause-long : goal.returns-in_err-delete-clause-long
returns-in_err-delete-clause-long g c = λ most le.
    let on = g.met.D.Disk.rest_goes_on in
    then_up_to most _ _ _ (on _ _ c.make_dirty.ensures.rest) (on _ _ c.delete.ensures.rest) c.make_dirty.ensures.mark (c.make_dirty.ensures.long most (omega (arith, le))) (c.delete.ensures.long most (omega (arith, le, c.delete.ensures.length, c.make_dirty.ensures.dirty.long)))

pub returns-clause-long : goal.returns-clause-long
returns-clause-long g c = λ most le.
    let on = g.met.D.Disk.rest_goes_on in
    then_up_to most _ _ _ (on _ _ c.make_dirty.ensures.rest) (on _ _ c.delete.ensures.rest) c.make_dirty.ensures.mark (c.make_dirty.ensures.long most (omega (arith, le))) (c.delete.ensures.long most (omega (arith, le, c.delete.ensures.length, c.make_dirty.ensures.dirty.long)))

pub returns-in_err-make_dirty-clause-written : goal.returns-in_err-make_dirty-clause-written
returns-in_err-make_dirty-clause-written g c = λ key s. omega (arith, c.make_dirty.ensures.written)

pub returns-in_err-delete-clause-written : goal.returns-in_err-delete-clause-written
returns-in_err-delete-clause-written g c = λ key s.
    let more = c.delete.ensures.written key (dirtied_spot c.args.image.now.bytes c.make_dirty.new.image.bytes key c.args.spot.now c.make_dirty.ensures.dirty s) in
    omega (arith, c.make_dirty.ensures.written, more)

pub returns-clause-written : goal.returns-clause-written
returns-clause-written g c = λ key s.
    let more = c.delete.ensures.written key (dirtied_spot c.args.image.now.bytes c.make_dirty.new.image.bytes key c.args.spot.now c.make_dirty.ensures.dirty s) in
    omega (arith, c.make_dirty.ensures.written, more)

pub returns-in_err-make_dirty-clause-spare : goal.returns-in_err-make_dirty-clause-spare
returns-in_err-make_dirty-clause-spare g c = omega (arith, c.make_dirty.ensures.spare)

pub returns-in_err-delete-clause-spare : goal.returns-in_err-delete-clause-spare
returns-in_err-delete-clause-spare g c = omega (arith, c.make_dirty.ensures.spare, c.delete.ensures.spare)

pub returns-clause-spare : goal.returns-clause-spare
returns-clause-spare g c = omega (arith, c.make_dirty.ensures.spare, c.delete.ensures.spare)
