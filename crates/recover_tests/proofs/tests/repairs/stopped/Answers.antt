use Rattle.mem_devices.specs.Memory.{mem_state}
use Rattle.mem_devices.specs.Left.{left_image}
use Rattle.recover_tests.proofs.Lefts.{stop_kept, left_opens}
use Rattle.recover_tests.proofs.tests.repairs.stopped.Goals as goal

pub repair-requires : goal.repair-requires
repair-requires c = (c.requires.0, stop_kept c.requires.0 c.in_ok-disk.disk c.stop_after.new.self c.stop_after.ensures.same.now (c.in_ok-disk.ensures c.requires.0 c.requires.1))

pub returns : goal.returns
returns c = λ m o.
    left_opens m (left_image c.repair.new.disk c.args.landed.now) (mem_state c.in_ok-left.left) c.in_ok-bytes.bytes.items c.in_ok-left.ensures.disk.reads c.in_ok-bytes.ensures
    (c.repair.ensures m (stop_kept m c.in_ok-disk.disk c.stop_after.new.self c.stop_after.ensures.same.now (c.in_ok-disk.ensures m o)) (left_image c.repair.new.disk c.args.landed.now) c.left.ensures.possible)
