use Rattle.mem_devices.specs.Memory.{mem_state, mem_moment}
use Rattle.recover_tests.proofs.Lefts.{opens_here, leaves_after}
use Rattle.recover_tests.proofs.tests.repairs.repair.Goals as goal

pub returns : goal.returns
returns c = λ m h.
    leaves_after m (mem_state c.args.disk.now) (mem_state c.recover.new.disk) c.recover.ensures.rest.time (mem_moment c.recover.new.disk)
    (c.recover.ensures.moments m (opens_here m (mem_state c.args.disk.now) h c.in_ok-image.image.bytes c.in_ok-image.ensures))
