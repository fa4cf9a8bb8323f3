use Rattle.std.proofs.Common.{◌≡◌, length}
use Rattle.mem_devices.specs.CallLog.{log_steps}
use Rattle.mem_devices.specs.History.{given_image, moment_after, first_moment}
use Rattle.mem_devices.proofs.ToPlay.{ToPlay}
use Rattle.mem_devices.proofs.replay.Replay.of_log.Given as goal

abbrev pub invariant-loop-event : goal.invariant-loop-event
invariant-loop-event l = record {
  room : l.replay.room ≡ l.log.room;
  plays : ToPlay l.landed (moment_after (first_moment (given_image l.start)) (log_steps l.log)) l.replay l.events l.bytes;
}

abbrev pub decreases-loop-event : goal.decreases-loop-event
decreases-loop-event l = length l.events
