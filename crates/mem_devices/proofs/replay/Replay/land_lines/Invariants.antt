use Rattle.std.proofs.Common.{◌≡◌, ◌≤◌, ◌+◌, length, drop}
use Rattle.std.specs.Prelude.{option_map}
use Rattle.mem_devices.specs.Landings.{line_count_of}
use Rattle.mem_devices.specs.Left.{with_lines}
use Rattle.mem_devices.specs.Replay.{left_of, SameMain}
use Rattle.mem_devices.proofs.replay.Replay.land_lines.Given as goal

abbrev pub invariant-loop-rest : goal.invariant-loop-rest
invariant-loop-rest l = record {
  within : l.place + length l.rest ≤ l.self.room;
  left : option_map (with_lines l.place l.rest (drop l.self.used l.landed)) (left_of l.self) ≡ option_map (with_lines l.at l.bytes (drop l.initial.self.used l.landed)) (left_of l.initial.self);
  used : drop (line_count_of l.place (length l.rest)) (drop l.self.used l.landed) ≡ drop (line_count_of l.at (length l.bytes)) (drop l.initial.self.used l.landed);
  main : SameMain l.initial.self l.self;
}

abbrev pub decreases-loop-rest : goal.decreases-loop-rest
decreases-loop-rest l = length l.rest
