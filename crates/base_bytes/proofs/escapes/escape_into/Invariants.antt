use Rattle.std.proofs.Common.{◌≡◌, ◌≤◌, ◌-◌, length, take}
use Rattle.base_bytes.specs.Escapes.{escaped}
use Rattle.base_bytes.proofs.escapes.escape_into.Given as goal

abbrev pub invariant-loop-read : goal.invariant-loop-read
invariant-loop-read l = record {
  read : l.read ≤ length l.bytes;
  written : l.written ≤ length l.into;
  field : take l.written l.into ≡ escaped (take l.read l.bytes);
}

abbrev pub decreases-loop-read : goal.decreases-loop-read
decreases-loop-read l = length l.bytes - l.read
