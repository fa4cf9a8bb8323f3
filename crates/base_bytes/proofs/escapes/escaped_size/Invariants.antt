use Rattle.std.proofs.Common.{◌≡◌, ◌≤◌, ◌*◌, length, take}
use Rattle.base_bytes.specs.Escapes.{escaped}
use Rattle.base_bytes.proofs.escapes.escaped_size.Given as goal

abbrev pub invariant-loop-byte : goal.invariant-loop-byte
invariant-loop-byte l = record {
  counted : l.size ≡ length (escaped (take l.byte-index l.bytes));
  bound : l.size ≤ 2 * l.byte-index;
}
