use Rattle.std.proofs.Common.{◌≡◌, drop}
use Rattle.check_word.specs.CheckWord.{after_bytes}
use Rattle.check_word.proofs.register.after_each.Given as goal

abbrev pub invariant-loop-byte : goal.invariant-loop-byte
invariant-loop-byte l = after_bytes l.register (drop l.byte-index l.bytes) ≡ after_bytes l.fn.register l.bytes
