use Rattle.std.proofs.Common.{◌/◌, sym, ap, ◌∙◌, bit_xor}
use Rattle.check_word.proofs.Linear.{after_byte_by_table}
use Rattle.check_word.proofs.register.after_byte.Goals as goal

pub returns : goal.returns
returns c = ap (bit_xor (c.args.register / 256)) c.look_up.ensures ∙ sym (after_byte_by_table c.args.register c.args.byte)
