-- CRC-32, bit by bit. Its polynomial without the highest term, bits in reverse order, is EDB88320.
use Rattle.std.specs.Prelude.{ℕ, zero, suc, ◌/◌, ◌%◌, ◌==◌, ◌-◌, ◌^◌, List, [], ◌∷◌, if◌then◌else◌, bit_xor}

-- the register after one step: its lowest bit leaves, and takes the polynomial away where it is 1
unfoldable pub after_bit : ℕ → ℕ
after_bit register = if register % 2 == 1 then bit_xor (register / 2) 0xEDB88320 else register / 2

-- the register after so many steps
unfoldable pub after_bits : ℕ → ℕ → ℕ
after_bits zero register = register
after_bits (suc count) register = after_bits count (after_bit register)

-- the register after one byte, whose lowest bit goes in first
unfoldable pub after_byte : ℕ → ℕ → ℕ
after_byte register byte = after_bits 8 (bit_xor register byte)

-- the register after these bytes
abbrev pub after_bytes : ℕ → List ℕ → ℕ
after_bytes register [] = register
after_bytes register (byte ∷ bytes) = after_bytes (after_byte register byte) bytes

-- a register of 32 ones, and so its start
abbrev pub all_ones : ℕ
all_ones = 2 ^ 32 - 1

-- the check word of these bytes: what the register holds at their end, inverted
abbrev pub check_word : List ℕ → ℕ
check_word bytes = bit_xor (after_bytes all_ones bytes) all_ones
