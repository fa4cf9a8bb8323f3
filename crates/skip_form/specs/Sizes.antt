-- How many bytes records take.
use Rattle.std.specs.Prelude.{ℕ, ◌+◌, ◌*◌, ◌/◌}

-- a record's head: type, level and lengths, a pointer more than there are levels, and two check words.
-- A length of the key that does not fit its field would stand before the pointers and count here.
abbrev pub head_size : ℕ → ℕ → ℕ
head_size level key_len = 8 + 8 * (level + 1) + 8

-- the least multiple of 8 that is not below the count
abbrev pub padded : ℕ → ℕ
padded count = (count + 7) / 8 * 8

-- head, key, value and padding
abbrev pub record_size : ℕ → ℕ → ℕ → ℕ
record_size level key_len value_len = head_size level key_len + padded (key_len + value_len)
