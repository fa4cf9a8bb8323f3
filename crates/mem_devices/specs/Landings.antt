-- Landings: how many a write makes, and how many come before a stop.
use Rattle.std.specs.Prelude.{ℕ, zero, suc, ◌+◌, ◌-◌, ◌*◌, ◌/◌, ◌<◌, min, Option, Some, None}

-- how many lines these bytes touch, by their offset and number
abbrev pub line_count_of : ℕ → ℕ → ℕ
line_count_of at zero = 0
line_count_of at (suc n) = (at + n) / 64 - at / 64 + 1

-- how many of so many bytes lie in the first of their lines, so many
abbrev pub first_bytes_of : ℕ → ℕ → ℕ → ℕ
first_bytes_of at size zero = 0
first_bytes_of at size (suc n) = min size (64 * (at / 64 + suc n) - at)

-- how many of so many further landings come before the stop
abbrev pub landings_before : Option ℕ → ℕ → ℕ → ℕ
landings_before None made count = count
landings_before (Some stop) made count = min count (stop - made)

-- so many landings pass the stop
abbrev pub PassesStop : Option ℕ → ℕ → Type 0
PassesStop None landings = ⊥
PassesStop (Some stop) landings = stop < landings
