-- The changes of an exercise, by their numbers.
use Rattle.std.specs.Prelude.{ℕ, ◌+◌, ◌*◌, ◌/◌, ◌%◌, ◌==◌, Bool, List, [], ◌∷◌, decimal, slice_index, if◌then◌else◌}
use Rattle.hex.specs.Hex.{lower_digits}
use Rattle.base_bytes.specs.Transactions.{Transaction}
use Rattle.base_bytes.specs.declared.change.Change.{Change}
use Rattle.base_bytes.specs.declared.change.Change.TheVariants.{Put, Del}
use Rattle.rand_core.specs.Stream.{Stream, next_u32}

-- a number spread over 32 bits
abbrev pub spread_of : ℕ → ℕ
spread_of number = number * 2654435761 % 4294967296

abbrev pub hex_digit : ℕ → ℕ
hex_digit number = slice_index lower_digits number

-- `k` and three digits
abbrev pub key_text : ℕ → List ℕ
key_text head = 107 ∷ hex_digit (head / 256) ∷ hex_digit (head / 16 % 16) ∷ hex_digit (head % 16) ∷ []

-- the key of a change: its digits are the twelve highest bits
abbrev pub key_of : ℕ → List ℕ
key_of number = key_text (spread_of number / 1048576)

-- about every eighth change takes its key out
abbrev pub deletes : ℕ → Bool
deletes number = spread_of number / 256 % 8 == 0

-- the change of this number, with the random word that is drawn for it
unfoldable pub change_at : ℕ → ℕ → Change
change_at number word = if deletes number then Del (key_of number) else Put word (key_of number) (decimal number)

-- ---- random words: a store draws one, a delete none

unfoldable pub words_behind : ℕ → Stream → Stream
words_behind number words = if deletes number then words else (next_u32 words).1

unfoldable pub words_of : ℕ → ℕ
words_of number = if deletes number then 0 else 1

-- ---- four changes are one transaction

unfoldable pub transaction_at : ℕ → Stream → Transaction
transaction_at round words =
    let first = 4 * round in
    let second = words_behind first words in
    let third = words_behind (first + 1) second in
    let fourth = words_behind (first + 2) third in
    change_at first (next_u32 words).0 ∷ change_at (first + 1) (next_u32 second).0
    ∷ change_at (first + 2) (next_u32 third).0 ∷ change_at (first + 3) (next_u32 fourth).0 ∷ []

-- the words that are left behind it, and how many it draws
unfoldable pub words_left : ℕ → Stream → Stream
words_left round words = let first = 4 * round in words_behind (first + 3) (words_behind (first + 2) (words_behind (first + 1) (words_behind first words)))

unfoldable pub words_in : ℕ → ℕ
words_in round = let first = 4 * round in words_of first + words_of (first + 1) + words_of (first + 2) + words_of (first + 3)
