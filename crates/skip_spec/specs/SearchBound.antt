-- How many pointers a search may have to read, given the levels of the live records in order.
use Rattle.std.specs.Prelude.{ℕ, zero, suc, ◌+◌, ◌*◌, List, [], ◌∷◌, take, nat_lt, ◌==◌, if◌then◌else◌}

-- how many of these are above a level
abbrev pub count_above : ℕ → List ℕ → ℕ
count_above level [] = 0
count_above level (x ∷ xs) = (if nat_lt level x then 1 else 0) + count_above level xs

-- what stands after the last one above a level; all of them, where none is
abbrev pub after_last : ℕ → List ℕ → List ℕ
after_last level [] = []
after_last level (x ∷ xs) = if count_above level xs == 0 then (if nat_lt level x then xs else x ∷ xs) else after_last level xs

-- The steps along a level to the place of a record: of those before it, how many are above the level and
-- stand after the last one above the next level.
abbrev pub steps_on : List ℕ → ℕ → ℕ → ℕ
steps_on levels place level = count_above level (after_last (level + 1) (take place levels))

-- on the levels from this one down to 1, the steps, and one more on each to find its end
abbrev pub upper_reads : List ℕ → ℕ → ℕ → ℕ
upper_reads levels place zero = 0
upper_reads levels place (suc level) = steps_on levels place (suc level) + 1 + upper_reads levels place level

-- On level zero each record has two slots to read.
abbrev pub search_bound : List ℕ → ℕ → ℕ
search_bound levels place = upper_reads levels place 30 + 2 * (steps_on levels place 0 + 1)
