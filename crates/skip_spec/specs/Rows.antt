-- The log of a file: its records, back to back.
use Rattle.std.specs.Prelude.{◌≡◌, ℕ, ◌+◌, List, [], ◌∷◌, ◌⊎◌}
use Rattle.skip_form.specs.Flaws.{head_in}
use Rattle.skip_form.specs.Spelling.{StandsAt}

-- the offset is one of these
abbrev pub IsAmong : List ℕ → ℕ → Type 0
IsAmong [] at = ⊥
IsAmong (first ∷ others) at = (first ≡ at) ⊎ IsAmong others at

-- records stand back to back at just these offsets, from one place to another
abbrev pub Rows : List ℕ → ℕ → List ℕ → ℕ → Type 0
Rows file from [] to = from ≡ to
Rows file from (start ∷ starts) to =
    (start ≡ from) × StandsAt file from (head_in file from) × Rows file (from + (head_in file from).size) starts to
