-- What a put and a delete do to the list of live records: in the new file some heads lead on elsewhere,
-- and records were appended.
use Rattle.std.specs.Prelude.{◌≡◌, ◌≢◌, ℕ, ◌+◌, ◌-◌, ◌<◌, ◌≤◌, List, [], ◌∷◌, ◌++◌, length, map, slice_index, ◌⊎◌}
use Rattle.skip_form.specs.Flaws.{head_in}
use Rattle.skip_form.specs.Spelling.{StandsAt}
use Rattle.skip_spec.specs.Records.{head_size_of}
use Rattle.skip_spec.specs.Rows.{IsAmong, Rows}
use Rattle.skip_spec.specs.Successor.{IsPointerUnder}
use Rattle.skip_spec.specs.Chain.{Entry, Chain}

-- where the dummy and these records begin
abbrev pub heads_of : List Entry → List ℕ
heads_of es = 64 ∷ map (λ e. e.at) es

-- where the last of these records begins; where there is none, the offset given
abbrev pub last_at : ℕ → List Entry → ℕ
last_at at [] = at
last_at at (e ∷ es) = last_at e.at es

-- the key of the last of these records; where there is none, the key given
abbrev pub last_key : List ℕ → List Entry → List ℕ
last_key key [] = key
last_key key (e ∷ es) = last_key e.key es

-- where the first of these records begins, or 0
abbrev pub first_at : List Entry → ℕ
first_at [] = 0
first_at (e ∷ es) = e.at

-- the byte at i is of no pointer of the record at an offset, and not of its head check
abbrev pub IsOutsideLinks : List ℕ → ℕ → ℕ → Type 0
IsOutsideLinks file at i = (i < at + 8) ⊎ (at + (head_size_of (head_in file at) - 4) ≤ i)

-- The old file's list is read under one bound, the new file's under another, and up to an end the old
-- file's records stay as they are, but for the pointers and head checks of the dummy and of live records.
-- All of these but the last of the front lead on as before.
pub record Changes (old new : List ℕ) (bound bound' end : ℕ) (starts starts' : List ℕ) (front dropped rest : List Entry) : Type 0 where
  pub dummy : StandsAt old 64 (head_in old 64)
  pub rows : Rows old 336 starts end
  pub chain : Chain old bound starts 64 [] (front ++ (dropped ++ rest))
  pub starts_stay : (at : ℕ) → IsAmong starts at → IsAmong starts' at
  pub old_long : end ≤ length old
  pub new_long : end ≤ length new
  pub others : (i : ℕ) → 64 ≤ i → i < end
      → ((head : ℕ) → IsAmong (heads_of (front ++ (dropped ++ rest))) head → IsOutsideLinks old head i)
      → slice_index new i ≡ slice_index old i
  pub pointers : (head pointer : ℕ) → IsAmong (heads_of (front ++ (dropped ++ rest))) head → head ≢ last_at 64 front
      → IsPointerUnder old bound head pointer → IsPointerUnder new bound' head pointer
