-- Heads of a base that is repaired: slots that lead elsewhere, and heads that are made tidy.
use Rattle.std.specs.Prelude.{◌≡◌, ◌≢◌, ◌⊎◌, ℕ, ◌+◌, ◌<◌, ◌≤◌, List, slice_index}
use Rattle.skip_form.specs.Fields.{pointer_in}
use Rattle.skip_form.specs.Flaws.{head_in}
use Rattle.skip_spec.specs.Records.{HeadCheckIsRight}
use Rattle.skip_spec.specs.Rows.{IsAmong}
use Rattle.skip_spec.specs.Opens.{Contents, IsTidyHead}
use Rattle.skip_spec.specs.Near.{heads}

-- a head of the base has this slot
abbrev pub HasSlot : List ℕ → Contents → ℕ → ℕ → Type 0
HasSlot base says head slot = IsAmong (heads says) head × (slot ≤ (head_in base head).level)

-- on each level from 1 on, below a height, this is a head of the base that has the level's pointer
abbrev pub HaveSlots : List ℕ → Contents → List ℕ → ℕ → Type 0
HaveSlots base says last height = (i : ℕ) → 1 ≤ i → i < height → HasSlot base says (slice_index last i) (i + 1)

-- In the new file a slot leads to an offset. The other slots of all heads stay, and so do right head checks.
pub record LeadsSlot (base : List ℕ) (says : Contents) (old new : List ℕ) (at slot to : ℕ) : Type 0 where
  pub there : pointer_in new at slot ≡ to
  pub others : (head i : ℕ) → HasSlot base says head i → (head ≢ at) ⊎ (i ≢ slot) → pointer_in new head i ≡ pointer_in old head i
  pub checks : (head : ℕ) → IsAmong (heads says) head → HeadCheckIsRight old head → HeadCheckIsRight new head

-- In the new file the given heads, one on each level below a height, lead to an offset. The other slots of all
-- heads stay, and so do right head checks.
pub record LeadsLast (base : List ℕ) (says : Contents) (old new last : List ℕ) (height to : ℕ) : Type 0 where
  pub done : (i : ℕ) → 1 ≤ i → i < height → pointer_in new (slice_index last i) (i + 1) ≡ to
  pub others : (head i : ℕ) → HasSlot base says head (i + 1) → (i ≡ 0) ⊎ ((height ≤ i) ⊎ (head ≢ slice_index last i)) → pointer_in new head (i + 1) ≡ pointer_in old head (i + 1)
  pub firsts : (head : ℕ) → IsAmong (heads says) head → pointer_in new head 0 ≡ pointer_in old head 0
  pub checks : (head : ℕ) → IsAmong (heads says) head → HeadCheckIsRight old head → HeadCheckIsRight new head

-- A level-zero slot that has to be written for the head to be tidy: one at or past the end, or the first where
-- both are below it and the head check is wrong.
abbrev pub IsLoose : List ℕ → ℕ → ℕ → ℕ → Type 0
IsLoose file end at slot =
    ((slot ≡ 0) × (end ≤ pointer_in file at 0))
    ⊎ (((slot ≡ 1) × (end ≤ pointer_in file at 1))
    ⊎ ((slot ≡ 0) × (pointer_in file at 0 < end) × (pointer_in file at 1 < end)))

-- The head at an offset is tidy, each that was is still, and the upper pointers stay.
pub record Mended (base : List ℕ) (says : Contents) (old new : List ℕ) (end at : ℕ) : Type 0 where
  pub tidy : IsTidyHead new end at
  pub stay : (head : ℕ) → IsAmong (heads says) head → IsTidyHead old end head → IsTidyHead new end head
  pub uppers : (head slot : ℕ) → HasSlot base says head slot → 2 ≤ slot → pointer_in new head slot ≡ pointer_in old head slot
