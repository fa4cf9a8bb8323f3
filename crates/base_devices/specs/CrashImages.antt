-- A disk at one moment, what a crash may leave of it, and how that goes on over time.
use Rattle.std.specs.Prelude.{◌≡◌, ◌⊎◌, ◌↔◌, ℕ, ◌≤◌, Bool, List, Option, None, Some, IsSome}

-- the main file: absent, or its bytes
abbrev pub Image : Type 0
Image = Option (List ℕ)

-- the new file beside it: its bytes, and whether they are synced
pub record Fresh : Type 0 where
  pub bytes : List ℕ
  pub is_synced : Bool

-- A disk at one moment. One that does not show its contents has no `reads` and no `fresh`, and nothing that it may leave.
pub record DiskState : Type 1 where
  -- the main file as it reads now
  pub reads : Option Image
  -- what a crash now may leave of it
  pub leaves : Image → Type 0
  -- the moment, as a number that never falls
  pub clock : ℕ
  -- the number of output bytes printed so far
  pub mark : ℕ
  -- the images, each with its mark, that a crash at some moment since this one might have left
  pub left_since : ℕ → Image → ℕ → Type 0
  -- the new file, once it is begun
  pub fresh : Option Fresh
  -- how often a call failed
  pub faults : ℕ
  -- how many bytes were passed to writes into the main file
  pub written : ℕ
  -- how often the new file was to take the main file's place
  pub publishes : ℕ

-- ---- what the main file reads, where the device shows it

abbrev pub Shows : DiskState → Type 0
Shows s = IsSome s.reads

-- it is there, with these bytes
abbrev pub Reads : DiskState → List ℕ → Type 0
Reads s bytes = s.reads ≡ Some (Some bytes)

-- it is not there
abbrev pub IsAbsent : DiskState → Type 0
IsAbsent s = s.reads ≡ Some None

-- P holds of what it reads
abbrev pub WhereRead : DiskState → (Image → Type 0) → Type 0
WhereRead s P = (main : Image) → s.reads ≡ Some main → P main

-- ---- over time

-- What holds of each state.
pub record IsMoment (s : DiskState) : Type 0 where
  -- since now: what may be left now, with the mark that stands now
  pub now : (c : Image) (n : ℕ) → s.left_since s.clock c n → s.leaves c × (n ≡ s.mark)
  pub counts_now : (c : Image) → s.leaves c → s.left_since s.clock c s.mark
  -- what was left since a later moment was left since an earlier one
  pub earlier : (t u : ℕ) (c : Image) (n : ℕ) → t ≤ u → u ≤ s.clock → s.left_since u c n → s.left_since t c n
  -- what is read is one of the images that may be left
  pub reads_left : (c : Image) → s.reads ≡ Some c → s.leaves c
  -- a device that shows what may be left shows what it reads
  pub tells : (t : ℕ) (c : Image) (n : ℕ) → s.left_since t c n → IsSome s.reads

-- Time goes on: no pair is taken away, each that is added is among those since the start, and no count falls.
pub record GoesOn (old new : DiskState) : Type 0 where
  pub later : old.clock ≤ new.clock
  pub keeps : (t : ℕ) (c : Image) (n : ℕ) → t ≤ old.clock → old.left_since t c n → new.left_since t c n
  pub adds : (t : ℕ) (c : Image) (n : ℕ) → t ≤ old.clock → new.left_since t c n → old.left_since t c n ⊎ new.left_since old.clock c n
  pub telling : IsSome new.reads ↔ IsSome old.reads
  pub faults : old.faults ≤ new.faults
  pub written : old.written ≤ new.written
  pub publishes : old.publishes ≤ new.publishes

-- Each image that a crash since old might have left has P, with its mark.
pub record LeavesOnly (old new : DiskState) (P : Image → ℕ → Type 0) : Type 0 where
  pub each : (c : Image) (n : ℕ) → new.left_since old.clock c n → P c n

-- the same images may be left
pub record LeavesSame (old new : DiskState) : Type 0 where
  pub no_more : (c : Image) → new.leaves c → old.leaves c
  pub no_less : (c : Image) → old.leaves c → new.leaves c

-- a crash leaves what the main file reads, and nothing else
pub record IsDurable (s : DiskState) : Type 0 where
  pub only : (c : Image) → s.leaves c → s.reads ≡ Some c
