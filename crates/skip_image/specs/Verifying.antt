-- What verification holds while it goes over a file, and what it hands out.
use Rattle.std.specs.Prelude.{◌≡◌, ◌⊎◌, ◌↔◌, ℕ, ◌*◌, ◌/◌, ◌%◌, ◌<◌, ◌≤◌, List, length, slice_index, Bool, true, Option, Some, None, Result, Ok, Err}
use Rattle.std.specs.Int.{bit_at}
use Rattle.base_bytes.specs.declared.flaw.Damage.{Damage}
use Rattle.skip_form.specs.Flaws.{head_in, header_in}
use Rattle.skip_spec.specs.Rows.{IsAmong}
use Rattle.skip_spec.specs.Chain.{Entry}
use Rattle.skip_spec.specs.Opens.{Contents, Reads, Tidy, IsDirty}
use Rattle.skip_spec.specs.FirstFlaw.{end_of, is_dirty, latest, latest_on, next_flaw, successor, RightRows, RightLive}
use Rattle.skip_image.specs.declared.checks.Log.{Log}
use Rattle.skip_image.specs.Image.{HasRecord}

-- a check answers what is wrong, or goes on
abbrev pub Finds : {T : Type 0} → Option Damage → Result T Damage → Type 0
Finds wrong (Ok value) = wrong ≡ None
Finds wrong (Err damage) = wrong ≡ Some damage

-- what the header says of the log
pub record IsLogOf (file : List ℕ) (log : Log) : Type 0 where
  pub end : log.end ≡ end_of file
  pub dirty : log.dirty ≡ is_dirty file
  pub records : log.records ≡ (header_in file).num_records

-- one bit for each eight bytes, and it is set at these starts alone
abbrev pub Marks : List ℕ → List ℕ → Type 0
Marks marks starts = (k : ℕ) → k < 8 * length marks → (bit_at (slice_index marks (k / 8)) (k % 8) ≡ 1) ↔ IsAmong starts (8 * k)

-- right records stand back to back at just these starts up to the committed end, and these are marked
abbrev pub IsMarked : List ℕ → List ℕ → List ℕ → Type 0
IsMarked file marks starts = RightRows file 336 starts (end_of file) × Marks marks starts

-- by levels, the latest of the records that were passed on each upper one
abbrev pub AreLatest : List ℕ → List Entry → Type 0
AreLatest last passed = (level : ℕ) → 1 ≤ level → level ≤ 30 → slice_index last level ≡ latest_on level passed

-- a record with the pointer of its level stands at each of these
abbrev pub HaveUppers : List ℕ → List ℕ → Type 0
HaveUppers file last =
    (level : ℕ) → 1 ≤ level → level ≤ 30
    → HasRecord file (slice_index last level) × (level < (head_in file (slice_index last level)).level)

-- the answer of a check
abbrev pub answer_of : {T : Type 0} → Result T Damage → Option Damage
answer_of (Ok value) = None
answer_of (Err damage) = Some damage

-- on the upper levels below one the latest is this record, and on the others as before
abbrev pub Raises : ℕ → ℕ → List ℕ → List ℕ → Type 0
Raises at height old new =
    (level : ℕ) → 1 ≤ level → level ≤ 30
    → (level < height → slice_index new level ≡ at) × (height ≤ level → slice_index new level ≡ slice_index old level)

-- along the list so many live records stand, and none has a flaw
abbrev pub HasList : List ℕ → List ℕ → ℕ → Type 0
HasList file starts count =
    (passed : List Entry)
    × RightLive file starts passed
    × (next_flaw file starts passed ≡ None)
    × (successor file (latest passed) ≡ 0)
    × (length passed ≡ count)

-- The bytes read as a file, tidy unless DIRTY is set, of so many live records.
pub record IsVerified (bytes : List ℕ) (count : ℕ) (clean : Bool) : Type 0 where
  pub says : Contents
  pub reads : Reads bytes says
  pub sound : IsDirty says.header ⊎ Tidy bytes says
  pub counted : count ≡ length says.chain
  pub is_clean : (clean ≡ true) ↔ (IsDirty says.header → ⊥)
