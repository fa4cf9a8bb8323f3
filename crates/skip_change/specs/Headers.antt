-- A header is written.
use Rattle.std.specs.Prelude.{◌≡◌, ◌⊎◌, ℕ, ◌<◌, ◌≤◌, List, length, take, slice_index, Some, false}
use Rattle.base_bytes.specs.Landing.{written_at}
use Rattle.base_devices.specs.CrashImages.{Image, DiskState, LeavesOnly}
use Rattle.skip_form.specs.declared.header.Header.{Header}
use Rattle.skip_form.specs.Spelling.{IsHeader, header_bytes}
use Rattle.skip_spec.specs.Chain.{Entry}
use Rattle.skip_spec.specs.Opens.{Contents, with_dirty}
use Rattle.skip_spec.specs.Live.{Live, live_under}
use Rattle.skip_lists.specs.Tie.{TiedBy}

-- each file that a crash leaves is long enough for a header
abbrev pub HaveHeaders : DiskState → Type 0
HaveHeaders disk = (file : List ℕ) → disk.leaves (Some file) → 64 ≤ length file

-- the image could be left, or is a file that could be left with this header
abbrev pub MayHaveHeader : DiskState → List ℕ → Image → Type 0
MayHaveHeader disk header image =
    disk.leaves image ⊎ ((file : List ℕ) × disk.leaves (Some file) × (image ≡ Some (written_at 0 header file)))

-- at each moment only what could be left was left, with the old header or this one
abbrev pub LeavesHeader : List ℕ → DiskState → DiskState → Type 0
LeavesHeader header old new = LeavesOnly old new (λ image mark. (mark ≡ old.mark) × MayHaveHeader old header image)

-- the records of the bytes are live
abbrev pub IsLive : List ℕ → Type 0
IsLive bytes = (starts : List ℕ) × (es : List Entry) × Live bytes starts es

-- The new bytes are a file that says what the old bytes list, and the disk is tied to it.
pub record IsCommittedAs (old new : List ℕ) (disk : DiskState) : Type 0 where
  pub says : Contents
  pub list : says.chain ≡ live_under old (length old)
  pub tied : TiedBy new says new false disk

-- the header has DIRTY now, and nothing else changed
pub record GetsDirty (old new : List ℕ) : Type 0 where
  pub long : length new ≡ length old
  pub header : (h : Header) → IsHeader h → take 64 old ≡ header_bytes h → take 64 new ≡ header_bytes (with_dirty h)
  pub others : (i : ℕ) → 64 ≤ i → i < length old → slice_index new i ≡ slice_index old i

-- the committed end of the base
abbrev pub EndsAt : Contents → ℕ → Type 0
EndsAt says committed = says.header.current_size ≡ committed
