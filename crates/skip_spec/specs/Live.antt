-- The live records under an end: those of a committed file under its committed end, and those of an open
-- transaction under the end of its bytes.
use Rattle.std.specs.Prelude.{◌≡◌, ℕ, zero, suc, ◌%◌, ◌≤◌, ◌==◌, List, [], ◌∷◌, if◌then◌else◌, length, take}
use Rattle.base_bytes.specs.OrderedMap.{Map}
use Rattle.skip_form.specs.Flaws.{head_in}
use Rattle.skip_form.specs.Spelling.{StandsAt, IsHeader, header_bytes}
use Rattle.skip_spec.specs.Records.{TailCheckIsRight}
use Rattle.skip_spec.specs.Rows.{IsAmong, Rows}
use Rattle.skip_spec.specs.Successor.{successor_under}
use Rattle.skip_spec.specs.Chain.{Entry, Chain, entry_at, pairs}
use Rattle.skip_spec.specs.Change.{heads_of}
use Rattle.skip_spec.specs.Opens.{Contents, IsDirty, IsTidyHead, Links, on_level}

-- ---- as a function of the bytes

-- the live records after the one at an offset, under a bound; so many at most
unfoldable pub entries_after : ℕ → List ℕ → ℕ → ℕ → List Entry
entries_after zero file bound at = []
entries_after (suc most) file bound at =
    let next = successor_under file bound at in
    if next == 0 then [] else entry_at file next ∷ entries_after most file bound next

-- the live records under a bound
abbrev pub live_under : List ℕ → ℕ → List Entry
live_under file bound = entries_after (length file) file bound 64

-- their map
abbrev pub map_under : List ℕ → ℕ → Map
map_under file bound = pairs (live_under file bound)

-- ---- a log and its live records

-- The records stand back to back up to an end, and under that end the live ones are these.
pub record HasLog (file starts : List ℕ) (es : List Entry) (end : ℕ) : Type 0 where
  pub least : 336 ≤ end
  pub inside : end ≤ length file
  pub dummy : StandsAt file 64 (head_in file 64)
  pub dummy_tail : TailCheckIsRight file 64
  pub rows : Rows file 336 starts end
  pub chain : Chain file end starts 64 [] es

-- The file ends with its log, and the dummy and each live record has a tidy head.
pub record Listed (file starts : List ℕ) (es : List Entry) : Type 0 where
  pub log : HasLog file starts es (length file)
  pub aligned : length file % 8 ≡ 0
  pub heads : (at : ℕ) → IsAmong (heads_of es) at → IsTidyHead file (length file) at

-- these records are listed, and the upper levels link them
pub record Live (file starts : List ℕ) (es : List Entry) : Type 0 where
  pub listed : Listed file starts es
  pub levels : (level : ℕ) → 1 ≤ level → level ≤ 30 → Links file level 64 (on_level level es)

-- A right header without DIRTY stands there, and names the end of the file and the number of the live records.
pub record IsCommitted (file : List ℕ) (says : Contents) : Type 0 where
  pub header : take 64 file ≡ header_bytes says.header
  pub fields : IsHeader says.header
  pub clean : IsDirty says.header → ⊥
  pub ends : length file ≡ says.header.current_size
  pub count : says.header.num_records ≡ length says.chain
