-- The map that a file stands for, and which files open.
use Rattle.std.specs.Prelude.{◌≡◌, ℕ, ◌+◌, ◌*◌, ◌/◌, ◌%◌, ◌<◌, ◌≤◌, List, [], ◌∷◌, length, take, filter, nat_lt, ◌⊎◌}
use Rattle.std.specs.List.{AllByRecursion}
use Rattle.base_bytes.specs.OrderedMap.{Map}
use Rattle.skip_form.specs.declared.header.Header.{Header}
use Rattle.skip_form.specs.Fields.{pointer_in}
use Rattle.skip_form.specs.Flaws.{head_in}
use Rattle.skip_form.specs.Spelling.{IsHeader, StandsAt, header_bytes}
use Rattle.skip_spec.specs.Records.{HeadCheckIsRight, TailCheckIsRight}
use Rattle.skip_spec.specs.Rows.{Rows}
use Rattle.skip_spec.specs.Chain.{Entry, Chain, pairs}

-- ---- what a file reads

-- bit 0 of the flags is DIRTY
abbrev pub IsDirty : Header → Type 0
IsDirty h = h.flags % 2 ≡ 1

-- the header with DIRTY set, and all else as it was
abbrev pub with_dirty : Header → Header
with_dirty h = record h { flags = h.flags / 2 * 2 + 1 }

-- what a file says: its header, where the records of its log begin, and the live ones
pub record Contents : Type 0 where
  pub header : Header
  pub starts : List ℕ
  pub chain : List Entry

-- The file reads so: its header is right, its committed end fits it, its records stand back to back up
-- to that end, and its live ones are in order.
pub record Reads (file : List ℕ) (says : Contents) : Type 0 where
  pub header : take 64 file ≡ header_bytes says.header
  pub fields : IsHeader says.header
  pub least : 336 ≤ says.header.current_size
  pub aligned : says.header.current_size % 8 ≡ 0
  pub inside : says.header.current_size ≤ length file
  pub dummy : StandsAt file 64 (head_in file 64)
  pub rows : Rows file 336 says.starts says.header.current_size
  pub dummy_tail : TailCheckIsRight file 64
  pub chain : Chain file says.header.current_size says.starts 64 [] says.chain

-- the file stands for the map of its live records
abbrev pub FileMap : List ℕ → Map → Type 0
FileMap file m = (says : Contents) × Reads file says × (pairs says.chain ≡ m)

-- ---- tidy files

-- from the record at an offset on, the pointers of a level lead through just these records, and then end
abbrev pub Links : List ℕ → ℕ → ℕ → List Entry → Type 0
Links file level at [] = pointer_in file at (level + 1) ≡ 0
Links file level at (e ∷ es) = (pointer_in file at (level + 1) ≡ e.at) × Links file level e.at es

-- a level links the live records of a greater level
abbrev pub on_level : ℕ → List Entry → List Entry
on_level level es = filter (λ e. nat_lt level e.level) es

-- both level-zero slots of the record at an offset are below the end, and its head check is right
abbrev pub IsTidyHead : List ℕ → ℕ → ℕ → Type 0
IsTidyHead file end at = (pointer_in file at 0 < end) × (pointer_in file at 1 < end) × HeadCheckIsRight file at

-- The file is clean and ends with its log, no slot points past the end, all head checks of the list are
-- right, the header counts the live records, and the upper levels link them.
pub record Tidy (file : List ℕ) (says : Contents) : Type 0 where
  pub clean : IsDirty says.header → ⊥
  pub ends : length file ≡ says.header.current_size
  pub dummy : IsTidyHead file says.header.current_size 64
  pub heads : AllByRecursion (λ e. IsTidyHead file says.header.current_size e.at) says.chain
  pub count : says.header.num_records ≡ length says.chain
  pub levels : (level : ℕ) → 1 ≤ level → level ≤ 30 → Links file level 64 (on_level level says.chain)

-- ---- which files open

-- the file stands for the map, and is tidy unless DIRTY is set
pub record Opens (file : List ℕ) (m : Map) : Type 0 where
  pub says : Contents
  pub reads : Reads file says
  pub map : pairs says.chain ≡ m
  pub sound : IsDirty says.header ⊎ Tidy file says

-- ---- dirty files

-- the file has a right header with DIRTY set
abbrev pub HasDirty : List ℕ → Type 0
HasDirty file = (h : Header) × IsHeader h × (take 64 file ≡ header_bytes h) × IsDirty h
