-- Twoskip as the kind of a file that is repacked: its live records alone take its place.
use Rattle.std.specs.Prelude.{ℕ, ◌*◌, ◌/◌, ◌≤◌, List, length}
use Rattle.base_bytes.specs.declared.limits.TheConstants.{SKIP_LIMIT}
use Rattle.db_repack.specs.Repacking.{RepackKind}
use Rattle.skip_form.specs.Flaws.{header_in}
use Rattle.skip_kind.specs.Kind.{skip_kind}
use Rattle.skip_seek.specs.Searches.{live_of}
use Rattle.skip_spec.specs.Layout.{IsFresh, Item, Repacked, fresh_layout, items_of, next_generation}
use Rattle.skip_spec.specs.Opens.{Contents, Reads, Tidy}

-- level, key and value of each live record of the bytes
abbrev pub live_items_of : List ℕ → List Item
live_items_of bytes = items_of (live_of bytes)

-- the file that takes the place of these bytes: a generation later, with their flags but DIRTY
abbrev pub repacked_file : List ℕ → List ℕ
repacked_file bytes = fresh_layout (next_generation (header_in bytes).generation) ((header_in bytes).flags / 2 * 2) (live_items_of bytes)

-- it is tidy, and says just that
abbrev pub IsRepackedFile : List ℕ → List ℕ → Type 0
IsRepackedFile bytes file = IsFresh (next_generation (header_in bytes).generation) ((header_in bytes).flags / 2 * 2) (live_items_of bytes) file

-- the bytes are those of a tidy file within its limit
pub record IsTidyFile (bytes : List ℕ) : Type 0 where
  pub says : Contents
  pub reads : Reads bytes says
  pub tidy : Tidy bytes says
  pub within : length bytes ≤ SKIP_LIMIT

abbrev pub skip_repack : RepackKind
skip_repack = record { kind = skip_kind; repacked = Repacked }
