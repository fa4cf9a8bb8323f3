-- What recovery, and an abort, leave of a file with DIRTY.
use Rattle.std.specs.Prelude.{ℕ, ◌*◌, ◌/◌, List, length}
use Rattle.skip_form.specs.declared.header.Header.{Header}
use Rattle.skip_spec.specs.Opens.{Contents, Reads, Tidy}

-- the header without DIRTY, that counts so many live records
abbrev pub clean_header : Header → ℕ → Header
clean_header h count = record h { num_records = count; flags = h.flags / 2 * 2 }

-- what the file says then: the same, with a header that counts the live records and has no DIRTY
abbrev pub recovered : Contents → Contents
recovered says = record says { header = clean_header says.header (length says.chain) }

-- the new file is tidy, and says what the old one said but for DIRTY and the count
pub record Recovers (old new : List ℕ) : Type 0 where
  pub reads : (says : Contents) → Reads old says → Reads new (recovered says)
  pub tidy : (says : Contents) → Reads old says → Tidy new (recovered says)
