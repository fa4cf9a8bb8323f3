-- Reading and writing are inverse.
use Rattle.std.specs.Prelude.{◌≡◌, ℕ, ◌+◌, ◌*◌, ◌<◌, List, ◌++◌, map, take, Ok}
use Rattle.std.specs.List.{AllByRecursion}
use Rattle.index_form.specs.declared.header.IndexHeader.{IndexHeader}
use Rattle.index_form.specs.declared.record.IndexRecord.{IndexRecord}
use Rattle.index_form.specs.Reading.{as_written, index_read}
use Rattle.index_form.specs.Spelling.{IsIndex, bytes_of_record, index_bytes}

-- what is written is read, whatever follows it
abbrev pub WrittenIsRead : Type 0
WrittenIsRead =
    (h : IndexHeader) (rs : List IndexRecord) (rest : List ℕ) → IsIndex h rs
    → index_read (index_bytes h rs ++ rest) ≡ Ok (h, map as_written rs)

-- what is read with each check word right is what is written
abbrev pub ReadIsWritten : Type 0
ReadIsWritten =
    (file : List ℕ) (h : IndexHeader) (rs : List IndexRecord) → AllByRecursion (λ b. b < 256) file
    → index_read file ≡ Ok (h, map as_written rs)
    → IsIndex h rs × (take (128 + bytes_of_record * h.num_records) file ≡ index_bytes h rs)
