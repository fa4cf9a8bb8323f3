-- What views show.
use Rattle.std.specs.Prelude.{ℕ, List, drop}
use Rattle.index_form.specs.declared.record.IndexRecord.{IndexRecord}
use Rattle.index_form.specs.declared.record_view.RecordView.{RecordView}
use Rattle.index_form.specs.declared.view.IndexView.{IndexView}
use Rattle.index_form.specs.declared.usable.Usable.{Usable}
use Rattle.index_form.specs.Reading.{record_in, records_of}
use Rattle.index_form.specs.Usable.{usable_from}

-- the bytes that a view of an index is of
abbrev pub file_of : IndexView → List ℕ
file_of view = view.file.now

-- the bytes of the record that a view is of
abbrev pub bytes_of : RecordView → List ℕ
bytes_of view = view.bytes.now

-- the record that a view shows
abbrev pub record_of : RecordView → IndexRecord
record_of view = record_in (bytes_of view)

-- what views of records with their places show
abbrev pub placed_record : ℕ × RecordView → ℕ × IndexRecord
placed_record placed = (placed.0, record_of placed.1)

-- the usable records that are still to come, each with its place
abbrev pub usable_left : Usable → List (ℕ × IndexRecord)
usable_left usable = usable_from usable.place usable.last (drop usable.place (records_of (file_of usable.index)))
