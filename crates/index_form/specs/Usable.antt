-- Which records of an index are usable.
use Rattle.std.specs.Prelude.{ℕ, ◌+◌, Bool, ◌&&◌, List, [], ◌∷◌, nat_lt, if◌then◌else◌}
use Rattle.index_form.specs.declared.record.IndexRecord.{IndexRecord}
use Rattle.index_form.specs.Reading.{StoredRecord}

-- a record whose check word is right, with a uid above that of the last usable one
abbrev pub is_usable : ℕ → StoredRecord → Bool
is_usable last stored = stored.check_right && nat_lt last stored.fields.uid

-- the usable ones of some records, each with its place, where the first has this place
abbrev pub usable_from : ℕ → ℕ → List StoredRecord → List (ℕ × IndexRecord)
usable_from place last [] = []
usable_from place last (stored ∷ others) =
    if is_usable last stored
    then (place, stored.fields) ∷ usable_from (place + 1) stored.fields.uid others
    else usable_from (place + 1) last others

-- the usable records of an index in the order of the file, each with its place, counted from 0
abbrev pub usable_records : List StoredRecord → List (ℕ × IndexRecord)
usable_records stored = usable_from 0 0 stored
