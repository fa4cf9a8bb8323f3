-- What a rebuild prints.
use Rattle.std.specs.Prelude.{ℕ, ◌+◌, ◌-◌, ◌==◌, not, List, [], ◌∷◌, ◌++◌, map, length, codes, decimal, Option, None, Some, is_some, if◌then◌else◌}
use Rattle.std.specs.List.{filter, find, flat_map, list_any, range_with_len}
use Rattle.std.specs.List.Sorted.{IsPermutation, IsStrictlyIncreasing}
use Rattle.base_devices.specs.CrashImages.{Image}
use Rattle.base_devices.specs.SpoolCalls.{MessageFile}
use Rattle.base_notes.specs.declared.action.Options.{Options}
use Rattle.index_form.specs.declared.fault.IndexFault.{IndexFault}
use Rattle.index_form.specs.declared.fault.IndexFault.TheVariants.{Short, Check, MinorVersion, RecordSize, StartOffset, Count}
use Rattle.index_form.specs.declared.record.IndexRecord.{IndexRecord}
use Rattle.index_form.specs.Reading.{StoredRecord, first_fault}
use Rattle.index_form.specs.Usable.{usable_records}
use Rattle.mail_rebuild.specs.Rebuilt.{dropped, fresh, kept, old_records, uid_of_file, usable_in, whole_index}

-- ---- the old index

abbrev pub fault_name : IndexFault → List ℕ
fault_name Short = codes "Short"
fault_name Check = codes "Check"
fault_name MinorVersion = codes "MinorVersion"
fault_name RecordSize = codes "RecordSize"
fault_name StartOffset = codes "StartOffset"
fault_name Count = codes "Count"

-- that there is no old index to read, or nothing
abbrev pub index_line : Image → List ℕ
index_line None = codes "index absent\n"
index_line (Some file) = text (first_fault file)
  where
    text : Option IndexFault → List ℕ
    text None = []
    text (Some fault) = codes "index damaged: " ++ fault_name fault ++ (10 ∷ [])

-- the places, counted from 0, of the records that are not usable
abbrev pub ignored_in : List StoredRecord → List ℕ
ignored_in stored =
    filter (λ place. not (list_any (λ placed. placed.0 == place) (usable_records stored)))
    (range_with_len 0 (length stored))

abbrev pub ignored_places : Image → List ℕ
ignored_places old = ignored_in (old_records (whole_index old))

abbrev pub ignored_line : ℕ → List ℕ
ignored_line place = codes "record " ++ decimal (place + 1) ++ codes " ignored\n"

-- ---- one uid

abbrev pub uid_line : ℕ → List ℕ → List ℕ
uid_line uid said = codes "uid " ++ decimal uid ++ said

-- what became of a uid: nothing is printed of a message that keeps its record
abbrev pub line_of_uid : List IndexRecord → List MessageFile → ℕ → List ℕ
line_of_uid usable messages uid = said (find (λ file. uid_of_file file == uid) messages)
  where
    said : Option MessageFile → List ℕ
    said None = uid_line uid (codes " dropped\n")
    said (Some file) =
        if is_some (kept usable file) then []
        else if list_any (λ old. old.uid == uid) usable then uid_line uid (codes " unmatched\n")
        else uid_line uid (codes " new\n")

-- the uids of all messages and usable records, each once, by rising uid
pub record HasAllUids (old : Image) (messages : List MessageFile) (uids : List ℕ) : Type 0 where
  pub all_uids : IsPermutation (map uid_of_file messages ++ map (λ r. r.uid) (dropped old messages)) uids
  pub rising : IsStrictlyIncreasing uids

-- ---- the whole

abbrev pub odd_line : List ℕ → List ℕ
odd_line name = codes "odd " ++ name ++ (10 ∷ [])

abbrev pub last_line : Image → List MessageFile → List ℕ
last_line old messages =
    codes "kept " ++ decimal (length messages - length (fresh old messages))
    ++ codes " fresh " ++ decimal (length (fresh old messages))
    ++ codes " dropped " ++ decimal (length (dropped old messages)) ++ (10 ∷ [])

-- all that comes before the last line
abbrev pub full_report : Image → List MessageFile → List ℕ → List (List ℕ) → List ℕ
full_report old messages uids odd =
    index_line old ++ flat_map ignored_line (ignored_places old)
    ++ flat_map (line_of_uid (usable_in old) messages) uids ++ flat_map odd_line odd

abbrev pub report : Options → Image → List MessageFile → List ℕ → List (List ℕ) → List ℕ
report options old messages uids odd =
    (if options.quiet then [] else full_report old messages uids (if options.skip_odd then [] else odd))
    ++ last_line old messages
