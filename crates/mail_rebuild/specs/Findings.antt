-- What is found of each uid, and what a rebuild makes of it.
use Rattle.std.specs.Prelude.{◌≡◌, ◌≤◌, ◌+◌, ℕ, List, [], ◌∷◌, find, nat_eq, codes, Option, None, Some, option_and_then, if◌then◌else◌}
use Rattle.std.specs.Cmp.Lexicographic.{pointwise}
use Rattle.std.specs.List.{filter_map}
use Rattle.base_devices.specs.SpoolCalls.{MessageFile}
use Rattle.index_form.specs.declared.record.IndexRecord.{IndexRecord}
use Rattle.mail_rebuild.specs.Merging.{Pair}
use Rattle.mail_rebuild.specs.Rebuilt.{fresh_record, is_message, kept_record, matches, uid_of_file}
use Rattle.mail_rebuild.specs.Report.{uid_line}

-- a message, a usable record, or both of one uid; neither where a name's file is no message
pub record Finding : Type 0 where
  pub message : Option MessageFile
  pub old : Option IndexRecord

-- the file with this name
abbrev pub file_named : List MessageFile → List ℕ → Option MessageFile
file_named files name = find (λ other. pointwise nat_eq other.name name) files

-- the message with this name
abbrev pub message_named : List MessageFile → List ℕ → Option MessageFile
message_named files name =
    option_and_then (λ file. if is_message file then Some file else None)
    (file_named files name)

-- what is found of a name and a record that stand together
abbrev pub finding_of : List MessageFile → Pair → Finding
finding_of files pair = record { message = option_and_then (message_named files) pair.name; old = pair.old }

-- a name whose file is no message
abbrev pub odd_in : List MessageFile → Pair → Option (List ℕ)
odd_in files pair = odd pair.name (finding_of files pair).message
  where
    odd : Option (List ℕ) → Option MessageFile → Option (List ℕ)
    odd (Some name) None = Some name
    odd other message = None

-- ---- what is made of a finding

-- its new record
abbrev pub record_from : ℕ → ℕ → Finding → Option IndexRecord
record_from modseq now found = made found.message found.old
  where
    made : Option MessageFile → Option IndexRecord → Option IndexRecord
    made None old = None
    made (Some file) None = Some (fresh_record modseq now file)
    made (Some file) (Some old) = Some (if matches file old then kept_record old file else fresh_record modseq now file)

-- its line
abbrev pub line_from : Finding → List ℕ
line_from found = said found.message found.old
  where
    said : Option MessageFile → Option IndexRecord → List ℕ
    said None None = []
    said None (Some old) = uid_line old.uid (codes " dropped\n")
    said (Some file) None = uid_line (uid_of_file file) (codes " new\n")
    said (Some file) (Some old) = if matches file old then [] else uid_line (uid_of_file file) (codes " unmatched\n")

-- its uid
abbrev pub uid_from : Finding → Option ℕ
uid_from found = uid found.message found.old
  where
    uid : Option MessageFile → Option IndexRecord → Option ℕ
    uid None None = None
    uid None (Some old) = Some old.uid
    uid (Some file) old = Some (uid_of_file file)

-- the old record that its message keeps
abbrev pub kept_from : Finding → Option IndexRecord
kept_from found = kept found.message found.old
  where
    kept : Option MessageFile → Option IndexRecord → Option IndexRecord
    kept (Some file) (Some old) = if matches file old then Some old else None
    kept message old = None

-- its message, where that keeps nothing
abbrev pub fresh_from : Finding → Option MessageFile
fresh_from found = fresh found.message found.old
  where
    fresh : Option MessageFile → Option IndexRecord → Option MessageFile
    fresh None old = None
    fresh (Some file) None = Some file
    fresh (Some file) (Some old) = if matches file old then None else Some file

-- its old record, where there is no message
abbrev pub dropped_from : Finding → Option IndexRecord
dropped_from found = dropped found.message found.old
  where
    dropped : Option MessageFile → Option IndexRecord → Option IndexRecord
    dropped None old = old
    dropped (Some file) old = None

-- ---- all findings

abbrev pub messages_in : List Finding → List MessageFile
messages_in found = filter_map (λ f. f.message) found

abbrev pub records_in : List Finding → List IndexRecord
records_in found = filter_map (λ f. f.old) found

-- a finding whose uid is at least n, and what holds of the number behind it
abbrev pub RisesBy : ℕ → Option MessageFile → Option IndexRecord → (ℕ → Type 0) → Type 0
RisesBy n None None others = others n
RisesBy n None (Some old) others = (n ≤ old.uid) × others (old.uid + 1)
RisesBy n (Some file) None others = (n ≤ uid_of_file file) × others (uid_of_file file + 1)
RisesBy n (Some file) (Some old) others = (n ≤ uid_of_file file) × (old.uid ≡ uid_of_file file) × others (uid_of_file file + 1)

-- strictly rising uids from n on, where a message and a record of one finding have one uid
abbrev pub Rises : ℕ → List Finding → Type 0
Rises n [] = Unit {0}
Rises n (f ∷ found) = RisesBy n f.message f.old (λ m. Rises m found)
