-- The names of messages and the usable records of the old index, merged by uid.
use Rattle.std.specs.Prelude.{◌≡◌, ℕ, ◌==◌, List, [], ◌∷◌, map, Option, None, Some, nat_lt, if◌then◌else◌}
use Rattle.std.specs.List.{AllByRecursion, filter_map}
use Rattle.std.specs.List.Sorted.{IsStrictlyIncreasing}
use Rattle.index_form.specs.declared.record.IndexRecord.{IndexRecord}
use Rattle.index_form.specs.declared.view.IndexView.{IndexView}
use Rattle.index_form.specs.Reading.{records_of}
use Rattle.index_form.specs.Usable.{usable_records}
use Rattle.index_form.specs.Views.{file_of, record_of, usable_left}
use Rattle.mail_scan.specs.Listing.{uid_in}
use Rattle.mail_scan.specs.Names.{name_of}
use Rattle.index_form.specs.declared.record_view.RecordView.{RecordView}
use Rattle.index_form.specs.declared.usable.Usable.{Usable}
use Rattle.mail_rebuild.specs.declared.merge.Merge.{Merge}
use Rattle.mail_rebuild.specs.declared.merge.Pairing.{Pairing}
use Rattle.mail_rebuild.specs.declared.merge.Pairing.TheVariants.{Both, File, Old}

-- the name of a message, a usable record, or both of one uid
pub record Pair : Type 0 where
  pub name : Option (List ℕ)
  pub old : Option IndexRecord

abbrev pub both : List ℕ → IndexRecord → Pair
both name old = record { name = Some name; old = Some old }

abbrev pub name_alone : List ℕ → Pair
name_alone name = record { name = Some name; old = None }

abbrev pub record_alone : IndexRecord → Pair
record_alone old = record { name = None; old = Some old }

-- the uid of its record, or of its name where it has none
abbrev pub uid_of : Pair → ℕ
uid_of pair = uid pair.name pair.old
  where
    uid : Option (List ℕ) → Option IndexRecord → ℕ
    uid _ (Some old) = old.uid
    uid (Some name) None = uid_in name
    uid None None = 0

-- a name and a record that stand together have one uid
abbrev pub HasOneUid : Pair → Type 0
HasOneUid pair = (name : List ℕ) (old : IndexRecord) → pair.name ≡ Some name → pair.old ≡ Some old → uid_in name ≡ old.uid

-- a name before records by rising uid: those with a lesser uid stand before it. `others` merges the names behind it
abbrev pub merged_behind : List ℕ → (List IndexRecord → List Pair) → List IndexRecord → List Pair
merged_behind name others [] = name_alone name ∷ others []
merged_behind name others (old ∷ records) =
    if nat_lt (uid_in name) old.uid then name_alone name ∷ others (old ∷ records)
    else if uid_in name == old.uid then both name old ∷ others records
    else record_alone old ∷ merged_behind name others records

-- names and records, each by rising uid, merged
abbrev pub merged : List (List ℕ) → List IndexRecord → List Pair
merged [] records = map record_alone records
merged (name ∷ names) records = merged_behind name (merged names) records

-- Each name and each record stands in one pair, by rising uid, so that they stand together exactly where their uids are equal.
pub record IsMerge (names : List (List ℕ)) (records : List IndexRecord) (pairs : List Pair) : Type 0 where
  pub all_names : filter_map (λ pair. pair.name) pairs ≡ names
  pub all_records : filter_map (λ pair. pair.old) pairs ≡ records
  pub together : AllByRecursion HasOneUid pairs
  pub rising : IsStrictlyIncreasing (map uid_of pairs)

-- ---- the code's values

-- the usable records of an index, and none where there is no index
abbrev pub usable_of : Option IndexView → List IndexRecord
usable_of None = []
usable_of (Some view) = map (λ placed. placed.1) (usable_records (records_of (file_of view)))

-- what a pairing shows
abbrev pub pair_of : Pairing → Pair
pair_of (Both uid old) = both (name_of uid) (record_of old)
pair_of (File uid) = name_alone (name_of uid)
pair_of (Old old) = record_alone (record_of old)

-- the records that are still to come, the next of which was looked at
abbrev pub records_behind : Option Usable → List IndexRecord
records_behind None = []
records_behind (Some usable) = map (λ placed. placed.1) (usable_left usable)

abbrev pub records_left : Option RecordView → Option Usable → List IndexRecord
records_left None usable = []
records_left (Some old) usable = record_of old ∷ records_behind usable

-- the pairs that are still to come
abbrev pub pairs_left : Merge → List Pair
pairs_left merge = merged (map name_of merge.uids.now) (records_left merge.item merge.behind)
