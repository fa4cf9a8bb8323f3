-- What is made of names and old records, pair by pair.
use Rattle.std.specs.Prelude.{◌≡◌, ◌+◌, true, ℕ, min, List, ◌++◌, [], ◌∷◌, map, Option, None, Some}
use Rattle.std.specs.Option.{option_map}
use Rattle.index_form.specs.declared.record_view.RecordView.{RecordView}
use Rattle.index_form.specs.Views.{record_of}
use Rattle.std.specs.List.{filter_map}
use Rattle.std.specs.List.Sorted.{IsPermutation, IsSorted}
use Rattle.base_bytes.specs.OrderedMap.{key_order}
use Rattle.base_devices.specs.SpoolCalls.{MessageFile}
use Rattle.index_form.specs.declared.header.IndexHeader.{IndexHeader}
use Rattle.index_form.specs.declared.record.IndexRecord.{IndexRecord}
use Rattle.mail_scan.specs.Listing.{Names, is_message_name}
use Rattle.mail_rebuild.specs.declared.fault.RebuildFault.{RebuildFault}
use Rattle.mail_rebuild.specs.declared.fault.RebuildFault.TheVariants.{NoMemory, SpoolFault}
use Rattle.mail_rebuild.specs.declared.new_index.NewIndex.{NewIndex}
use Rattle.mail_rebuild.specs.declared.taking.Made.{Made}
use Rattle.mail_rebuild.specs.Findings.{file_named, finding_of, message_named, odd_in}
use Rattle.mail_rebuild.specs.Merging.{Pair, merged}
use Rattle.mail_rebuild.specs.NewIndex.{HoldsFindings}

-- the odd names found so far
abbrev pub odd_of : Made → List (List ℕ)
odd_of made = made.odd.items

-- a name of a message that a file of these has
pub record NamesFile (files : List MessageFile) (name : List ℕ) : Type 0 where
  pub file : MessageFile
  pub has : file_named files name ≡ Some file
  pub is_message : is_message_name name ≡ true

abbrev pub HasItsFile : List MessageFile → Pair → Type 0
HasItsFile files pair = (name : List ℕ) → pair.name ≡ Some name → NamesFile files name

-- a name, and the record that a view shows, if there is one
abbrev pub pair_with : List ℕ → Option RecordView → Pair
pair_with name old = record { name = Some name; old = option_map record_of old }

-- what these pairs make
pub record HoldsPairs (files : List MessageFile) (pairs : List Pair) (made : Made) : Type 0 where
  pub findings : HoldsFindings (map (finding_of files) pairs) made.index
  pub odd : odd_of made ≡ filter_map (odd_in files) pairs

-- one pair more
pub record TakesPair (files : List MessageFile) (pair : Pair) (old new : Made) : Type 0 where
  pub more : (pairs : List Pair) → HoldsPairs files pairs old → HoldsPairs files (pairs ++ pair ∷ []) new

-- a name whose file is no message
abbrev pub IsNoMessage : List MessageFile → List ℕ → Type 0
IsNoMessage files name = message_named files name ≡ None

-- what all names and all usable records make
pub record IsTaken (files : List MessageFile) (names : Names) (usable : List IndexRecord) (made : Made) : Type 0 where
  pub findings : HoldsFindings (map (finding_of files) (merged names.messages usable)) made.index
  pub all_odd : IsPermutation (filter_map (odd_in files) (merged names.messages usable) ++ names.odd) (odd_of made)
  pub by_bytes : IsSorted key_order (odd_of made)

-- a message could not be read, or memory ran out
abbrev pub IsTakeRefusal : RebuildFault → Type 0
IsTakeRefusal SpoolFault = Unit {0}
IsTakeRefusal NoMemory = Unit {0}
IsTakeRefusal other = ⊥

-- a call of the spool failed
abbrev pub IsSpoolFault : RebuildFault → Type 0
IsSpoolFault SpoolFault = Unit {0}
IsSpoolFault other = ⊥

-- fresh records are made by the number after this header's last one, where there is one, and by this time
pub record IsNumbered (header : IndexHeader) (now : ℕ) (index : NewIndex) : Type 0 where
  pub modseq : index.modseq ≡ min (header.highestmodseq + 1) 18446744073709551615
  pub time : index.time ≡ now
