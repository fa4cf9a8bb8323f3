-- Names and records that are taken pair by pair.
use Rattle.std.proofs.Common.{◌≡◌, ◌≤◌, ◌+◌, ℕ, zero, suc, Bool, true, false, List, [], ◌∷◌, ◌++◌, map, length, drop, Option, Some, None, refl, sym, ap, subst, ◌∙◌, arith, append_assoc}
use Rattle.std.specs.Prelude.{nat_le, nat_lt, not, ◌*◌, ◌==◌, if◌then◌else◌, ◌&&◌}
use Rattle.std.specs.List.{AllByRecursion, cons_option, filter_map}
use Rattle.std.proofs.lemmas.Bool.{le-leb, leb-true}
use Rattle.std.proofs.lemmas.Bool.Decides.{nat_tests}
use Rattle.std.proofs.lemmas.List.Elements.{filter_map-append}
use Rattle.std.proofs.lemmas.List.{map-append, append-nil}
use Rattle.base_devices.specs.SpoolCalls.{Folder, HasFile, MessageFile, SpoolState, shown_files}
use Rattle.index_form.specs.declared.record.IndexRecord.{IndexRecord}
use Rattle.index_form.specs.declared.fault.IndexFault.{IndexFault}
use Rattle.index_form.specs.declared.fault.IndexFault.TheVariants.{Check, Count, MinorVersion, RecordSize, Short, StartOffset}
use Rattle.index_form.specs.Reading.{StoredRecord, ends_with_check, first_fault, header_in, records_of, stored_records}
use Rattle.index_form.specs.Spelling.{bytes_of_record, version}
use Rattle.index_form.specs.Usable.{is_usable, usable_from, usable_records}
use Rattle.index_form.specs.Views.{file_of}
use Rattle.mail_rebuild.specs.declared.old_index.OldIndex.{OldIndex}
use Rattle.mail_rebuild.specs.declared.old_index.OldIndex.TheVariants.{Absent, Damaged, Whole}
use Rattle.mail_rebuild.specs.OldIndex.{IsShort, view_of}
use Rattle.mail_scan.specs.Facts.{HasMessageSize}
use Rattle.mail_scan.specs.Listing.{is_message_name, uid_in}
use Rattle.mail_rebuild.specs.declared.taking.Made.{Made}
use Rattle.mail_rebuild.specs.Findings.{file_named, finding_of, message_named, odd_in}
use Rattle.mail_rebuild.specs.Merging.{Pair, merged, merged_behind, record_alone, usable_of}
use Rattle.mail_rebuild.specs.NewIndex.{AddsFinding}
use Rattle.mail_rebuild.specs.Rebuilt.{is_message, uid_of_file}
use Rattle.mail_rebuild.specs.Taking.{HasItsFile, HoldsPairs, IsNoMessage, NamesFile, TakesPair, odd_of}
use Rattle.mail_rebuild.proofs.FolderLemmas.{named_so}
use Rattle.mail_rebuild.proofs.IndexLemmas.{holds_more}
use Rattle.mail_rebuild.proofs.MergeLemmas.{by_step}

-- ---- the file of a name

pub has_file : (s : SpoolState) (files : List MessageFile) (name : List ℕ) (file : MessageFile) → shown_files s ≡ Some files → file_named files name ≡ Some file → HasFile s.folder name file
has_file s files name file shown named = go s.folder shown
  where
    go : (folder : Option Folder) → shown_files (record { folder = folder; faults = s.faults }) ≡ Some files → HasFile folder name file
    go None is = absurd (cc)
    go (Some folder) is =
        let same : folder.files ≡ files = cc in
        rw same named

sized : (n : ℕ) → 1 ≤ n → n ≤ 4294967295 → (nat_le 1 n && nat_le n 4294967295) ≡ true
sized n low high = rw (le-leb 1 n low, le-leb n 4294967295 high) refl

pub message_is : (files : List MessageFile) (name : List ℕ) (named : NamesFile files name) → HasMessageSize named.file.bytes → message_named files name ≡ Some named.file
message_is files name named size =
    let own : is_message_name named.file.name ≡ true = rw (named_so files name named.file named.has) named.is_message in
    rw (named.has, own, le-leb 1 (length named.file.bytes) size.0, le-leb (length named.file.bytes) 4294967295 size.1) refl

pub no_message_is : (files : List MessageFile) (name : List ℕ) (named : NamesFile files name) → (HasMessageSize named.file.bytes → ⊥) → IsNoMessage files name
no_message_is files name named size = rw (named.has) (go (is_message named.file) refl)
  where
    both : (a b : Bool) → (a && b) ≡ true → (a ≡ true) × (b ≡ true)
    both true b h = (refl, h)
    both false b h = absurd (cc)

    go : (b : Bool) → is_message named.file ≡ b → (if b then Some named.file else None) ≡ None
    go false e = refl
    go true e =
        let n = length named.file.bytes in
        let parts = both (is_message_name named.file.name && nat_le 1 n) (nat_le n 4294967295) e in
        let first = both (is_message_name named.file.name) (nat_le 1 n) parts.0 in
        absurd (size (leb-true 1 n first.1, leb-true n 4294967295 parts.1))

pub uid_is_file's : (files : List MessageFile) (name : List ℕ) (named : NamesFile files name) → uid_in name ≡ uid_of_file named.file
uid_is_file's files name named = ap uid_in (sym (named_so files name named.file named.has))

-- ---- one pair more

more_pairs : (files : List MessageFile) (pair : Pair) (odd : Option (List ℕ)) (old new : Made) → odd_in files pair ≡ odd → odd_of new ≡ odd_of old ++ cons_option odd []
    → AddsFinding (finding_of files pair) old.index new.index → TakesPair files pair old new
more_pairs files pair odd old new is more adds = record {
  more = λ pairs holds. record {
    findings = rw (map-append (finding_of files) pairs (pair ∷ [])) (holds_more (map (finding_of files) pairs) (finding_of files pair) old.index new.index holds.findings adds);
    odd = more ∙ (λ i. holds.odd i ++ cons_option (sym is i) []) ∙ sym (filter_map-append (odd_in files) pairs (pair ∷ []));
  };
}

pub takes_odd : (files : List MessageFile) (name : List ℕ) (r : Option IndexRecord) (old new : Made) → IsNoMessage files name → odd_of new ≡ odd_of old ++ name ∷ []
    → AddsFinding (record { message = None; old = r }) old.index new.index → TakesPair files (record { name = Some name; old = r }) old new
takes_odd files name r old new none more adds =
    more_pairs files (record { name = Some name; old = r }) (Some name) old new (rw none refl) more (rw none adds)

pub takes_message : (files : List MessageFile) (name : List ℕ) (file : MessageFile) (r : Option IndexRecord) (old new : Made) → message_named files name ≡ Some file → odd_of new ≡ odd_of old
    → AddsFinding (record { message = Some file; old = r }) old.index new.index → TakesPair files (record { name = Some name; old = r }) old new
takes_message files name file r old new is same adds =
    more_pairs files (record { name = Some name; old = r }) None old new (rw is refl) (same ∙ sym (append-nil (odd_of old))) (rw is adds)

pub takes_old : (files : List MessageFile) (r : IndexRecord) (old new : Made) → odd_of new ≡ odd_of old
    → AddsFinding (record { message = None; old = Some r }) old.index new.index → TakesPair files (record_alone r) old new
takes_old files r old new same adds = more_pairs files (record_alone r) None old new refl (same ∙ sym (append-nil (odd_of old))) adds

-- ---- all pairs

-- the pairs taken so far, and those that are still to come
pub record TakenSoFar (files : List MessageFile) (all rest : List Pair) (made : Made) : Type 0 where
  pub done : List Pair
  pub whole : all ≡ done ++ rest
  pub holds : HoldsPairs files done made
  pub named : AllByRecursion (HasItsFile files) rest

pub takes_one : (files : List MessageFile) (all : List Pair) (pair : Pair) (rest left : List Pair) (old new : Made) → TakenSoFar files all left old → left ≡ pair ∷ rest
    → (HasItsFile files pair → TakesPair files pair old new) → TakenSoFar files all rest new
takes_one files all pair rest left old new so_far is takes =
    let named : AllByRecursion (HasItsFile files) (pair ∷ rest) = subst (AllByRecursion (HasItsFile files)) is so_far.named in
    record {
      done = so_far.done ++ pair ∷ [];
      whole = so_far.whole ∙ ap (λ ps. so_far.done ++ ps) is ∙ sym (append_assoc so_far.done (pair ∷ []) rest);
      holds = (takes named.0).more so_far.done so_far.holds;
      named = named.1;
    }

pub took_all : (files : List MessageFile) (all left : List Pair) (made : Made) → TakenSoFar files all left made → left ≡ [] → HoldsPairs files all made
took_all files all left made so_far none =
    subst (λ ps. HoldsPairs files ps made) (sym (so_far.whole ∙ ap (λ ps. so_far.done ++ ps) none ∙ append-nil so_far.done)) so_far.holds

-- each name of a pair is one of the names
pairs_named : (files : List MessageFile) (pairs : List Pair) → AllByRecursion (NamesFile files) (filter_map (λ pair. pair.name) pairs) → AllByRecursion (HasItsFile files) pairs
pairs_named files [] all = tt
pairs_named files (pair ∷ pairs) all = go pair.name refl all (pairs_named files pairs)
  where
    go : (n : Option (List ℕ)) → pair.name ≡ n → AllByRecursion (NamesFile files) (cons_option n (filter_map (λ (p : Pair). p.name) pairs))
        → (AllByRecursion (NamesFile files) (filter_map (λ (p : Pair). p.name) pairs) → AllByRecursion (HasItsFile files) pairs)
        → HasItsFile files pair × AllByRecursion (HasItsFile files) pairs
    go None is names more = (λ name e. absurd (cc), more names)
    go (Some n) is names more = (λ name e. let same : n ≡ name = cc in subst (NamesFile files) same names.0, more names.1)

pub begins_to_take : (files : List MessageFile) (all : List Pair) (names : List (List ℕ)) (made : Made) → filter_map (λ pair. pair.name) all ≡ names → AllByRecursion (NamesFile files) names → HoldsPairs files [] made → TakenSoFar files all all made
begins_to_take files all names made are named none = record { done = []; whole = refl; holds = none; named = pairs_named files all (subst (AllByRecursion (NamesFile files)) (sym are) named) }

-- ---- how many pairs there are

length-merged_behind : (name : List ℕ) (m : ℕ) (others : List IndexRecord → List Pair) → ((records : List IndexRecord) → length (others records) ≤ m + length records)
    → (records : List IndexRecord) → length (merged_behind name others records) ≤ m + 1 + length records
length-merged_behind name m others few [] = omega (arith, few [])
length-merged_behind name m others few (old ∷ records) = by_step name others old records (λ pairs. length pairs ≤ m + 1 + length (old ∷ records))
    (λ _. omega (arith, few (old ∷ records)))
    (λ _. omega (arith, few records))
    (λ _. omega (arith, length-merged_behind name m others few records))

length-alone : (records : List IndexRecord) → length (map record_alone records) ≡ length records
length-alone [] = refl
length-alone (r ∷ records) = omega (arith, length-alone records)

pub length-merged : (names : List (List ℕ)) (records : List IndexRecord) → length (merged names records) ≤ length names + length records
length-merged [] records = omega (arith, length-alone records)
length-merged (name ∷ names) records = omega (arith, length-merged_behind name (length names) (merged names) (length-merged names) records)

-- ---- how many usable records there are

length-stored : (count : ℕ) (bytes : List ℕ) → length (stored_records count bytes) ≡ count
length-stored zero bytes = refl
length-stored (suc count) bytes = omega (arith, length-stored count (drop bytes_of_record bytes))

few_usable : (place last : ℕ) (stored : List StoredRecord) → length (usable_from place last stored) ≤ length stored
few_usable place last [] = omega arith
few_usable place last (item ∷ stored) = go (few_usable (place + 1) item.fields.uid stored) (few_usable (place + 1) last stored) (is_usable last item)
  where
    go : length (usable_from (place + 1) item.fields.uid stored) ≤ length stored → length (usable_from (place + 1) last stored) ≤ length stored → (b : Bool)
        → length (if b then (place, item.fields) ∷ usable_from (place + 1) item.fields.uid stored else usable_from (place + 1) last stored) ≤ suc (length stored)
    go more other true = omega (arith, more)
    go more other false = omega (arith, other)

no_fault_behind : (b : Bool) (fault : IndexFault) (o : Option IndexFault) → (if b then Some fault else o) ≡ None → (b ≡ false) × (o ≡ None)
no_fault_behind true fault o none = absurd (cc)
no_fault_behind false fault o none = (refl, none)

records_fit : (file : List ℕ) → first_fault file ≡ None → 128 + bytes_of_record * (header_in file).num_records ≤ length file
records_fit file none =
    let a = no_fault_behind (nat_lt (length file) 128) Short _ none in
    let b = no_fault_behind (not (ends_with_check file 128)) Check _ a.1 in
    let c = no_fault_behind (not ((header_in file).minor_version == version)) MinorVersion _ b.1 in
    let d = no_fault_behind (not ((header_in file).record_size == bytes_of_record)) RecordSize _ c.1 in
    let e = no_fault_behind (not ((header_in file).start_offset == 128)) StartOffset _ d.1 in
    let f = no_fault_behind (nat_lt (length file) (128 + bytes_of_record * (header_in file).num_records)) Count None e.1 in
    leb-from_ltb (length file) (128 + bytes_of_record * (header_in file).num_records) f.0
  where
    leb-from_ltb : (n m : ℕ) → nat_lt n m ≡ false → m ≤ n
    leb-from_ltb n m is = grind (arith, nat_tests, is)

length-map_one : (placed : List (ℕ × IndexRecord)) → length (map (λ p. p.1) placed) ≡ length placed
length-map_one [] = refl
length-map_one (p ∷ placed) = omega (arith, length-map_one placed)

pub few_old : (old : OldIndex) → IsShort old → length (usable_of (view_of old)) ≤ 2796201
few_old Absent short = omega arith
few_old (Damaged fault) short = omega arith
few_old (Whole view) short =
    let file = file_of view in
    let fit = records_fit file short.1 in
    let count = length-stored (header_in file).num_records (drop 128 file) in
    let few = few_usable 0 0 (records_of file) in
    let same = length-map_one (usable_records (records_of file)) in
    omega (arith, fit, short.0, count, few, same)
