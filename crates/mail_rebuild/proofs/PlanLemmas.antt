-- What was made of a whole folder is what is rebuilt and printed.
use Rattle.std.proofs.Common.{◌≡◌, ◌<◌, ◌≤◌, ◌+◌, ℕ, Bool, true, false, not, List, [], ◌∷◌, ◌++◌, map, length, Option, Some, None, refl, sym, ap, subst, ◌∙◌, arith}
use Rattle.std.specs.Prelude.{◌==◌, ◌||◌, ◌-◌, Contains, is_none, is_some, min, nat_eq, nat_lt, slice_index_or, if◌then◌else◌}
use Rattle.std.specs.Cmp.Lexicographic.{pointwise}
use Rattle.std.specs.List.{flat_map}
use Rattle.std.proofs.Common.{length-append, zero, suc}
use Rattle.std.proofs.lemmas.List.{length-map}
use Rattle.std.specs.List.{AllByRecursion, cons_option, filter_map}
use Rattle.std.specs.List.Sorted.{IsPermutation}
use Rattle.std.specs.Option.{option_and_then, option_map}
use Rattle.std.proofs.lemmas.List.Elements.{All-contains_itself, All-weaker, Contains-append_left, recursion_from_All}
use Rattle.std.proofs.lemmas.List.Sorted.{Contains-permutation, IsPermutation-sym, IsPermutation-trans, length_permutation}
use Rattle.base_devices.specs.CrashImages.{Image}
use Rattle.base_devices.specs.SpoolCalls.{Folder, HasDistinctNames, MessageFile, SpoolState, names_of, shown_files}
use Rattle.index_form.specs.declared.record.IndexRecord.{IndexRecord}
use Rattle.index_form.specs.declared.view.IndexView.{IndexView}
use Rattle.index_form.specs.Views.{file_of}
use Rattle.mail_scan.specs.Listing.{GaveTooMany, IsInOrder, ListsFolder, Names, NamesMessage, SortsOut, uid_in}
use Rattle.mail_rebuild.specs.declared.taking.Made.{Made}
use Rattle.mail_rebuild.specs.Findings.{Finding, Rises, RisesBy, dropped_from, file_named, finding_of, kept_from, message_named, record_from, messages_in, odd_in, records_in, uid_from}
use Rattle.mail_rebuild.specs.Merging.{HasOneUid, Pair, merged, uid_of, usable_of}
use Rattle.mail_rebuild.specs.Planning.{IsListed, IsMadeOf, IsPlanRefusal, PlansFor, contents_of}
use Rattle.mail_rebuild.specs.NewIndex.{is_due, next_modseq}
use Rattle.mail_rebuild.specs.Rebuilds.{AreContents, Contents, Counts, IsWithinSizes, LimitIsPassed, Task}
use Rattle.mail_rebuild.specs.Rebuilt.{change_is_due, dropped, fresh, header_over, is_message, modseq_of, old_header, rebuilt_header, rebuilt_records, uid_of_file, usable_in, whole_index}
use Rattle.mail_rebuild.specs.Taking.{IsNumbered, IsSpoolFault, IsTaken, NamesFile, odd_of}
use Rattle.std.proofs.Common.{Result, Ok, Err, ◌⊎◌, inr}
use Rattle.std.specs.Prelude.{IfErr, IfSome, OnOk}
use Rattle.std.proofs.Common.{true≢false}
use Rattle.base_bytes.specs.declared.limits.TheConstants.{FILES_LIMIT, SKIP_LIMIT}
use Rattle.std.proofs.lemmas.Bool.Decides.{nat_tests}
use Rattle.base_devices.specs.Causes.{FaultHasCause, Rose}
use Rattle.base_notes.specs.declared.action.Options.{Options}
use Rattle.index_form.specs.declared.header.IndexHeader.{IndexHeader}
use Rattle.index_form.specs.Spelling.{header_bytes, record_bytes}
use Rattle.index_form.specs.Totals.{AreTotals, greatest_uid}
use Rattle.mail_rebuild.specs.declared.fault.RebuildFault.{RebuildFault}
use Rattle.mail_rebuild.specs.declared.fault.RebuildFault.TheVariants.{DiskFault, ModseqFull, NoMemory, SpoolFault, TooBig, TooMany, WriteFault}
use Rattle.mail_rebuild.specs.declared.old_index.OldIndex.{OldIndex}
use Rattle.mail_rebuild.specs.declared.old_index.OldIndex.TheVariants.{Absent, Damaged, Whole}
use Rattle.mail_rebuild.specs.declared.planning.Plan.{Plan}
use Rattle.mail_rebuild.specs.MadeReport.{report_of}
use Rattle.mail_rebuild.specs.OldFile.{IsReadKind, IsReadRefusal, IsTooBig}
use Rattle.mail_rebuild.specs.OldIndex.{IsOldIndex, view_of}
use Rattle.mail_rebuild.specs.Report.{line_of_uid, report}
use Rattle.mail_rebuild.proofs.FindingLemmas.{IsLookedUp, all_looked_up}
use Rattle.mail_rebuild.proofs.FolderLemmas.{all_messages, all_odd, named_so, names_rise, odd_named}
use Rattle.mail_rebuild.proofs.MergeLemmas.{RisesFrom, names_merged, records_merged, rises_increasing, rises_merged, together_merged, usable_of-rises}
use Rattle.mail_rebuild.proofs.RebuiltLemmas.{dropped_is, fresh_is, kept_and_fresh, lines_are, messages_rise, no_fresh, records_are, uids_all, uids_rise}
use Rattle.mail_scan.proofs.NameLemmas.{tells_message, text_same}

-- ---- what a folder gives

pub listed_few : (s : SpoolState) (files : List MessageFile) (names : Names) (limit : ℕ) → shown_files s ≡ Some files → ((folder : Folder) → s.folder ≡ Some folder → ListsFolder folder limit names) → length names.messages ≤ limit
listed_few s files names limit shown lists = go s.folder refl shown
  where
    go : (f : Option Folder) → s.folder ≡ f → shown_files (record { folder = f; faults = s.faults }) ≡ Some files → length names.messages ≤ limit
    go None e is = absurd (cc)
    go (Some folder) e is =
        let listed = lists folder e in
        let given = length_permutation _ _ listed.sorted_out.all in
        omega (arith, listed.few, given, length-map folder.files (λ (f : MessageFile). f.name), length-append names.messages (names.odd ++ listed.sorted_out.passed_over))

pub files_few : (s : SpoolState) (files : List MessageFile) (names : Names) (limit : ℕ) → shown_files s ≡ Some files → ((folder : Folder) → s.folder ≡ Some folder → ListsFolder folder limit names) → length files ≤ limit
files_few s files names limit shown lists = go s.folder refl shown
  where
    go : (f : Option Folder) → s.folder ≡ f → shown_files (record { folder = f; faults = s.faults }) ≡ Some files → length files ≤ limit
    go None e is = absurd (cc)
    go (Some folder) e is = let same : folder.files ≡ files = cc in subst (λ (fs : List MessageFile). length fs ≤ limit) same (lists folder e).few

pub is_listed : (s : SpoolState) (files : List MessageFile) (names : Names) (limit : ℕ) → shown_files s ≡ Some files → ((folder : Folder) → s.folder ≡ Some folder → ListsFolder folder limit names)
    → ((folder : Folder) → s.folder ≡ Some folder → HasDistinctNames folder.files) → IsInOrder names → IsListed files names
is_listed s files names limit shown lists distinct order = go s.folder refl shown
  where
    go : (f : Option Folder) → s.folder ≡ f → shown_files (record { folder = f; faults = s.faults }) ≡ Some files → IsListed files names
    go None e is = absurd (cc)
    go (Some folder) e is =
        let same : folder.files ≡ files = cc in
        record {
          distinct = subst HasDistinctNames same (distinct folder e);
          sorts = subst (λ fs. SortsOut (names_of fs) names) same (lists folder e).sorted_out;
          order = order;
        }

pub gave_more : (s : SpoolState) (files : List MessageFile) (new : Option Folder) (limit : ℕ) → shown_files s ≡ Some files → ((folder : Folder) → s.folder ≡ Some folder → GaveTooMany folder new limit) → limit < length files
gave_more s files new limit shown gave = go s.folder refl shown
  where
    go : (f : Option Folder) → s.folder ≡ f → shown_files (record { folder = f; faults = s.faults }) ≡ Some files → limit < length files
    go None e is = absurd (cc)
    go (Some folder) e is =
        let same : folder.files ≡ files = cc in
        subst (λ (fs : List MessageFile). limit < length fs) same (gave folder e).more

-- a name that a file has
named_at : (files : List MessageFile) (name : List ℕ) (k : ℕ) → k < length (names_of files) → slice_index_or (names_of files) k name ≡ name → (file : MessageFile) × (file_named files name ≡ Some file)
named_at [] name k within is = absurd (omega (arith, within))
named_at (f ∷ files) name k within is = go (pointwise nat_eq f.name name) refl k within is (λ j l e. named_at files name j l e)
  where
    go : (b : Bool) → pointwise nat_eq f.name name ≡ b → (i : ℕ) → i < length (names_of (f ∷ files)) → slice_index_or (names_of (f ∷ files)) i name ≡ name
        → ((j : ℕ) → j < length (names_of files) → slice_index_or (names_of files) j name ≡ name → (file : MessageFile) × (file_named files name ≡ Some file))
        → (file : MessageFile) × (file_named (f ∷ files) name ≡ Some file)
    go true e i l at more = (f, rw e refl)
    go false e zero l at more = absurd (let yes_ : pointwise nat_eq f.name name ≡ true = text_same f.name name at in cc)
    go false e (suc j) l at more = let rest = more j (omega (arith, l)) at in (rest.0, rw e rest.1)

names_file : (files : List MessageFile) (name : List ℕ) → Contains (names_of files) name → NamesMessage name → NamesFile files name
names_file files name has is =
    let found = named_at files name has.0 has.1 has.2 in
    record { file = found.0; has = found.1; is_message = tells_message name is.0 is.1 }

each_names_file : (files : List MessageFile) (names : List (List ℕ)) → AllByRecursion (Contains (names_of files)) names → AllByRecursion NamesMessage names → AllByRecursion (NamesFile files) names
each_names_file files [] has are = tt
each_names_file files (name ∷ names) has are = (names_file files name has.0 are.0, each_names_file files names has.1 are.1)

pub names_files : (files : List MessageFile) (names : Names) → IsListed files names → AllByRecursion (NamesFile files) names.messages
names_files files names listed =
    let all = listed.sorts.all in
    let rest = names.odd ++ listed.sorts.passed_over in
    each_names_file files names.messages
    (recursion_from_All (Contains (names_of files)) names.messages
    (All-weaker (Contains names.messages) (Contains (names_of files))
    (λ name has. Contains-permutation (names.messages ++ rest) (names_of files) name (IsPermutation-sym (names_of files) (names.messages ++ rest) all) (Contains-append_left names.messages rest name has))
    names.messages (All-contains_itself names.messages)))
    (recursion_from_All NamesMessage names.messages listed.sorts.messages)

-- ---- the findings of a merge rise

-- the message of a name has its uid
message_uid : (files : List MessageFile) (name : List ℕ) (file : MessageFile) → message_named files name ≡ Some file → uid_of_file file ≡ uid_in name
message_uid files name file is = go (file_named files name) refl is
  where
    by_test : (f : MessageFile) → file_named files name ≡ Some f → (b : Bool) → (if b then Some f else None) ≡ Some file → uid_of_file file ≡ uid_in name
    by_test f named false none = absurd (cc)
    by_test f named true some =
        let same : f ≡ file = cc in
        ap uid_of_file (sym same) ∙ ap uid_in (named_so files name f named)

    go : (r : Option MessageFile) → file_named files name ≡ r → option_and_then (λ (f : MessageFile). if is_message f then Some f else None) r ≡ Some file → uid_of_file file ≡ uid_in name
    go None named e = absurd (cc)
    go (Some f) named e = by_test f named (is_message f) e

rises_pair : (files : List MessageFile) (n m : ℕ) (name : Option (List ℕ)) (old : Option IndexRecord) (ns : List ℕ) (others : ℕ → Type 0) → n ≤ m
    → RisesFrom m (uid_of (record { name = name; old = old }) ∷ ns) → HasOneUid (record { name = name; old = old })
    → ((k l : ℕ) → k ≤ l → RisesFrom l ns → others k)
    → (message : Option MessageFile) → option_and_then (message_named files) name ≡ message → RisesBy n message old others
rises_pair files n m None None ns others up rise one more None e = more n 1 (omega (arith, up, rise.0)) rise.1
rises_pair files n m None None ns others up rise one more (Some file) e = absurd (cc)
rises_pair files n m None (Some r) ns others up rise one more None e = (omega (arith, up, rise.0), more (r.uid + 1) (r.uid + 1) (omega arith) rise.1)
rises_pair files n m None (Some r) ns others up rise one more (Some file) e = absurd (cc)
rises_pair files n m (Some name) None ns others up rise one more None e = more n (uid_in name + 1) (omega (arith, up, rise.0)) rise.1
rises_pair files n m (Some name) None ns others up rise one more (Some file) e =
    let own = message_uid files name file e in
    rw own (omega (arith, up, rise.0), more (uid_in name + 1) (uid_in name + 1) (omega arith) rise.1)
rises_pair files n m (Some name) (Some r) ns others up rise one more None e = (omega (arith, up, rise.0), more (r.uid + 1) (r.uid + 1) (omega arith) rise.1)
rises_pair files n m (Some name) (Some r) ns others up rise one more (Some file) e =
    let own : uid_of_file file ≡ r.uid = message_uid files name file e ∙ one name r refl refl in
    rw own (omega (arith, up, rise.0), refl, more (r.uid + 1) (r.uid + 1) (omega arith) rise.1)

findings_rise : (files : List MessageFile) (n m : ℕ) (pairs : List Pair) → n ≤ m → RisesFrom m (map uid_of pairs) → AllByRecursion HasOneUid pairs → Rises n (map (finding_of files) pairs)
findings_rise files n m [] up rises together = tt
findings_rise files n m (pair ∷ pairs) up rises together =
    rises_pair files n m pair.name pair.old (map uid_of pairs) (λ k. Rises k (map (finding_of files) pairs)) up rises together.0
    (λ k l less rise. findings_rise files k l pairs less rise together.1)
    (option_and_then (message_named files) pair.name) refl

-- ---- what the pairs of a merge hold

records_of_pairs : (files : List MessageFile) (pairs : List Pair) → records_in (map (finding_of files) pairs) ≡ filter_map (λ pair. pair.old) pairs
records_of_pairs files [] = refl
records_of_pairs files (pair ∷ pairs) = ap (cons_option pair.old) (records_of_pairs files pairs)

chained : {Y Z : Type 0} (f : Y → Option Z) (o : Option Y) (rest : List Y) → filter_map f (cons_option o rest) ≡ cons_option (option_and_then f o) (filter_map f rest)
chained f None rest = refl
chained f (Some y) rest = refl

messages_of_pairs : (files : List MessageFile) (pairs : List Pair) → messages_in (map (finding_of files) pairs) ≡ filter_map (message_named files) (filter_map (λ pair. pair.name) pairs)
messages_of_pairs files [] = refl
messages_of_pairs files (pair ∷ pairs) =
    ap (cons_option (option_and_then (message_named files) pair.name)) (messages_of_pairs files pairs)
    ∙ sym (chained (message_named files) pair.name (filter_map (λ (p : Pair). p.name) pairs))

odd_is : (files : List MessageFile) (name : Option (List ℕ)) (old : Option IndexRecord) → odd_in files (record { name = name; old = old }) ≡ option_and_then (odd_named files) name
odd_is files None old = refl
odd_is files (Some name) old = go (message_named files name) refl
  where
    go : (m : Option MessageFile) → message_named files name ≡ m → odd_in files (record { name = Some name; old = old }) ≡ odd_named files name
    go None e = rw e refl
    go (Some file) e = rw e refl

odd_of_pairs : (files : List MessageFile) (pairs : List Pair) → filter_map (odd_in files) pairs ≡ filter_map (odd_named files) (filter_map (λ pair. pair.name) pairs)
odd_of_pairs files [] = refl
odd_of_pairs files (pair ∷ pairs) =
    (λ i. cons_option (odd_is files pair.name pair.old i) (odd_of_pairs files pairs i))
    ∙ sym (chained (odd_named files) pair.name (filter_map (λ (p : Pair). p.name) pairs))

-- ---- what was made of all

pub usable_is : (view : Option IndexView) (old : Image) → option_map file_of view ≡ whole_index old → usable_of view ≡ usable_in old
usable_is None old is = rw (← is) refl
usable_is (Some view) old is = rw (← is) refl

abbrev pub found_in : List MessageFile → Names → List IndexRecord → List Finding
found_in files names usable = map (finding_of files) (merged names.messages usable)

found_rises : (files : List MessageFile) (names : Names) (view : Option IndexView) → IsListed files names → Rises 0 (found_in files names (usable_of view))
found_rises files names view listed =
    findings_rise files 0 0 (merged names.messages (usable_of view)) (omega arith)
    (rises_merged names.messages 0 (usable_of view) (names_rise files names listed.distinct listed.sorts listed.order) (usable_of-rises view))
    (together_merged names.messages (usable_of view))

pub made_of_all : (files : List MessageFile) (names : Names) (view : Option IndexView) (old : Image) (now : ℕ) (made : Made) → IsListed files names → option_map file_of view ≡ whole_index old
    → IsTaken files names (usable_of view) made → IsNumbered (old_header (whole_index old)) now made.index → IsMadeOf old now (found_in files names (usable_of view)) made
made_of_all files names view old now made listed is taken numbered = record {
  rises = found_rises files names view listed;
  usable = records_of_pairs files (merged names.messages (usable_of view)) ∙ records_merged names.messages (usable_of view) ∙ usable_is view old is;
  holds = taken.findings;
  numbers = numbered;
}

-- the look-ups at each finding
pub looked_up : (old : Image) (now : ℕ) (found : List Finding) (made : Made) → IsMadeOf old now found made → AllByRecursion (IsLookedUp (messages_in found) (usable_in old)) found
looked_up old now found made is = subst (λ rs. AllByRecursion (IsLookedUp (messages_in found) rs) found) is.usable (all_looked_up 0 [] [] found tt tt is.rises)

dropped_are : (old : Image) (now : ℕ) (found : List Finding) (made : Made) → IsMadeOf old now found made → dropped old (messages_in found) ≡ filter_map dropped_from found
dropped_are old now found made is =
    let kept = dropped_is (messages_in found) (usable_in old) found (looked_up old now found made is) in
    rw is.usable at kept

pub contents_are : (files : List MessageFile) (names : Names) (view : Option IndexView) (old : Image) (now : ℕ) (made : Made) → IsListed files names → option_map file_of view ≡ whole_index old
    → IsTaken files names (usable_of view) made → IsNumbered (old_header (whole_index old)) now made.index → AreContents files old (contents_of (found_in files names (usable_of view)) made)
contents_are files names view old now made listed is taken numbered =
    let found = found_in files names (usable_of view) in
    let pairs = merged names.messages (usable_of view) in
    let of = made_of_all files names view old now made listed is taken numbered in
    let messages : messages_in found ≡ filter_map (message_named files) names.messages =
    messages_of_pairs files pairs ∙ ap (filter_map (message_named files)) (names_merged names.messages (usable_of view)) in
    let odd : filter_map (odd_in files) pairs ≡ filter_map (odd_named files) names.messages =
    odd_of_pairs files pairs ∙ ap (filter_map (odd_named files)) (names_merged names.messages (usable_of view)) in
    record {
      sorted = record {
        all_messages = rw messages (all_messages files names listed.distinct listed.sorts);
        by_uid = rises_increasing 0 (map uid_of_file (messages_in found)) (messages_rise 0 found of.rises);
        all_odd = IsPermutation-trans _ _ _ (all_odd files names listed.distinct listed.sorts) (subst (λ o. IsPermutation (o ++ names.odd) (odd_of made)) odd taken.all_odd);
        by_bytes = taken.by_bytes;
      };
      all_uids = record {
        all_uids = rw (dropped_are old now found made of) (uids_all found);
        rising = rises_increasing 0 (filter_map uid_from found) (uids_rise 0 found of.rises);
      };
    }

-- ---- the modification number

pub next_full : (last : ℕ) (due : Bool) → next_modseq last due ≡ None → (18446744073709551615 ≤ last) × (due ≡ true)
next_full last false none = absurd (cc)
next_full last true none = go (nat_lt last 18446744073709551615) refl none
  where
    go : (b : Bool) → nat_lt last 18446744073709551615 ≡ b → (if b then Some (last + 1) else None) ≡ None → (18446744073709551615 ≤ last) × (true ≡ true)
    go true e is = absurd (cc)
    go false e is = (grind (arith, nat_tests, e), refl)

-- where there is a number, it is not due after the last one
next_not_full : (last number : ℕ) (due : Bool) → next_modseq last due ≡ Some number → 18446744073709551615 ≤ last → due ≡ true → ⊥
next_not_full last number false some full is = true≢false (sym is)
next_not_full last number true some full is = go (nat_lt last 18446744073709551615) refl some
  where
    go : (b : Bool) → nat_lt last 18446744073709551615 ≡ b → (if b then Some (last + 1) else None) ≡ Some number → ⊥
    go true e found = grind (arith, nat_tests, e, full)
    go false e found = absurd (cc)

-- the number of the rebuild, and that by which fresh records are made
next_is : (last number : ℕ) (due : Bool) → next_modseq last due ≡ Some number → (number ≡ last + (if due then 1 else 0)) × (due ≡ true → min (last + 1) 18446744073709551615 ≡ number)
next_is last number false some = (let same : last ≡ number = cc in omega (arith, same), λ e. absurd (cc))
next_is last number true some = go (nat_lt last 18446744073709551615) refl some
  where
    go : (b : Bool) → nat_lt last 18446744073709551615 ≡ b → (if b then Some (last + 1) else None) ≡ Some number → (number ≡ last + 1) × (true ≡ true → min (last + 1) 18446744073709551615 ≡ number)
    go false e is = absurd (cc)
    go true e is =
        let same : last + 1 ≡ number = cc in
        let below : last < 18446744073709551615 = grind (arith, nat_tests, e) in
        (sym same, λ yes_. omega (arith, same, below))

-- ---- counts and changes

pub counts_are : (old : Image) (now : ℕ) (found : List Finding) (made : Made) → IsMadeOf old now found made → Counts old (messages_in found) made.index.tally
counts_are old now found made is = record {
  all = ap (λ n. n + made.index.tally.fresh) is.holds.kept ∙ ap (λ n. length (filter_map kept_from found) + n) is.holds.fresh ∙ kept_and_fresh found;
  fresh = is.holds.fresh ∙ ap length (sym (fresh_is (messages_in found) (usable_in old) found (looked_up old now found made is)));
  dropped = is.holds.dropped ∙ ap length (sym (dropped_are old now found made is));
}

pub due_is : (old : Image) (now : ℕ) (found : List Finding) (made : Made) (view : Option IndexView) → IsMadeOf old now found made → option_map file_of view ≡ whole_index old
    → is_due (is_some view) made.index.tally ≡ change_is_due old (messages_in found)
due_is old now found made view is whole =
    let counts = counts_are old now found made is in
    (λ i. not (is_some view) || nat_lt 0 (counts.fresh i + counts.dropped i)) ∙ go view whole
  where
    changed : Bool
    changed = nat_lt 0 (length (fresh old (messages_in found)) + length (dropped old (messages_in found)))

    go : (v : Option IndexView) → option_map file_of v ≡ whole_index old → (not (is_some v) || changed) ≡ change_is_due old (messages_in found)
    go None e = rw (← e) refl
    go (Some v) e = rw (← e) refl

no_change : (old : Image) (messages : List MessageFile) → change_is_due old messages ≡ false → length (fresh old messages) ≡ 0
no_change old messages none = go (is_none (whole_index old)) (length (fresh old messages)) (length (dropped old messages)) none
  where
    go : (b : Bool) (n m : ℕ) → (b || nat_lt 0 (n + m)) ≡ false → n ≡ 0
    go true n m e = absurd (cc)
    go false n m e = grind (arith, nat_tests, e)

-- the records that were made are those of the rebuild
made_records : (old : Image) (now : ℕ) (found : List Finding) (made : Made) (number : ℕ) → IsMadeOf old now found made → number ≡ modseq_of old (messages_in found)
    → (change_is_due old (messages_in found) ≡ true → made.index.modseq ≡ number)
    → filter_map (record_from made.index.modseq made.index.time) found ≡ rebuilt_records old (messages_in found) now
made_records old now found made number is own due =
    (λ i. filter_map (record_from made.index.modseq (is.numbers.time i)) found)
    ∙ go (change_is_due old (messages_in found)) refl
    ∙ sym (records_are old (messages_in found) now found (looked_up old now found made is))
  where
    go : (b : Bool) → change_is_due old (messages_in found) ≡ b → filter_map (record_from made.index.modseq now) found ≡ filter_map (record_from (modseq_of old (messages_in found)) now) found
    go true e = ap (λ n. filter_map (record_from n now) found) (due e ∙ own)
    go false e =
        let none = no_change old (messages_in found) e in
        let counts = counts_are old now found made is in
        no_fresh made.index.modseq (modseq_of old (messages_in found)) now found (sym is.holds.fresh ∙ counts.fresh ∙ none)

-- ---- the plan

report_is : (options : Options) (old : Image) (now : ℕ) (found : List Finding) (made : Made) → IsMadeOf old now found made
    → report_of options old made ≡ report options old (messages_in found) (filter_map uid_from found) (odd_of made)
report_is options old now found made is =
    let counts = counts_are old now found made is in
    let lines : made.index.lines.items ≡ flat_map (line_of_uid (usable_in old) (messages_in found)) (filter_map uid_from found) =
    is.holds.lines ∙ sym (lines_are (messages_in found) (usable_in old) found (looked_up old now found made is)) in
    let kept : made.index.tally.kept ≡ length (messages_in found) - length (fresh old (messages_in found)) = omega (arith, counts.all, counts.fresh) in
    simp (lines, kept, counts.fresh, counts.dropped)

over : Image → IndexHeader → List IndexRecord → ℕ → ℕ → ℕ → IndexHeader
over old h rs time number dropped = record (header_over h (usable_in old) rs time) {
  highestmodseq = number;
  deletedmodseq = if dropped == 0 then h.deletedmodseq else number;
}

-- what the code knows of a header over the new records
abbrev pub HeaderIs : Made → IndexHeader → ℕ → IndexHeader → Type 0
HeaderIs made h number header =
    (usable rs : List IndexRecord) → AreTotals rs made.index.totals → made.index.usable_uid ≡ greatest_uid usable
    → header ≡ record (header_over h usable rs made.index.time) {
      highestmodseq = number;
      deletedmodseq = if made.index.tally.dropped == 0 then h.deletedmodseq else number;
    }

pub plan_is : (options : Options) (old : Image) (now : ℕ) (found : List Finding) (made : Made) (view : Option IndexView) (h : IndexHeader) (number : ℕ) (plan : Plan)
    → IsMadeOf old now found made → option_map file_of view ≡ whole_index old → h ≡ old_header (whole_index old)
    → next_modseq h.highestmodseq (is_due (is_some view) made.index.tally) ≡ Some number
    → plan.text.items ≡ report_of options old made → HeaderIs made h number plan.header → plan.records.items ≡ made.index.records.items → plan.tally ≡ made.index.tally
    → PlansFor options old now (contents_of found made) plan
unfolding over
plan_is options old now found made view h number plan is whole header_is next text header records tally =
    let due = due_is old now found made view is whole in
    let next_due : next_modseq (old_header (whole_index old)).highestmodseq (change_is_due old (messages_in found)) ≡ Some number =
    (λ i. next_modseq (sym header_is i).highestmodseq (sym due i)) ∙ next in
    let known = next_is (old_header (whole_index old)).highestmodseq number (change_is_due old (messages_in found)) next_due in
    let rs = made_records old now found made number is known.0 (λ e. is.numbers.modseq ∙ known.1 e) in
    let counts = counts_are old now found made is in
    let made_header = header (usable_in old) (filter_map (record_from made.index.modseq made.index.time) found) is.holds.totals (is.holds.usable ∙ ap greatest_uid is.usable) in
    let whole_header : plan.header ≡ rebuilt_header old (messages_in found) now =
    made_header ∙ (λ i. over old (header_is i) (rs i) (is.numbers.time i) (known.0 i) (counts.dropped i)) in
    record {
      text = text ∙ report_is options old now found made is;
      bytes = λ i. header_bytes (whole_header i) ++ (records ∙ is.holds.bytes ∙ ap (flat_map record_bytes) rs) i;
      tally = rw tally counts;
      number = λ is_full. next_not_full _ _ _ next_due is_full.last is_full.due;
    }

pub view_is : (old : Image) (index : OldIndex) → IsOldIndex old index → option_map file_of (view_of index) ≡ whole_index old
view_is old Absent is = rw is refl
view_is old (Damaged fault) is = rw (is.1, is.2) refl
view_is old (Whole view) is = rw (is.0, is.1) refl

-- ---- refusals

pub limit_passed : (fault : RebuildFault) (task : Task) (contents : Contents) → IsWithinSizes task → AreContents task.files task.old contents → IsPlanRefusal task.old contents.messages fault → LimitIsPassed fault task
limit_passed SpoolFault task contents sizes are is = tt
limit_passed TooMany task contents sizes are is = absurd is
limit_passed (TooBig size) task contents sizes are is = absurd is
limit_passed ModseqFull task contents sizes are is = (sizes, contents, are, is)
limit_passed DiskFault task contents sizes are is = tt
limit_passed WriteFault task contents sizes are is = tt
limit_passed NoMemory task contents sizes are is = tt

pub read_limit : (fault : RebuildFault) (task : Task) → length task.files ≤ FILES_LIMIT → IsReadRefusal task.old fault → LimitIsPassed fault task
read_limit SpoolFault task few is = tt
read_limit TooMany task few is = absurd is
read_limit (TooBig size) task few is = (few, is)
read_limit ModseqFull task few is = absurd is
read_limit DiskFault task few is = tt
read_limit WriteFault task few is = tt
read_limit NoMemory task few is = tt

-- a file that was read is not too big
pub sizes_are : {T : Type 0} (task : Task) (bytes_in : T → List ℕ) (file : Option T) → length task.files ≤ FILES_LIMIT → task.old ≡ option_map bytes_in file → IfSome file (λ b. length (bytes_in b) ≤ SKIP_LIMIT) → IsWithinSizes task
sizes_are {T} task bytes_in file few read short = record { few = few; small = λ size big. go file read short size big }
  where
    go : (f : Option T) → task.old ≡ option_map bytes_in f → IfSome f (λ b. length (bytes_in b) ≤ SKIP_LIMIT) → (size : ℕ) → IsTooBig task.old size → ⊥
    go None e is size big = absurd (cc (sym e ∙ big.there))
    go (Some b) e is size big =
        let same : bytes_in b ≡ big.bytes = cc (sym e ∙ big.there) in
        omega (arith, is, big.over, big.counted, ap length same)

pub no_spool_fault : (fault : RebuildFault) → IsReadKind fault → IsSpoolFault fault → ⊥
no_spool_fault SpoolFault kind is = kind
no_spool_fault TooMany kind is = is
no_spool_fault (TooBig size) kind is = is
no_spool_fault ModseqFull kind is = is
no_spool_fault DiskFault kind is = is
no_spool_fault WriteFault kind is = is
no_spool_fault NoMemory kind is = is

pub if_err_weaker : {T E : Type 0} (r : Result T E) (P Q : E → Type 0) → ((e : E) → P e → Q e) → IfErr r P → IfErr r Q
if_err_weaker (Ok x) P Q f has = has
if_err_weaker (Err e) P Q f has = f e has

-- another device than the one that counts has failed
pub other_failed : {T E : Type 0} (K IsFault : E → Type 0) (before now : ℕ) (r : Result T E) → IfErr r K → ((e : E) → K e → IsFault e → ⊥) → now ≡ before → FaultHasCause IsFault before now r
other_failed {T} {E} K IsFault before now r kind none same = record {
  later = omega (arith, same);
  rose = if_err_weaker r K (λ e. IsFault e → Rose before now) (λ e k is. absurd (none e k is)) kind;
  stood = if_err_weaker r K (λ e. IsFault e ⊎ (now ≡ before)) (λ e k. inr same) kind;
  kept = go r;
}
  where
    go : (s : Result T E) → OnOk s (now ≡ before)
    go (Ok x) = same
    go (Err e) = tt
