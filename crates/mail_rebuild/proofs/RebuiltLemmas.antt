-- What is rebuilt and printed, made finding by finding.
use Rattle.std.proofs.Common.{◌≡◌, ◌≤◌, ◌+◌, ℕ, Bool, true, false, not, List, [], ◌∷◌, ◌++◌, map, length, Option, None, Some, refl, sym, ap, ◌∙◌, arith}
use Rattle.std.specs.Prelude.{◌==◌, is_none, is_some, if◌then◌else◌, codes}
use Rattle.std.specs.List.{AllByRecursion, cons_option, filter, filter_map, flat_map, list_any}
use Rattle.std.specs.List.Sorted.{IsPermutation}
use Rattle.std.proofs.lemmas.List.Sorted.{IsPermutation-refl, IsPermutation-trans, IsPermutation-cons, IsPermutation-middle}
use Rattle.std.proofs.lemmas.List.Concat.{flat_map-cons}
use Rattle.base_devices.specs.SpoolCalls.{MessageFile}
use Rattle.base_devices.specs.CrashImages.{Image}
use Rattle.index_form.specs.declared.record.IndexRecord.{IndexRecord}
use Rattle.mail_rebuild.specs.Findings.{Finding, Rises, RisesBy, dropped_from, fresh_from, kept_from, line_from, messages_in, record_from, records_in, uid_from}
use Rattle.mail_rebuild.specs.Rebuilt.{fresh_record, kept, kept_record, matches, modseq_of, rebuilt_record, uid_of_file, usable_in}
use Rattle.mail_rebuild.specs.Report.{line_of_uid, uid_line}
use Rattle.mail_rebuild.proofs.MergeLemmas.{RisesFrom}
use Rattle.mail_rebuild.proofs.FindingLemmas.{IsLookedUp, finding}

module _ (messages : List MessageFile) (usable : List IndexRecord) where
  -- the messages that keep nothing
  pub fresh_is : (found : List Finding) → AllByRecursion (IsLookedUp messages usable) found → filter (λ file. is_none (kept usable file)) (messages_in found) ≡ filter_map fresh_from found
  fresh_is [] all = refl
  fresh_is (f ∷ found) all = go f.message f.old all.0 (fresh_is found all.1)
    where
      go : (m : Option MessageFile) (o : Option IndexRecord) → IsLookedUp messages usable (finding m o) → filter (λ file. is_none (kept usable file)) (messages_in found) ≡ filter_map fresh_from found
          → filter (λ file. is_none (kept usable file)) (cons_option m (messages_in found)) ≡ cons_option (fresh_from (finding m o)) (filter_map fresh_from found)
      go None o is others = others
      go (Some file) None is others = rw (is.kept file refl) (ap (λ xs. file ∷ xs) others)
      go (Some file) (Some old) is others = rw (is.kept file refl) (by_match (matches file old))
        where
          by_match : (b : Bool) → (if is_none (if b then Some old else None) then file ∷ filter (λ f. is_none (kept usable f)) (messages_in found) else filter (λ f. is_none (kept usable f)) (messages_in found))
              ≡ cons_option (if b then None else Some file) (filter_map fresh_from found)
          by_match true = others
          by_match false = ap (λ xs. file ∷ xs) others

  -- the records without a message
  pub dropped_is : (found : List Finding) → AllByRecursion (IsLookedUp messages usable) found → filter (λ r. not (list_any (λ file. uid_of_file file == r.uid) messages)) (records_in found) ≡ filter_map dropped_from found
  dropped_is [] all = refl
  dropped_is (f ∷ found) all = go f.message f.old all.0 (dropped_is found all.1)
    where
      go : (m : Option MessageFile) (o : Option IndexRecord) → IsLookedUp messages usable (finding m o) → filter (λ r. not (list_any (λ file. uid_of_file file == r.uid) messages)) (records_in found) ≡ filter_map dropped_from found
          → filter (λ r. not (list_any (λ file. uid_of_file file == r.uid) messages)) (cons_option o (records_in found)) ≡ cons_option (dropped_from (finding m o)) (filter_map dropped_from found)
      go None None is others = others
      go (Some file) None is others = others
      go None (Some old) is others = rw (is.has_message old refl) (ap (λ xs. old ∷ xs) others)
      go (Some file) (Some old) is others = rw (is.has_message old refl) others

  -- the lines
  pub lines_are : (found : List Finding) → AllByRecursion (IsLookedUp messages usable) found → flat_map (line_of_uid usable messages) (filter_map uid_from found) ≡ flat_map line_from found
  lines_are [] all = refl
  lines_are (f ∷ found) all = go f.message f.old all.0 (lines_are found all.1)
    where
      lines : Option ℕ → List ℕ
      lines u = flat_map (line_of_uid usable messages) (cons_option u (filter_map uid_from found))

      go : (m : Option MessageFile) (o : Option IndexRecord) → IsLookedUp messages usable (finding m o) → flat_map (line_of_uid usable messages) (filter_map uid_from found) ≡ flat_map line_from found
          → lines (uid_from (finding m o)) ≡ flat_map line_from (finding m o ∷ found)
      go None None is others = others ∙ sym (flat_map-cons line_from (finding None None) found)
      go None (Some old) is others =
          let line : line_of_uid usable messages old.uid ≡ line_from (finding None (Some old)) = rw (is.named old.uid refl) refl in
          flat_map-cons (line_of_uid usable messages) old.uid (filter_map uid_from found)
          ∙ (λ i. line i ++ others i)
          ∙ sym (flat_map-cons line_from (finding None (Some old)) found)
      go (Some file) None is others =
          let line : line_of_uid usable messages (uid_of_file file) ≡ line_from (finding (Some file) None) = rw (is.named (uid_of_file file) refl, is.kept file refl, is.has_record file refl) refl in
          flat_map-cons (line_of_uid usable messages) (uid_of_file file) (filter_map uid_from found)
          ∙ (λ i. line i ++ others i)
          ∙ sym (flat_map-cons line_from (finding (Some file) None) found)
      go (Some file) (Some old) is others =
          let line : line_of_uid usable messages (uid_of_file file) ≡ line_from (finding (Some file) (Some old)) = rw (is.named (uid_of_file file) refl, is.kept file refl, is.has_record file refl) (by_match file old (matches file old)) in
          flat_map-cons (line_of_uid usable messages) (uid_of_file file) (filter_map uid_from found)
          ∙ (λ i. line i ++ others i)
          ∙ sym (flat_map-cons line_from (finding (Some file) (Some old)) found)
        where
          by_match : (file : MessageFile) (old : IndexRecord) (b : Bool) → (if is_some (if b then Some old else None) then [] else uid_line (uid_of_file file) (codes " unmatched\n")) ≡ (if b then [] else uid_line (uid_of_file file) (codes " unmatched\n"))
          by_match file old true = refl
          by_match file old false = refl

-- the records
pub records_are : (old : Image) (messages : List MessageFile) (now : ℕ) (found : List Finding) → AllByRecursion (IsLookedUp messages (usable_in old)) found
    → map (rebuilt_record old messages now) (messages_in found) ≡ filter_map (record_from (modseq_of old messages) now) found
records_are old messages now [] all = refl
records_are old messages now (f ∷ found) all = go f.message f.old all.0 (records_are old messages now found all.1)
  where
    made : Finding → Option IndexRecord
    made = record_from (modseq_of old messages) now

    go : (m : Option MessageFile) (o : Option IndexRecord) → IsLookedUp messages (usable_in old) (finding m o) → map (rebuilt_record old messages now) (messages_in found) ≡ filter_map made found
        → map (rebuilt_record old messages now) (cons_option m (messages_in found)) ≡ cons_option (made (finding m o)) (filter_map made found)
    go None o is others = others
    go (Some file) None is others =
        let one : rebuilt_record old messages now file ≡ fresh_record (modseq_of old messages) now file = rw (is.kept file refl) refl in
        λ i. one i ∷ others i
    go (Some file) (Some r) is others =
        let one : rebuilt_record old messages now file ≡ (if matches file r then kept_record r file else fresh_record (modseq_of old messages) now file) = by_match (matches file r) refl in
        λ i. one i ∷ others i
      where
        by_match : (b : Bool) → matches file r ≡ b → rebuilt_record old messages now file ≡ (if b then kept_record r file else fresh_record (modseq_of old messages) now file)
        by_match true e = rw (is.kept file refl, e) refl
        by_match false e = rw (is.kept file refl, e) refl

-- where no message is fresh, the modification number does not matter
pub no_fresh : (a b now : ℕ) (found : List Finding) → length (filter_map fresh_from found) ≡ 0 → filter_map (record_from a now) found ≡ filter_map (record_from b now) found
no_fresh a b now [] none = refl
no_fresh a b now (f ∷ found) none = go f.message f.old none (no_fresh a b now found)
  where
    go : (m : Option MessageFile) (o : Option IndexRecord) → length (cons_option (fresh_from (finding m o)) (filter_map fresh_from found)) ≡ 0
        → (length (filter_map fresh_from found) ≡ 0 → filter_map (record_from a now) found ≡ filter_map (record_from b now) found)
        → cons_option (record_from a now (finding m o)) (filter_map (record_from a now) found) ≡ cons_option (record_from b now (finding m o)) (filter_map (record_from b now) found)
    go None o none others = others none
    go (Some file) None none others = absurd (omega (arith, none))
    go (Some file) (Some r) none others = by_match (matches file r) none
      where
        by_match : (t : Bool) → length (cons_option (if t then None else Some file) (filter_map fresh_from found)) ≡ 0
            → (if t then kept_record r file else fresh_record a now file) ∷ filter_map (record_from a now) found ≡ (if t then kept_record r file else fresh_record b now file) ∷ filter_map (record_from b now) found
        by_match true e = ap (λ xs. kept_record r file ∷ xs) (others e)
        by_match false e = absurd (omega (arith, e))

-- each message keeps its record or is fresh
pub kept_and_fresh : (found : List Finding) → length (filter_map kept_from found) + length (filter_map fresh_from found) ≡ length (messages_in found)
kept_and_fresh [] = refl
kept_and_fresh (f ∷ found) = go f.message f.old (kept_and_fresh found)
  where
    go : (m : Option MessageFile) (o : Option IndexRecord) → length (filter_map kept_from found) + length (filter_map fresh_from found) ≡ length (messages_in found)
        → length (cons_option (kept_from (finding m o)) (filter_map kept_from found)) + length (cons_option (fresh_from (finding m o)) (filter_map fresh_from found)) ≡ length (cons_option m (messages_in found))
    go None o others = others
    go (Some file) None others = omega (arith, others)
    go (Some file) (Some r) others = by_match (matches file r)
      where
        by_match : (t : Bool) → length (cons_option (if t then Some r else None) (filter_map kept_from found)) + length (cons_option (if t then None else Some file) (filter_map fresh_from found)) ≡ length (file ∷ messages_in found)
        by_match true = omega (arith, others)
        by_match false = omega (arith, others)

-- ---- the uids

pub uids_all : (found : List Finding) → IsPermutation (map uid_of_file (messages_in found) ++ map (λ r. r.uid) (filter_map dropped_from found)) (filter_map uid_from found)
uids_all [] = IsPermutation-refl []
uids_all (f ∷ found) = go f.message f.old (uids_all found)
  where
    us : List MessageFile → List ℕ
    us ms = map uid_of_file ms

    ds : List IndexRecord → List ℕ
    ds rs = map (λ r. r.uid) rs

    go : (m : Option MessageFile) (o : Option IndexRecord) → IsPermutation (us (messages_in found) ++ ds (filter_map dropped_from found)) (filter_map uid_from found)
        → IsPermutation (us (cons_option m (messages_in found)) ++ ds (cons_option (dropped_from (finding m o)) (filter_map dropped_from found))) (cons_option (uid_from (finding m o)) (filter_map uid_from found))
    go None None others = others
    go None (Some r) others =
        IsPermutation-trans _ _ _ (IsPermutation-middle (us (messages_in found)) r.uid (ds (filter_map dropped_from found))) (IsPermutation-cons r.uid _ _ others)
    go (Some file) o others = IsPermutation-cons (uid_of_file file) _ _ others

pub uids_rise : (n : ℕ) (found : List Finding) → Rises n found → RisesFrom n (filter_map uid_from found)
uids_rise n [] rises = tt
uids_rise n (f ∷ found) rises = go f.message f.old rises (λ m. uids_rise m found)
  where
    go : (m : Option MessageFile) (o : Option IndexRecord) → RisesBy n m o (λ k. Rises k found) → ((k : ℕ) → Rises k found → RisesFrom k (filter_map uid_from found)) → RisesFrom n (cons_option (uid_from (finding m o)) (filter_map uid_from found))
    go None None rises others = others n rises
    go None (Some r) rises others = (rises.0, others (r.uid + 1) rises.1)
    go (Some file) None rises others = (rises.0, others (uid_of_file file + 1) rises.1)
    go (Some file) (Some r) rises others = (rises.0, others (uid_of_file file + 1) rises.2)

rises_earlier : (n m : ℕ) (ns : List ℕ) → n ≤ m → RisesFrom m ns → RisesFrom n ns
rises_earlier n m [] up rises = tt
rises_earlier n m (k ∷ ns) up rises = (omega (arith, up, rises.0), rises.1)

pub messages_rise : (n : ℕ) (found : List Finding) → Rises n found → RisesFrom n (map uid_of_file (messages_in found))
messages_rise n [] rises = tt
messages_rise n (f ∷ found) rises = go f.message f.old rises (λ m. messages_rise m found)
  where
    go : (m : Option MessageFile) (o : Option IndexRecord) → RisesBy n m o (λ k. Rises k found) → ((k : ℕ) → Rises k found → RisesFrom k (map uid_of_file (messages_in found))) → RisesFrom n (map uid_of_file (cons_option m (messages_in found)))
    go None None rises others = others n rises
    go None (Some r) rises others = rises_earlier n (r.uid + 1) _ (omega (arith, rises.0)) (others (r.uid + 1) rises.1)
    go (Some file) None rises others = (rises.0, others (uid_of_file file + 1) rises.1)
    go (Some file) (Some r) rises others = (rises.0, others (uid_of_file file + 1) rises.2)
