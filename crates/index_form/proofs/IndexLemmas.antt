-- Records back to back, and the two laws.
use Rattle.std.proofs.Common.{◌≡◌, ℕ, zero, suc, ◌+◌, ◌*◌, ◌<◌, ◌≤◌, List, [], ◌∷◌, ◌++◌, length, map, take, drop, Option, Some, None, Result, Ok, Err, refl, sym, ap, subst, ◌∙◌, arith, append_assoc}
use Rattle.std.specs.Prelude.{slice_get}
use Rattle.std.specs.List.{AllByRecursion, flat_map}
use Rattle.std.specs.Int.{w32, to_be_bytes}
use Rattle.std.proofs.lemmas.List.{length-append, length-take, length-drop, take_at, drop_at, drop-drop}
use Rattle.std.proofs.lemmas.List.Concat.{flat_map-cons}
use Rattle.std.proofs.Math.Seq.{take-add}
use Rattle.check_word.specs.CheckWord.{check_word}
use Rattle.index_form.specs.declared.fault.IndexFault.{IndexFault}
use Rattle.index_form.specs.declared.header.IndexHeader.{IndexHeader}
use Rattle.index_form.specs.declared.record.IndexRecord.{IndexRecord}
use Rattle.base_bytes.specs.Fields.{part, AreBytes}
use Rattle.index_form.specs.Reading.{as_written, StoredRecord, stored_record, stored_records, records_of, header_in, first_fault, index_read}
use Rattle.index_form.specs.Spelling.{IsHeader, IsRecord, IsIndex, header_front, header_bytes, record_front, record_bytes, index_bytes}
use Rattle.index_form.specs.Laws.{WrittenIsRead, ReadIsWritten}
use Rattle.base_bytes.proofs.Parts.{AreBytes-part}
use Rattle.index_form.proofs.Joined.{AreBytes-drop, AreBytes-Small, whole_part}
use Rattle.index_form.proofs.HeaderLemmas.{length-header_front, header_bytes-header_in, first_fault-header_bytes, Passes-none}
use Rattle.index_form.proofs.RecordLemmas.{length-record_front, IsRecord-record_in, record_bytes-record_in, stored_record-record_bytes}

pub length-stored_records : (n : ℕ) (b : List ℕ) → length (stored_records n b) ≡ n
length-stored_records zero b = refl
length-stored_records (suc n) b = ap suc (length-stored_records n (drop 96 b))

-- ---- the record at a place

get-stored_records : (n place : ℕ) (b : List ℕ) → place < n → slice_get (stored_records n b) place ≡ Some (stored_record (part b (96 * place) 96))
unfolding part
get-stored_records zero place b lt = absurd (omega arith)
get-stored_records (suc n) zero b lt = refl
get-stored_records (suc n) (suc place) b lt =
    let start : 96 + 96 * place ≡ 96 * suc place = omega arith in
    get-stored_records n place (drop 96 b) (omega arith)
    ∙ ap (λ (x : List ℕ). Some (stored_record (take 96 x))) (drop-drop (96 * place) 96 b ∙ ap (λ (k : ℕ). drop k b) start)

pub get-records_of : (file : List ℕ) (place : ℕ) → place < (header_in file).num_records → slice_get (records_of file) place ≡ Some (stored_record (part file (128 + 96 * place) 96))
unfolding part
get-records_of file place lt =
    get-stored_records (header_in file).num_records place (drop 128 file) lt
    ∙ ap (λ (x : List ℕ). Some (stored_record (take 96 x))) (drop-drop (96 * place) 128 file)

-- ---- what is written is read

length-header_bytes : (h : IndexHeader) → IsHeader h → length (header_bytes h) ≡ 128
unfolding header_bytes
length-header_bytes h is = length-append (header_front h) (to_be_bytes w32 (check_word (header_front h))) ∙ ap (λ (n : ℕ). n + 4) (length-header_front h is)

length-record_bytes : (r : IndexRecord) → IsRecord r → length (record_bytes r) ≡ 96
unfolding record_bytes
length-record_bytes r is = length-append (record_front r) (to_be_bytes w32 (check_word (record_front r))) ∙ ap (λ (n : ℕ). n + 4) (length-record_front r is)

length-records : (rs : List IndexRecord) → AllByRecursion IsRecord rs → length (flat_map record_bytes rs) ≡ 96 * length rs
length-records [] is = refl
length-records (r ∷ rs) is =
    ap length (flat_map-cons record_bytes r rs) ∙ length-append (record_bytes r) (flat_map record_bytes rs)
    ∙ omega (arith, length-record_bytes r is.0, length-records rs is.1)

records-written : (rs : List IndexRecord) (rest : List ℕ) → AllByRecursion IsRecord rs → stored_records (length rs) (flat_map record_bytes rs ++ rest) ≡ map as_written rs
records-written [] rest is = refl
records-written (r ∷ rs) rest is =
    let len = length-record_bytes r is.0 in
    let regrouped : flat_map record_bytes (r ∷ rs) ++ rest ≡ record_bytes r ++ (flat_map record_bytes rs ++ rest) = ap (λ (x : List ℕ). x ++ rest) (flat_map-cons record_bytes r rs) ∙ append_assoc (record_bytes r) (flat_map record_bytes rs) rest in
    let front : take 96 (flat_map record_bytes (r ∷ rs) ++ rest) ≡ record_bytes r = ap (take 96) regrouped ∙ take_at (record_bytes r) (flat_map record_bytes rs ++ rest) 96 len in
    let back : drop 96 (flat_map record_bytes (r ∷ rs) ++ rest) ≡ flat_map record_bytes rs ++ rest = ap (drop 96) regrouped ∙ drop_at (record_bytes r) (flat_map record_bytes rs ++ rest) 96 len in
    let first : stored_record (take 96 (flat_map record_bytes (r ∷ rs) ++ rest)) ≡ as_written r = ap stored_record front ∙ stored_record-record_bytes (record_bytes r) r is.0 (omega (arith, len)) (whole_part (record_bytes r) 96 len) in
    let others : stored_records (length rs) (drop 96 (flat_map record_bytes (r ∷ rs) ++ rest)) ≡ map as_written rs = ap (stored_records (length rs)) back ∙ records-written rs rest is.1 in
    λ i. first i ∷ others i

-- what the bytes of an index are read as, whatever follows
module _ (h : IndexHeader) (rs : List IndexRecord) (rest : List ℕ) (is : IsIndex h rs) where
  regrouped_index : index_bytes h rs ++ rest ≡ header_bytes h ++ (flat_map record_bytes rs ++ rest)
  regrouped_index = append_assoc (header_bytes h) (flat_map record_bytes rs) rest

  header_front_of : part (index_bytes h rs ++ rest) 0 128 ≡ header_bytes h
  unfolding part
  header_front_of = ap (take 128) regrouped_index ∙ take_at (header_bytes h) (flat_map record_bytes rs ++ rest) 128 (length-header_bytes h is.header)

  records_behind : drop 128 (index_bytes h rs ++ rest) ≡ flat_map record_bytes rs ++ rest
  records_behind = ap (drop 128) regrouped_index ∙ drop_at (header_bytes h) (flat_map record_bytes rs ++ rest) 128 (length-header_bytes h is.header)

  long_enough : 128 + 96 * h.num_records ≤ length (index_bytes h rs ++ rest)
  long_enough = omega (arith, length-append (index_bytes h rs) rest, length-append (header_bytes h) (flat_map record_bytes rs), length-header_bytes h is.header, length-records rs is.records, is.count)

  header_again : (first_fault (index_bytes h rs ++ rest) ≡ None) × (header_in (index_bytes h rs ++ rest) ≡ h)
  header_again = first_fault-header_bytes (index_bytes h rs ++ rest) h is.header long_enough header_front_of

  records_again : records_of (index_bytes h rs ++ rest) ≡ map as_written rs
  records_again =
      let count : (header_in (index_bytes h rs ++ rest)).num_records ≡ length rs = ap (λ (k : IndexHeader). k.num_records) header_again.1 ∙ is.count in
      (λ i. stored_records (count i) (records_behind i)) ∙ records-written rs rest is.records

pub is_read : (b : List ℕ) (h : IndexHeader) (rs : List IndexRecord) (rest : List ℕ) → IsIndex h rs → b ≡ index_bytes h rs ++ rest → (first_fault b ≡ None) × (header_in b ≡ h) × (records_of b ≡ map as_written rs)
is_read b h rs rest is e =
    let again = header_again h rs rest is in
    subst (λ (b : List ℕ). (first_fault b ≡ None) × (header_in b ≡ h) × (records_of b ≡ map as_written rs)) (sym e) (again.0, again.1, records_again h rs rest is)

pub index_read-none : (file : List ℕ) → first_fault file ≡ None → index_read file ≡ Ok (header_in file, records_of file)
index_read-none file e = rw e refl

index_read-some : (file : List ℕ) (f : IndexFault) → first_fault file ≡ Some f → index_read file ≡ Err f
index_read-some file f e = rw e refl

pub written_is_read : WrittenIsRead
written_is_read h rs rest is =
    let again = header_again h rs rest is in
    let records = records_again h rs rest is in
    index_read-none (index_bytes h rs ++ rest) again.0 ∙ (λ i. Ok (again.1 i, records i))

-- ---- what is read is what is written

pub record Written (n : ℕ) (b : List ℕ) (rs : List IndexRecord) : Type 0 where
  pub count : n ≡ length rs
  pub records : AllByRecursion IsRecord rs
  pub bytes : take (96 * n) b ≡ flat_map record_bytes rs

record_written : (b : List ℕ) (r : IndexRecord) → AreBytes b → 96 ≤ length b → stored_record (take 96 b) ≡ as_written r → IsRecord r × (take 96 b ≡ record_bytes r)
unfolding part
record_written b r fits within e =
    let size : length (take 96 b) ≡ 96 = omega (arith, length-take 96 b) in
    let small : AreBytes (take 96 b) = AreBytes-part b 0 96 fits in
    let fields = ap (λ (p : StoredRecord). p.fields) e in
    let right = ap (λ (p : StoredRecord). p.check_right) e in (
      subst IsRecord fields (IsRecord-record_in (take 96 b) small (omega (arith, size))),
      sym (whole_part (take 96 b) 96 size) ∙ record_bytes-record_in (take 96 b) small (omega (arith, size)) right ∙ ap record_bytes fields,
    )

records_written : (n : ℕ) (b : List ℕ) (rs : List IndexRecord) → AreBytes b → 96 * n ≤ length b → stored_records n b ≡ map as_written rs → Written n b rs
records_written zero b [] fits within e = record { count = refl; records = tt; bytes = refl }
records_written zero b (r ∷ rs) fits within e = absurd cc
records_written (suc n) b [] fits within e = absurd cc
records_written (suc n) b (r ∷ rs) fits within e =
    let first : stored_record (take 96 b) ≡ as_written r = cc in
    let others : stored_records n (drop 96 b) ≡ map as_written rs = cc in
    let one = record_written b r fits (omega arith) first in
    let more = records_written n (drop 96 b) rs (AreBytes-drop 96 b fits) (omega (arith, length-drop 96 b)) others in
    let size : 96 * suc n ≡ 96 + 96 * n = omega arith in
    record {
      count = ap suc more.count;
      records = (one.0, more.records);
      bytes = ap (λ (k : ℕ). take k b) size ∙ take-add 96 (96 * n) b ∙ (λ i. one.1 i ++ more.bytes i) ∙ sym (flat_map-cons record_bytes r rs);
    }

index_written : (file : List ℕ) (h : IndexHeader) (rs : List IndexRecord) → AreBytes file → first_fault file ≡ None → header_in file ≡ h → records_of file ≡ map as_written rs → IsIndex h rs × (take (128 + 96 * h.num_records) file ≡ index_bytes h rs)
unfolding part
index_written file h rs fits none header records =
    let p = Passes-none file none in
    let long : 128 + 96 * (header_in file).num_records ≤ length file = p.count in
    let spelled = header_bytes-header_in file fits none in
    let written = records_written (header_in file).num_records (drop 128 file) rs (AreBytes-drop 128 file fits) (omega (arith, length-drop 128 file)) records in
    let count : h.num_records ≡ (header_in file).num_records = ap (λ (k : IndexHeader). k.num_records) (sym header) in
    let front : take 128 file ≡ header_bytes h = spelled.1 ∙ ap header_bytes header in (
      record { header = subst IsHeader header spelled.0; records = written.records; count = count ∙ written.count },
      ap (λ (k : ℕ). take (128 + 96 * k) file) count ∙ take-add 128 (96 * (header_in file).num_records) file ∙ (λ i. front i ++ written.bytes i),
    )

pub read_is_written : ReadIsWritten
read_is_written file h rs small e = go (first_fault file) refl
  where
    go : (f : Option IndexFault) → first_fault file ≡ f → IsIndex h rs × (take (128 + 96 * h.num_records) file ≡ index_bytes h rs)
    go None none =
        let read : ◌≡◌ {A = Result (IndexHeader × List StoredRecord) IndexFault} (Ok (header_in file, records_of file)) (Ok (h, map as_written rs)) = sym (index_read-none file none) ∙ e in
        let both : ◌≡◌ {A = IndexHeader × List StoredRecord} (header_in file, records_of file) (h, map as_written rs) = cc in
        index_written file h rs (AreBytes-Small file small) none (ap (λ (x : IndexHeader × List StoredRecord). x.0) both) (ap (λ (x : IndexHeader × List StoredRecord). x.1) both)
    go (Some f) some =
        let clash : ◌≡◌ {A = Result (IndexHeader × List StoredRecord) IndexFault} (Err f) (Ok (h, map as_written rs)) = sym (index_read-some file f some) ∙ e in
        absurd cc
