-- A record that is read is the record that was written.
use Rattle.std.proofs.Common.{◌≡◌, ℕ, ◌^◌, ◌<◌, ◌≤◌, true, List, [], ◌∷◌, ◌++◌, length, get_or, sym, ap, ◌∙◌, arith}
use Rattle.std.specs.Prelude.{IsTrue}
use Rattle.std.specs.List.{concat}
use Rattle.std.specs.Int.{w32, to_be_bytes}
use Rattle.std.proofs.lemmas.Bool.{eqb-true, eq-eqb}
use Rattle.check_word.specs.CheckWord.{check_word}
use Rattle.index_form.specs.declared.record.IndexRecord.{IndexRecord}
use Rattle.index_form.specs.Reading.{record_in, ends_with_check, stored_record, StoredRecord}
use Rattle.index_form.specs.Spelling.{IsRecord, record_fields, record_front, record_bytes}
use Rattle.base_bytes.specs.Fields.{part, AreBytes}
use Rattle.check_word.proofs.Bound.{check_word-lt}
use Rattle.base_bytes.proofs.Parts.{to_be_bytes-u32_in, to_be_bytes-u64_in, u32_in-lt, u64_in-lt}
use Rattle.index_form.proofs.Joined.{parts, total, sizes_of, concat-parts, sizes_of-parts, length-concat, concat-same, Small, AreBytes-Small, Small-concat, small_4, small_8, u32_again, u64_again, fits_place, whole_part, check_is_spelled, spelled_is_checked}

-- ---- what is read is spelled so

-- the sizes of the fields
abbrev sizes : List ℕ
sizes = 4 ∷ 4 ∷ 4 ∷ 4 ∷ 4 ∷ 4 ∷ 4 ∷ 4 ∷ 4 ∷ 16 ∷ 4 ∷ 4 ∷ 20 ∷ 8 ∷ 4 ∷ []

pub record_front-record_in : (b : List ℕ) → AreBytes b → 92 ≤ length b → record_front (record_in b) ≡ part b 0 92
record_front-record_in b fits within =
    let uid = to_be_bytes-u32_in b 0 fits (omega arith) in
    let internaldate = to_be_bytes-u32_in b 4 fits (omega arith) in
    let sentdate = to_be_bytes-u32_in b 8 fits (omega arith) in
    let size = to_be_bytes-u32_in b 12 fits (omega arith) in
    let header_size = to_be_bytes-u32_in b 16 fits (omega arith) in
    let gmtime = to_be_bytes-u32_in b 20 fits (omega arith) in
    let cache_offset = to_be_bytes-u32_in b 24 fits (omega arith) in
    let last_updated = to_be_bytes-u32_in b 28 fits (omega arith) in
    let system_flags = to_be_bytes-u32_in b 32 fits (omega arith) in
    let content_lines = to_be_bytes-u32_in b 52 fits (omega arith) in
    let cache_version = to_be_bytes-u32_in b 56 fits (omega arith) in
    let modseq = to_be_bytes-u64_in b 80 fits (omega arith) in
    let cache_check = to_be_bytes-u32_in b 88 fits (omega arith) in
    let fields : record_fields (record_in b) ≡ parts b 0 sizes = λ i. uid i ∷ internaldate i ∷ sentdate i ∷ size i ∷ header_size i ∷ gmtime i ∷ cache_offset i ∷ last_updated i ∷ system_flags i ∷ part b 36 16 ∷ content_lines i ∷ cache_version i ∷ part b 60 20 ∷ modseq i ∷ cache_check i ∷ [] in
    ap concat fields ∙ concat-parts b 0 sizes

pub IsRecord-record_in : (b : List ℕ) → AreBytes b → 92 ≤ length b → IsRecord (record_in b)
IsRecord-record_in b fits within = record {
  uid = u32_in-lt b 0 fits;
  internaldate = u32_in-lt b 4 fits;
  sentdate = u32_in-lt b 8 fits;
  size = u32_in-lt b 12 fits;
  header_size = u32_in-lt b 16 fits;
  gmtime = u32_in-lt b 20 fits;
  cache_offset = u32_in-lt b 24 fits;
  last_updated = u32_in-lt b 28 fits;
  system_flags = u32_in-lt b 32 fits;
  user_flags = fits_place b 36 16 fits (omega arith);
  content_lines = u32_in-lt b 52 fits;
  cache_version = u32_in-lt b 56 fits;
  digest = fits_place b 60 20 fits (omega arith);
  modseq = u64_in-lt b 80 fits;
  cache_check = u32_in-lt b 88 fits;
}

-- ---- what is spelled so is read

sizes_of-fields : (r : IndexRecord) → IsRecord r → sizes_of (record_fields r) ≡ sizes
sizes_of-fields r is = λ i. 4 ∷ 4 ∷ 4 ∷ 4 ∷ 4 ∷ 4 ∷ 4 ∷ 4 ∷ 4 ∷ is.user_flags.size i ∷ 4 ∷ 4 ∷ is.digest.size i ∷ 8 ∷ 4 ∷ []

pub length-record_front : (r : IndexRecord) → IsRecord r → length (record_front r) ≡ 92
length-record_front r is = length-concat (record_fields r) ∙ ap total (sizes_of-fields r is)

small-record_front : (r : IndexRecord) → IsRecord r → Small (record_front r)
small-record_front r is = Small-concat (record_fields r) (small_4 r.uid, (small_4 r.internaldate, (small_4 r.sentdate, (small_4 r.size, (small_4 r.header_size, (small_4 r.gmtime, (small_4 r.cache_offset, (small_4 r.last_updated, (small_4 r.system_flags, (is.user_flags.small, (small_4 r.content_lines, (small_4 r.cache_version, (is.digest.small, (small_8 r.modseq, (small_4 r.cache_check, tt)))))))))))))))

pub record_check-lt : (r : IndexRecord) → IsRecord r → check_word (record_front r) < 2 ^ 32
record_check-lt r is = check_word-lt (record_front r) (AreBytes-Small (record_front r) (small-record_front r is))

pub record_in-record_front : (b : List ℕ) (r : IndexRecord) → IsRecord r → 92 ≤ length b → part b 0 92 ≡ record_front r → record_in b ≡ r
record_in-record_front b r is within e =
    let fields : parts b 0 sizes ≡ record_fields r = concat-same (parts b 0 sizes) (record_fields r) (sizes_of-parts b 0 sizes within ∙ sym (sizes_of-fields r is)) (concat-parts b 0 sizes ∙ e) in
    let uid = u32_again (part b 0 4) r.uid is.uid (ap (λ (fs : List (List ℕ)). get_or fs 0 []) fields) in
    let internaldate = u32_again (part b 4 4) r.internaldate is.internaldate (ap (λ (fs : List (List ℕ)). get_or fs 1 []) fields) in
    let sentdate = u32_again (part b 8 4) r.sentdate is.sentdate (ap (λ (fs : List (List ℕ)). get_or fs 2 []) fields) in
    let size = u32_again (part b 12 4) r.size is.size (ap (λ (fs : List (List ℕ)). get_or fs 3 []) fields) in
    let header_size = u32_again (part b 16 4) r.header_size is.header_size (ap (λ (fs : List (List ℕ)). get_or fs 4 []) fields) in
    let gmtime = u32_again (part b 20 4) r.gmtime is.gmtime (ap (λ (fs : List (List ℕ)). get_or fs 5 []) fields) in
    let cache_offset = u32_again (part b 24 4) r.cache_offset is.cache_offset (ap (λ (fs : List (List ℕ)). get_or fs 6 []) fields) in
    let last_updated = u32_again (part b 28 4) r.last_updated is.last_updated (ap (λ (fs : List (List ℕ)). get_or fs 7 []) fields) in
    let system_flags = u32_again (part b 32 4) r.system_flags is.system_flags (ap (λ (fs : List (List ℕ)). get_or fs 8 []) fields) in
    let user_flags : part b 36 16 ≡ r.user_flags = ap (λ (fs : List (List ℕ)). get_or fs 9 []) fields in
    let content_lines = u32_again (part b 52 4) r.content_lines is.content_lines (ap (λ (fs : List (List ℕ)). get_or fs 10 []) fields) in
    let cache_version = u32_again (part b 56 4) r.cache_version is.cache_version (ap (λ (fs : List (List ℕ)). get_or fs 11 []) fields) in
    let digest : part b 60 20 ≡ r.digest = ap (λ (fs : List (List ℕ)). get_or fs 12 []) fields in
    let modseq = u64_again (part b 80 8) r.modseq is.modseq (ap (λ (fs : List (List ℕ)). get_or fs 13 []) fields) in
    let cache_check = u32_again (part b 88 4) r.cache_check is.cache_check (ap (λ (fs : List (List ℕ)). get_or fs 14 []) fields) in
    λ i. record { uid = uid i; internaldate = internaldate i; sentdate = sentdate i; size = size i; header_size = header_size i; gmtime = gmtime i; cache_offset = cache_offset i; last_updated = last_updated i; system_flags = system_flags i; user_flags = user_flags i; content_lines = content_lines i; cache_version = cache_version i; digest = digest i; modseq = modseq i; cache_check = cache_check i }

-- ---- with the check word

pub record_bytes-record_in : (b : List ℕ) → AreBytes b → 96 ≤ length b → IsTrue (ends_with_check b 96) → part b 0 96 ≡ record_bytes (record_in b)
unfolding record_bytes
record_bytes-record_in b fits within right =
    check_is_spelled b 92 fits within (eqb-true _ _ right) ∙ ap (λ (x : List ℕ). x ++ to_be_bytes w32 (check_word x)) (sym (record_front-record_in b fits (omega arith)))

pub stored_record-record_bytes : (b : List ℕ) (r : IndexRecord) → IsRecord r → 96 ≤ length b → part b 0 96 ≡ record_bytes r → stored_record b ≡ record { fields = r; check_right = true }
unfolding record_bytes
stored_record-record_bytes b r is within e =
    let checked = spelled_is_checked b (record_front r) 92 (length-record_front r is) (omega arith) (record_check-lt r is) e in
    let fields = record_in-record_front b r is (omega arith) checked.0 in
    let right : ends_with_check b 96 ≡ true = eq-eqb _ _ checked.1 in
    λ i. record { fields = fields i; check_right = right i }

pub check_right-spelled : (b : List ℕ) → AreBytes b → length b ≡ 96 → (IsTrue (ends_with_check b 96) → b ≡ record_bytes (record_in b)) × (b ≡ record_bytes (record_in b) → IsTrue (ends_with_check b 96))
check_right-spelled b fits size =
    let whole : part b 0 96 ≡ b = whole_part b 96 size in
    let is = IsRecord-record_in b fits (omega arith) in (
      λ right. sym whole ∙ record_bytes-record_in b fits (omega arith) right,
      λ e. ap (λ (p : StoredRecord). p.check_right) (stored_record-record_bytes b (record_in b) is (omega arith) (whole ∙ e)),
    )
