-- A header that is read is the header that was written.
use Rattle.std.proofs.Common.{◌≡◌, ℕ, ◌+◌, ◌*◌, ◌^◌, ◌<◌, ◌≤◌, Bool, true, false, not, cond, eqb, List, [], ◌∷◌, ◌++◌, length, get_or, Option, Some, None, refl, sym, ap, subst, ◌∙◌, arith}
use Rattle.std.specs.Prelude.{nat_lt}
use Rattle.std.specs.List.{concat}
use Rattle.std.specs.Int.{w32, to_be_bytes}
use Rattle.std.proofs.lemmas.Bool.{ltb-false, le-ltb, eqb-true, eq-eqb}
use Rattle.check_word.specs.CheckWord.{check_word}
use Rattle.index_form.specs.declared.fault.IndexFault.{IndexFault}
use Rattle.index_form.specs.declared.fault.IndexFault.TheVariants.{Short, Check, MinorVersion, RecordSize, StartOffset, Count}
use Rattle.index_form.specs.declared.header.IndexHeader.{IndexHeader}
use Rattle.index_form.specs.Reading.{header_in, ends_with_check, first_fault}
use Rattle.index_form.specs.Spelling.{IsHeader, header_fields, header_front, header_bytes, version, bytes_of_record}
use Rattle.base_bytes.specs.Fields.{part, u32_in, AreBytes}
use Rattle.check_word.proofs.Bound.{check_word-lt}
use Rattle.base_bytes.proofs.Parts.{to_be_bytes-u32_in, to_be_bytes-u64_in, u32_in-lt, u64_in-lt}
use Rattle.index_form.proofs.Joined.{parts, total, sizes_of, concat-parts, sizes_of-parts, length-concat, concat-same, Small, AreBytes-Small, Small-concat, small_4, small_8, u32_again, u64_again, fits_place, check_is_spelled, spelled_is_checked}

-- ---- what is read is spelled so

-- the sizes of the fields
abbrev sizes : List ℕ
sizes = 4 ∷ 4 ∷ 4 ∷ 4 ∷ 4 ∷ 4 ∷ 4 ∷ 4 ∷ 8 ∷ 4 ∷ 4 ∷ 4 ∷ 4 ∷ 4 ∷ 4 ∷ 4 ∷ 8 ∷ 8 ∷ 4 ∷ 4 ∷ 4 ∷ 4 ∷ 4 ∷ 4 ∷ 4 ∷ 12 ∷ []

pub header_front-header_in : (b : List ℕ) → AreBytes b → 124 ≤ length b → header_front (header_in b) ≡ part b 0 124
header_front-header_in b fits within =
    let generation = to_be_bytes-u32_in b 0 fits (omega arith) in
    let format = to_be_bytes-u32_in b 4 fits (omega arith) in
    let minor_version = to_be_bytes-u32_in b 8 fits (omega arith) in
    let start_offset = to_be_bytes-u32_in b 12 fits (omega arith) in
    let record_size = to_be_bytes-u32_in b 16 fits (omega arith) in
    let num_records = to_be_bytes-u32_in b 20 fits (omega arith) in
    let last_appenddate = to_be_bytes-u32_in b 24 fits (omega arith) in
    let last_uid = to_be_bytes-u32_in b 28 fits (omega arith) in
    let quota_mailbox_used = to_be_bytes-u64_in b 32 fits (omega arith) in
    let pop3_last_login = to_be_bytes-u32_in b 40 fits (omega arith) in
    let uidvalidity = to_be_bytes-u32_in b 44 fits (omega arith) in
    let deleted = to_be_bytes-u32_in b 48 fits (omega arith) in
    let answered = to_be_bytes-u32_in b 52 fits (omega arith) in
    let flagged = to_be_bytes-u32_in b 56 fits (omega arith) in
    let options = to_be_bytes-u32_in b 60 fits (omega arith) in
    let leaked_cache = to_be_bytes-u32_in b 64 fits (omega arith) in
    let highestmodseq = to_be_bytes-u64_in b 68 fits (omega arith) in
    let deletedmodseq = to_be_bytes-u64_in b 76 fits (omega arith) in
    let exists = to_be_bytes-u32_in b 84 fits (omega arith) in
    let first_expunged = to_be_bytes-u32_in b 88 fits (omega arith) in
    let last_repack_time = to_be_bytes-u32_in b 92 fits (omega arith) in
    let header_file_crc = to_be_bytes-u32_in b 96 fits (omega arith) in
    let sync_crc = to_be_bytes-u32_in b 100 fits (omega arith) in
    let recentuid = to_be_bytes-u32_in b 104 fits (omega arith) in
    let recenttime = to_be_bytes-u32_in b 108 fits (omega arith) in
    let fields : header_fields (header_in b) ≡ parts b 0 sizes = λ i. generation i ∷ format i ∷ minor_version i ∷ start_offset i ∷ record_size i ∷ num_records i ∷ last_appenddate i ∷ last_uid i ∷ quota_mailbox_used i ∷ pop3_last_login i ∷ uidvalidity i ∷ deleted i ∷ answered i ∷ flagged i ∷ options i ∷ leaked_cache i ∷ highestmodseq i ∷ deletedmodseq i ∷ exists i ∷ first_expunged i ∷ last_repack_time i ∷ header_file_crc i ∷ sync_crc i ∷ recentuid i ∷ recenttime i ∷ part b 112 12 ∷ [] in
    ap concat fields ∙ concat-parts b 0 sizes

pub IsHeader-header_in : (b : List ℕ) → AreBytes b → 124 ≤ length b → (header_in b).minor_version ≡ version → (header_in b).start_offset ≡ 128 → (header_in b).record_size ≡ bytes_of_record → IsHeader (header_in b)
IsHeader-header_in b fits within minor_version start_offset record_size = record {
  generation = u32_in-lt b 0 fits;
  format = u32_in-lt b 4 fits;
  minor_version = minor_version;
  start_offset = start_offset;
  record_size = record_size;
  num_records = u32_in-lt b 20 fits;
  last_appenddate = u32_in-lt b 24 fits;
  last_uid = u32_in-lt b 28 fits;
  quota_mailbox_used = u64_in-lt b 32 fits;
  pop3_last_login = u32_in-lt b 40 fits;
  uidvalidity = u32_in-lt b 44 fits;
  deleted = u32_in-lt b 48 fits;
  answered = u32_in-lt b 52 fits;
  flagged = u32_in-lt b 56 fits;
  options = u32_in-lt b 60 fits;
  leaked_cache = u32_in-lt b 64 fits;
  highestmodseq = u64_in-lt b 68 fits;
  deletedmodseq = u64_in-lt b 76 fits;
  exists = u32_in-lt b 84 fits;
  first_expunged = u32_in-lt b 88 fits;
  last_repack_time = u32_in-lt b 92 fits;
  header_file_crc = u32_in-lt b 96 fits;
  sync_crc = u32_in-lt b 100 fits;
  recentuid = u32_in-lt b 104 fits;
  recenttime = u32_in-lt b 108 fits;
  spare_bytes = fits_place b 112 12 fits (omega arith);
}

-- ---- what is spelled so is read

sizes_of-fields : (h : IndexHeader) → IsHeader h → sizes_of (header_fields h) ≡ sizes
sizes_of-fields h is = λ i. 4 ∷ 4 ∷ 4 ∷ 4 ∷ 4 ∷ 4 ∷ 4 ∷ 4 ∷ 8 ∷ 4 ∷ 4 ∷ 4 ∷ 4 ∷ 4 ∷ 4 ∷ 4 ∷ 8 ∷ 8 ∷ 4 ∷ 4 ∷ 4 ∷ 4 ∷ 4 ∷ 4 ∷ 4 ∷ is.spare_bytes.size i ∷ []

pub length-header_front : (h : IndexHeader) → IsHeader h → length (header_front h) ≡ 124
length-header_front h is = length-concat (header_fields h) ∙ ap total (sizes_of-fields h is)

small-header_front : (h : IndexHeader) → IsHeader h → Small (header_front h)
small-header_front h is = Small-concat (header_fields h) (small_4 h.generation, (small_4 h.format, (small_4 h.minor_version, (small_4 h.start_offset, (small_4 h.record_size, (small_4 h.num_records, (small_4 h.last_appenddate, (small_4 h.last_uid, (small_8 h.quota_mailbox_used, (small_4 h.pop3_last_login, (small_4 h.uidvalidity, (small_4 h.deleted, (small_4 h.answered, (small_4 h.flagged, (small_4 h.options, (small_4 h.leaked_cache, (small_8 h.highestmodseq, (small_8 h.deletedmodseq, (small_4 h.exists, (small_4 h.first_expunged, (small_4 h.last_repack_time, (small_4 h.header_file_crc, (small_4 h.sync_crc, (small_4 h.recentuid, (small_4 h.recenttime, (is.spare_bytes.small, tt))))))))))))))))))))))))))

pub header_check-lt : (h : IndexHeader) → IsHeader h → check_word (header_front h) < 2 ^ 32
header_check-lt h is = check_word-lt (header_front h) (AreBytes-Small (header_front h) (small-header_front h is))

pub header_in-header_front : (b : List ℕ) (h : IndexHeader) → IsHeader h → 124 ≤ length b → part b 0 124 ≡ header_front h → header_in b ≡ h
header_in-header_front b h is within e =
    let fields : parts b 0 sizes ≡ header_fields h = concat-same (parts b 0 sizes) (header_fields h) (sizes_of-parts b 0 sizes within ∙ sym (sizes_of-fields h is)) (concat-parts b 0 sizes ∙ e) in
    let generation = u32_again (part b 0 4) h.generation is.generation (ap (λ (fs : List (List ℕ)). get_or fs 0 []) fields) in
    let format = u32_again (part b 4 4) h.format is.format (ap (λ (fs : List (List ℕ)). get_or fs 1 []) fields) in
    let minor_version = u32_again (part b 8 4) h.minor_version (omega (arith, is.minor_version)) (ap (λ (fs : List (List ℕ)). get_or fs 2 []) fields) in
    let start_offset = u32_again (part b 12 4) h.start_offset (omega (arith, is.start_offset)) (ap (λ (fs : List (List ℕ)). get_or fs 3 []) fields) in
    let record_size = u32_again (part b 16 4) h.record_size (omega (arith, is.record_size)) (ap (λ (fs : List (List ℕ)). get_or fs 4 []) fields) in
    let num_records = u32_again (part b 20 4) h.num_records is.num_records (ap (λ (fs : List (List ℕ)). get_or fs 5 []) fields) in
    let last_appenddate = u32_again (part b 24 4) h.last_appenddate is.last_appenddate (ap (λ (fs : List (List ℕ)). get_or fs 6 []) fields) in
    let last_uid = u32_again (part b 28 4) h.last_uid is.last_uid (ap (λ (fs : List (List ℕ)). get_or fs 7 []) fields) in
    let quota_mailbox_used = u64_again (part b 32 8) h.quota_mailbox_used is.quota_mailbox_used (ap (λ (fs : List (List ℕ)). get_or fs 8 []) fields) in
    let pop3_last_login = u32_again (part b 40 4) h.pop3_last_login is.pop3_last_login (ap (λ (fs : List (List ℕ)). get_or fs 9 []) fields) in
    let uidvalidity = u32_again (part b 44 4) h.uidvalidity is.uidvalidity (ap (λ (fs : List (List ℕ)). get_or fs 10 []) fields) in
    let deleted = u32_again (part b 48 4) h.deleted is.deleted (ap (λ (fs : List (List ℕ)). get_or fs 11 []) fields) in
    let answered = u32_again (part b 52 4) h.answered is.answered (ap (λ (fs : List (List ℕ)). get_or fs 12 []) fields) in
    let flagged = u32_again (part b 56 4) h.flagged is.flagged (ap (λ (fs : List (List ℕ)). get_or fs 13 []) fields) in
    let options = u32_again (part b 60 4) h.options is.options (ap (λ (fs : List (List ℕ)). get_or fs 14 []) fields) in
    let leaked_cache = u32_again (part b 64 4) h.leaked_cache is.leaked_cache (ap (λ (fs : List (List ℕ)). get_or fs 15 []) fields) in
    let highestmodseq = u64_again (part b 68 8) h.highestmodseq is.highestmodseq (ap (λ (fs : List (List ℕ)). get_or fs 16 []) fields) in
    let deletedmodseq = u64_again (part b 76 8) h.deletedmodseq is.deletedmodseq (ap (λ (fs : List (List ℕ)). get_or fs 17 []) fields) in
    let exists = u32_again (part b 84 4) h.exists is.exists (ap (λ (fs : List (List ℕ)). get_or fs 18 []) fields) in
    let first_expunged = u32_again (part b 88 4) h.first_expunged is.first_expunged (ap (λ (fs : List (List ℕ)). get_or fs 19 []) fields) in
    let last_repack_time = u32_again (part b 92 4) h.last_repack_time is.last_repack_time (ap (λ (fs : List (List ℕ)). get_or fs 20 []) fields) in
    let header_file_crc = u32_again (part b 96 4) h.header_file_crc is.header_file_crc (ap (λ (fs : List (List ℕ)). get_or fs 21 []) fields) in
    let sync_crc = u32_again (part b 100 4) h.sync_crc is.sync_crc (ap (λ (fs : List (List ℕ)). get_or fs 22 []) fields) in
    let recentuid = u32_again (part b 104 4) h.recentuid is.recentuid (ap (λ (fs : List (List ℕ)). get_or fs 23 []) fields) in
    let recenttime = u32_again (part b 108 4) h.recenttime is.recenttime (ap (λ (fs : List (List ℕ)). get_or fs 24 []) fields) in
    let spare_bytes : part b 112 12 ≡ h.spare_bytes = ap (λ (fs : List (List ℕ)). get_or fs 25 []) fields in
    λ i. record { generation = generation i; format = format i; minor_version = minor_version i; start_offset = start_offset i; record_size = record_size i; num_records = num_records i; last_appenddate = last_appenddate i; last_uid = last_uid i; quota_mailbox_used = quota_mailbox_used i; pop3_last_login = pop3_last_login i; uidvalidity = uidvalidity i; deleted = deleted i; answered = answered i; flagged = flagged i; options = options i; leaked_cache = leaked_cache i; highestmodseq = highestmodseq i; deletedmodseq = deletedmodseq i; exists = exists i; first_expunged = first_expunged i; last_repack_time = last_repack_time i; header_file_crc = header_file_crc i; sync_crc = sync_crc i; recentuid = recentuid i; recenttime = recenttime i; spare_bytes = spare_bytes i }

-- ---- the tests, one by one

pub record Passes (b : List ℕ) : Type 0 where
  pub long : 128 ≤ length b
  pub check : u32_in (part b 124 4) ≡ check_word (part b 0 124)
  pub minor_version : (header_in b).minor_version ≡ 12
  pub record_size : (header_in b).record_size ≡ 96
  pub start_offset : (header_in b).start_offset ≡ 128
  pub count : 128 + 96 * (header_in b).num_records ≤ length b

passed : (t : Bool) (e : IndexFault) (r : Option IndexFault) → cond t (Some e) r ≡ None → (t ≡ false) × (r ≡ None)
passed true e r h = absurd cc
passed false e r h = (refl, h)

not_false : (t : Bool) → not t ≡ false → t ≡ true
not_false true h = refl
not_false false h = absurd cc

pub Passes-none : (b : List ℕ) → first_fault b ≡ None → Passes b
Passes-none b e =
    let long = passed (nat_lt (length b) 128) Short _ e in
    let check = passed (not (ends_with_check b 128)) Check _ long.1 in
    let minor_version = passed (not (eqb (header_in b).minor_version 12)) MinorVersion _ check.1 in
    let record_size = passed (not (eqb (header_in b).record_size 96)) RecordSize _ minor_version.1 in
    let start_offset = passed (not (eqb (header_in b).start_offset 128)) StartOffset _ record_size.1 in
    let count = passed (nat_lt (length b) (128 + 96 * (header_in b).num_records)) Count _ start_offset.1 in
    record {
      long = ltb-false _ _ long.0;
      check = eqb-true _ _ (not_false _ check.0);
      minor_version = eqb-true _ _ (not_false _ minor_version.0);
      record_size = eqb-true _ _ (not_false _ record_size.0);
      start_offset = eqb-true _ _ (not_false _ start_offset.0);
      count = ltb-false _ _ count.0;
    }

pub none-Passes : (b : List ℕ) → Passes b → first_fault b ≡ None
none-Passes b p =
    step (nat_lt (length b) 128) (ends_with_check b 128) (eqb (header_in b).minor_version 12) (eqb (header_in b).record_size 96) (eqb (header_in b).start_offset 128) (nat_lt (length b) (128 + 96 * (header_in b).num_records))
    (le-ltb _ _ p.long) (eq-eqb _ _ p.check) (eq-eqb _ _ p.minor_version) (eq-eqb _ _ p.record_size) (eq-eqb _ _ p.start_offset) (le-ltb _ _ p.count)
  where
    step : (p q r s t u : Bool) → p ≡ false → q ≡ true → r ≡ true → s ≡ true → t ≡ true → u ≡ false → (let e : Option IndexFault = cond p (Some Short) (cond (not q) (Some Check) (cond (not r) (Some MinorVersion) (cond (not s) (Some RecordSize) (cond (not t) (Some StartOffset) (cond u (Some Count) None))))) in e) ≡ None
    step p q r s t u hp hq hr hs ht hu = rw (hp, hq, hr, hs, ht, hu) refl

-- ---- with the check word

pub header_bytes-header_in : (b : List ℕ) → AreBytes b → first_fault b ≡ None → IsHeader (header_in b) × (part b 0 128 ≡ header_bytes (header_in b))
unfolding header_bytes
header_bytes-header_in b fits e =
    let p = Passes-none b e in
    let long : 128 ≤ length b = p.long in (
      IsHeader-header_in b fits (omega arith) p.minor_version p.start_offset p.record_size,
      check_is_spelled b 124 fits long p.check ∙ ap (λ (x : List ℕ). x ++ to_be_bytes w32 (check_word x)) (sym (header_front-header_in b fits (omega arith))),
    )

pub first_fault-header_bytes : (b : List ℕ) (h : IndexHeader) → IsHeader h → 128 + 96 * h.num_records ≤ length b → part b 0 128 ≡ header_bytes h → (first_fault b ≡ None) × (header_in b ≡ h)
unfolding header_bytes
first_fault-header_bytes b h is within e =
    let checked = spelled_is_checked b (header_front h) 124 (length-header_front h is) (omega arith) (header_check-lt h is) e in
    let fields = header_in-header_front b h is (omega arith) checked.0 in
    let back = sym fields in (
      none-Passes b (record {
        long = omega arith;
        check = checked.1;
        minor_version = subst (λ (h : IndexHeader). h.minor_version ≡ 12) back is.minor_version;
        record_size = subst (λ (h : IndexHeader). h.record_size ≡ 96) back is.record_size;
        start_offset = subst (λ (h : IndexHeader). h.start_offset ≡ 128) back is.start_offset;
        count = subst (λ (h : IndexHeader). 128 + 96 * h.num_records ≤ length b) back within;
      }),
      fields,
    )
