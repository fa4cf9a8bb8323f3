-- How an index of version 12 is spelled: its header, and its records. All numbers are big-endian.
use Rattle.std.specs.Prelude.{◌≡◌, ℕ, ◌^◌, ◌<◌, List, [], ◌∷◌, ◌++◌, length}
use Rattle.std.specs.List.{AllByRecursion, concat, flat_map}
use Rattle.std.specs.Int.{w32, w64, to_be_bytes}
use Rattle.check_word.specs.CheckWord.{check_word}
use Rattle.index_form.specs.declared.header.IndexHeader.{IndexHeader}
use Rattle.index_form.specs.declared.record.IndexRecord.{IndexRecord}

-- ---- what the version decides

-- the minor version
abbrev pub version : ℕ
version = 12

-- the size of a record in bytes
abbrev pub bytes_of_record : ℕ
bytes_of_record = 96

-- the fields that end a record, before its check word
abbrev pub last_fields : IndexRecord → List (List ℕ)
last_fields r = to_be_bytes w32 r.cache_check ∷ []

-- ---- the header

-- the fields of a header in their order, all but the check word
abbrev pub header_fields : IndexHeader → List (List ℕ)
header_fields h =
    to_be_bytes w32 h.generation ∷
    to_be_bytes w32 h.format ∷
    to_be_bytes w32 h.minor_version ∷
    to_be_bytes w32 h.start_offset ∷
    to_be_bytes w32 h.record_size ∷
    to_be_bytes w32 h.num_records ∷
    to_be_bytes w32 h.last_appenddate ∷
    to_be_bytes w32 h.last_uid ∷
    to_be_bytes w64 h.quota_mailbox_used ∷
    to_be_bytes w32 h.pop3_last_login ∷
    to_be_bytes w32 h.uidvalidity ∷
    to_be_bytes w32 h.deleted ∷
    to_be_bytes w32 h.answered ∷
    to_be_bytes w32 h.flagged ∷
    to_be_bytes w32 h.options ∷
    to_be_bytes w32 h.leaked_cache ∷
    to_be_bytes w64 h.highestmodseq ∷
    to_be_bytes w64 h.deletedmodseq ∷
    to_be_bytes w32 h.exists ∷
    to_be_bytes w32 h.first_expunged ∷
    to_be_bytes w32 h.last_repack_time ∷
    to_be_bytes w32 h.header_file_crc ∷
    to_be_bytes w32 h.sync_crc ∷
    to_be_bytes w32 h.recentuid ∷
    to_be_bytes w32 h.recenttime ∷
    h.spare_bytes ∷
    []

-- what a header's check word stands over: 124 bytes
abbrev pub header_front : IndexHeader → List ℕ
header_front h = concat (header_fields h)

-- the 128 bytes of a header
unfoldable pub header_bytes : IndexHeader → List ℕ
header_bytes h = header_front h ++ to_be_bytes w32 (check_word (header_front h))

-- ---- a record

-- the fields of a record in their order, all but the check word
abbrev pub record_fields : IndexRecord → List (List ℕ)
record_fields r =
    to_be_bytes w32 r.uid ∷
    to_be_bytes w32 r.internaldate ∷
    to_be_bytes w32 r.sentdate ∷
    to_be_bytes w32 r.size ∷
    to_be_bytes w32 r.header_size ∷
    to_be_bytes w32 r.gmtime ∷
    to_be_bytes w32 r.cache_offset ∷
    to_be_bytes w32 r.last_updated ∷
    to_be_bytes w32 r.system_flags ∷
    r.user_flags ∷
    to_be_bytes w32 r.content_lines ∷
    to_be_bytes w32 r.cache_version ∷
    r.digest ∷
    to_be_bytes w64 r.modseq ∷
    last_fields r

-- what a record's check word stands over: all its bytes but the last four
abbrev pub record_front : IndexRecord → List ℕ
record_front r = concat (record_fields r)

-- the bytes of a record
unfoldable pub record_bytes : IndexRecord → List ℕ
record_bytes r = record_front r ++ to_be_bytes w32 (check_word (record_front r))

-- ---- an index

-- the bytes of an index: a header, and records back to back
abbrev pub index_bytes : IndexHeader → List IndexRecord → List ℕ
index_bytes h rs = header_bytes h ++ flat_map record_bytes rs

-- ---- what has a spelling

-- so many bytes
pub record FitsPlace (count : ℕ) (bytes : List ℕ) : Type 0 where
  pub size : length bytes ≡ count
  pub small : AllByRecursion (λ b. b < 256) bytes

-- a header of this version, whose fields fit their places
pub record IsHeader (h : IndexHeader) : Type 0 where
  pub generation : h.generation < 2 ^ 32
  pub format : h.format < 2 ^ 32
  pub minor_version : h.minor_version ≡ version
  pub start_offset : h.start_offset ≡ 128
  pub record_size : h.record_size ≡ bytes_of_record
  pub num_records : h.num_records < 2 ^ 32
  pub last_appenddate : h.last_appenddate < 2 ^ 32
  pub last_uid : h.last_uid < 2 ^ 32
  pub quota_mailbox_used : h.quota_mailbox_used < 2 ^ 64
  pub pop3_last_login : h.pop3_last_login < 2 ^ 32
  pub uidvalidity : h.uidvalidity < 2 ^ 32
  pub deleted : h.deleted < 2 ^ 32
  pub answered : h.answered < 2 ^ 32
  pub flagged : h.flagged < 2 ^ 32
  pub options : h.options < 2 ^ 32
  pub leaked_cache : h.leaked_cache < 2 ^ 32
  pub highestmodseq : h.highestmodseq < 2 ^ 64
  pub deletedmodseq : h.deletedmodseq < 2 ^ 64
  pub exists : h.exists < 2 ^ 32
  pub first_expunged : h.first_expunged < 2 ^ 32
  pub last_repack_time : h.last_repack_time < 2 ^ 32
  pub header_file_crc : h.header_file_crc < 2 ^ 32
  pub sync_crc : h.sync_crc < 2 ^ 32
  pub recentuid : h.recentuid < 2 ^ 32
  pub recenttime : h.recenttime < 2 ^ 32
  pub spare_bytes : FitsPlace 12 h.spare_bytes

-- a record whose fields fit their places
pub record IsRecord (r : IndexRecord) : Type 0 where
  pub uid : r.uid < 2 ^ 32
  pub internaldate : r.internaldate < 2 ^ 32
  pub sentdate : r.sentdate < 2 ^ 32
  pub size : r.size < 2 ^ 32
  pub header_size : r.header_size < 2 ^ 32
  pub gmtime : r.gmtime < 2 ^ 32
  pub cache_offset : r.cache_offset < 2 ^ 32
  pub last_updated : r.last_updated < 2 ^ 32
  pub system_flags : r.system_flags < 2 ^ 32
  pub user_flags : FitsPlace 16 r.user_flags
  pub content_lines : r.content_lines < 2 ^ 32
  pub cache_version : r.cache_version < 2 ^ 32
  pub digest : FitsPlace 20 r.digest
  pub modseq : r.modseq < 2 ^ 64
  pub cache_check : r.cache_check < 2 ^ 32

-- a header of this version that counts these records
pub record IsIndex (h : IndexHeader) (rs : List IndexRecord) : Type 0 where
  pub header : IsHeader h
  pub records : AllByRecursion IsRecord rs
  pub count : h.num_records ≡ length rs
