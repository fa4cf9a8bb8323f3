-- What bytes are read as.
use Rattle.std.specs.Prelude.{true, ℕ, zero, suc, ◌+◌, ◌*◌, ◌-◌, ◌==◌, Bool, not, List, [], ◌∷◌, length, take, drop, Option, Some, None, Result, Ok, Err, nat_lt, if◌then◌else◌}
use Rattle.check_word.specs.CheckWord.{check_word}
use Rattle.index_form.specs.declared.fault.IndexFault.{IndexFault}
use Rattle.index_form.specs.declared.fault.IndexFault.TheVariants.{Short, Check, MinorVersion, RecordSize, StartOffset, Count}
use Rattle.index_form.specs.declared.header.IndexHeader.{IndexHeader}
use Rattle.index_form.specs.declared.record.IndexRecord.{IndexRecord}
use Rattle.base_bytes.specs.Fields.{part, u32_in, u64_in}
use Rattle.index_form.specs.Spelling.{version, bytes_of_record}

-- the fields that stand in the first 128 bytes of a file
abbrev pub header_in : List ℕ → IndexHeader
header_in file = record {
  generation = u32_in (part file 0 4);
  format = u32_in (part file 4 4);
  minor_version = u32_in (part file 8 4);
  start_offset = u32_in (part file 12 4);
  record_size = u32_in (part file 16 4);
  num_records = u32_in (part file 20 4);
  last_appenddate = u32_in (part file 24 4);
  last_uid = u32_in (part file 28 4);
  quota_mailbox_used = u64_in (part file 32 8);
  pop3_last_login = u32_in (part file 40 4);
  uidvalidity = u32_in (part file 44 4);
  deleted = u32_in (part file 48 4);
  answered = u32_in (part file 52 4);
  flagged = u32_in (part file 56 4);
  options = u32_in (part file 60 4);
  leaked_cache = u32_in (part file 64 4);
  highestmodseq = u64_in (part file 68 8);
  deletedmodseq = u64_in (part file 76 8);
  exists = u32_in (part file 84 4);
  first_expunged = u32_in (part file 88 4);
  last_repack_time = u32_in (part file 92 4);
  header_file_crc = u32_in (part file 96 4);
  sync_crc = u32_in (part file 100 4);
  recentuid = u32_in (part file 104 4);
  recenttime = u32_in (part file 108 4);
  spare_bytes = part file 112 12;
}

-- the fields that stand in the bytes of a record
abbrev pub record_in : List ℕ → IndexRecord
record_in bytes = record {
  uid = u32_in (part bytes 0 4);
  internaldate = u32_in (part bytes 4 4);
  sentdate = u32_in (part bytes 8 4);
  size = u32_in (part bytes 12 4);
  header_size = u32_in (part bytes 16 4);
  gmtime = u32_in (part bytes 20 4);
  cache_offset = u32_in (part bytes 24 4);
  last_updated = u32_in (part bytes 28 4);
  system_flags = u32_in (part bytes 32 4);
  user_flags = part bytes 36 16;
  content_lines = u32_in (part bytes 52 4);
  cache_version = u32_in (part bytes 56 4);
  digest = part bytes 60 20;
  modseq = u64_in (part bytes 80 8);
  cache_check = u32_in (part bytes 88 4);
}

-- the last four of so many bytes are the check word of those before them
abbrev pub ends_with_check : List ℕ → ℕ → Bool
ends_with_check bytes size = u32_in (part bytes (size - 4) 4) == check_word (part bytes 0 (size - 4))

-- the first fault of an index
abbrev pub first_fault : List ℕ → Option IndexFault
first_fault file =
    if nat_lt (length file) 128 then Some Short
    else if not (ends_with_check file 128) then Some Check
    else if not ((header_in file).minor_version == version) then Some MinorVersion
    else if not ((header_in file).record_size == bytes_of_record) then Some RecordSize
    else if not ((header_in file).start_offset == 128) then Some StartOffset
    else if nat_lt (length file) (128 + bytes_of_record * (header_in file).num_records) then Some Count
    else None

-- a record as it stands in a file: its fields, and whether its check word is right
pub record StoredRecord : Type 0 where
  pub fields : IndexRecord
  pub check_right : Bool

-- a record as it is written stands with a check word that is right
abbrev pub as_written : IndexRecord → StoredRecord
as_written r = record { fields = r; check_right = true }

-- what stands in the bytes of a record
abbrev pub stored_record : List ℕ → StoredRecord
stored_record bytes = record { fields = record_in bytes; check_right = ends_with_check bytes bytes_of_record }

-- so many records back to back
abbrev pub stored_records : ℕ → List ℕ → List StoredRecord
stored_records zero bytes = []
stored_records (suc count) bytes = stored_record (take bytes_of_record bytes) ∷ stored_records count (drop bytes_of_record bytes)

-- the records of an index without a fault, in the order of the file
abbrev pub records_of : List ℕ → List StoredRecord
records_of file = stored_records (header_in file).num_records (drop 128 file)

-- what a file is read as: its header and its records, or the first fault
abbrev pub index_read : List ℕ → Result (IndexHeader × List StoredRecord) IndexFault
index_read file = read (first_fault file)
  where
    read : Option IndexFault → Result (IndexHeader × List StoredRecord) IndexFault
    read None = Ok (header_in file, records_of file)
    read (Some fault) = Err fault
