-- What an index is rebuilt to, from the old one and the files of its folder.
use Rattle.std.specs.Prelude.{ℕ, ◌+◌, ◌-◌, ◌%◌, ◌==◌, Bool, not, ◌&&◌, ◌||◌, List, [], map, length, drop, replicate, min, max, bit_and, nat_lt, nat_le, nat_eq, count_by, Option, None, Some, is_none, if◌then◌else◌}
use Rattle.std.specs.Cmp.Lexicographic.{pointwise}
use Rattle.std.specs.List.{filter, find, list_any}
use Rattle.std.specs.List.Sorted.{IsPermutation, IsSorted, IsStrictlyIncreasing}
use Rattle.std.specs.Option.{unwrap_or}
use Rattle.sha1.specs.Sha1.{sha1}
use Rattle.base_bytes.specs.OrderedMap.{key_order}
use Rattle.base_devices.specs.CrashImages.{Image}
use Rattle.base_devices.specs.SpoolCalls.{MessageFile, names_of}
use Rattle.index_form.specs.declared.header.IndexHeader.{IndexHeader}
use Rattle.index_form.specs.declared.record.IndexRecord.{IndexRecord}
use Rattle.index_form.specs.Reading.{StoredRecord, first_fault, header_in, records_of}
use Rattle.index_form.specs.Spelling.{bytes_of_record, index_bytes, version}
use Rattle.index_form.specs.Totals.{answered, deleted, flagged, unlinked, stands, flag_count, size_used, first_expunged_of, greatest_uid}
use Rattle.index_form.specs.Usable.{usable_records}
use Rattle.mail_scan.specs.Listing.{is_message_name, is_passed_over, uid_in}
use Rattle.mail_scan.specs.MessageText.{header_of, line_count, date_of}

-- as much of a number as 32 bits hold
abbrev pub limit32 : ℕ → ℕ
limit32 n = min n 4294967295

-- ---- the old index

-- the header from which the index of a folder without one is made
abbrev pub new_header : IndexHeader
new_header = record {
  generation = 0;
  format = 0;
  minor_version = version;
  start_offset = 128;
  record_size = bytes_of_record;
  num_records = 0;
  last_appenddate = 0;
  last_uid = 0;
  quota_mailbox_used = 0;
  pop3_last_login = 0;
  uidvalidity = 0;
  deleted = 0;
  answered = 0;
  flagged = 0;
  options = 0;
  leaked_cache = 0;
  highestmodseq = 1;
  deletedmodseq = 0;
  exists = 0;
  first_expunged = 0;
  last_repack_time = 0;
  header_file_crc = 0;
  sync_crc = 0;
  recentuid = 0;
  recenttime = 0;
  spare_bytes = replicate 12 0;
}

-- the file of an index that is there and has no fault
abbrev pub whole_index : Image → Option (List ℕ)
whole_index None = None
whole_index (Some file) = if is_none (first_fault file) then Some file else None

-- its header and its records, or those that stand for it where there is none
abbrev pub old_header : Option (List ℕ) → IndexHeader
old_header None = new_header
old_header (Some file) = header_in file

abbrev pub old_records : Option (List ℕ) → List StoredRecord
old_records None = []
old_records (Some file) = records_of file

abbrev pub usable_in : Image → List IndexRecord
usable_in old = map (λ placed. placed.1) (usable_records (old_records (whole_index old)))

-- ---- the files

-- a message: a name of one, and as many bytes as one may have
abbrev pub is_message : MessageFile → Bool
is_message file = is_message_name file.name && nat_le 1 (length file.bytes) && nat_le (length file.bytes) 4294967295

-- neither a message nor a file of the server's own
abbrev pub is_odd : MessageFile → Bool
is_odd file = not (is_message file) && not (is_passed_over file.name)

abbrev pub uid_of_file : MessageFile → ℕ
uid_of_file file = uid_in file.name

-- The messages of a folder by rising uid, and the names of its odd files by their bytes.
pub record SortsFiles (files messages : List MessageFile) (odd : List (List ℕ)) : Type 0 where
  pub all_messages : IsPermutation (filter is_message files) messages
  pub by_uid : IsStrictlyIncreasing (map uid_of_file messages)
  pub all_odd : IsPermutation (names_of (filter is_odd files)) odd
  pub by_bytes : IsSorted key_order odd

-- ---- one record

-- the record of a message, as it was when the record was made
abbrev pub matches : MessageFile → IndexRecord → Bool
matches file old = (old.size == length file.bytes) && pointwise nat_eq old.digest (sha1 file.bytes)

-- the usable record that a message keeps
abbrev pub kept : List IndexRecord → MessageFile → Option IndexRecord
kept usable file = find (λ old. (old.uid == uid_of_file file) && matches file old) usable

-- what the file says of a message that came at this time; the rest is that of a message without a record
abbrev pub record_of_file : MessageFile → ℕ → IndexRecord
record_of_file file came = record {
  uid = uid_of_file file;
  internaldate = came;
  sentdate = sent - sent % 86400;
  size = length file.bytes;
  header_size = length (header_of file.bytes);
  gmtime = sent;
  cache_offset = 0;
  last_updated = 0;
  system_flags = 0;
  user_flags = replicate 16 0;
  content_lines = line_count (drop (length (header_of file.bytes)) file.bytes);
  cache_version = 0;
  digest = sha1 file.bytes;
  modseq = 0;
  cache_check = 0;
}
  where
    sent : ℕ
    sent = unwrap_or (date_of file.bytes) came

-- a message that keeps nothing
abbrev pub fresh_record : ℕ → ℕ → MessageFile → IndexRecord
fresh_record modseq now file =
    record (record_of_file file (limit32 file.time)) { last_updated = limit32 now; modseq = modseq }

-- a message that keeps what an old record says of it besides
abbrev pub kept_record : IndexRecord → MessageFile → IndexRecord
kept_record old file = record (record_of_file file old.internaldate) {
  last_updated = old.last_updated;
  system_flags = bit_and old.system_flags (4294967295 - unlinked);
  user_flags = old.user_flags;
  modseq = old.modseq;
}

-- ---- all records

abbrev pub fresh : Image → List MessageFile → List MessageFile
fresh old messages = filter (λ file. is_none (kept (usable_in old) file)) messages

-- the usable records without a message
abbrev pub dropped : Image → List MessageFile → List IndexRecord
dropped old messages = filter (λ r. not (list_any (λ file. uid_of_file file == r.uid) messages)) (usable_in old)

-- the index is not what its folder is
abbrev pub change_is_due : Image → List MessageFile → Bool
change_is_due old messages =
    is_none (whole_index old) || nat_lt 0 (length (fresh old messages) + length (dropped old messages))

-- the modification number of the rebuild
abbrev pub modseq_of : Image → List MessageFile → ℕ
modseq_of old messages =
    (old_header (whole_index old)).highestmodseq + (if change_is_due old messages then 1 else 0)

abbrev pub rebuilt_record : Image → List MessageFile → ℕ → MessageFile → IndexRecord
rebuilt_record old messages now file = made (kept (usable_in old) file)
  where
    made : Option IndexRecord → IndexRecord
    made None = fresh_record (modseq_of old messages) now file
    made (Some found) = kept_record found file

abbrev pub rebuilt_records : Image → List MessageFile → ℕ → List IndexRecord
rebuilt_records old messages now = map (rebuilt_record old messages now) messages

-- ---- the header

-- the next generation: after the last comes the first
abbrev pub next_generation : ℕ → ℕ
next_generation n = if n == 4294967295 then 1 else n + 1

-- a number that tells the mailbox from others of its name: kept, or the time, which is never 0
abbrev pub uidvalidity_of : ℕ → ℕ → ℕ
uidvalidity_of old now = if old == 0 then max 1 (limit32 now) else old

-- a header over new records
abbrev pub header_over : IndexHeader → List IndexRecord → List IndexRecord → ℕ → IndexHeader
header_over h usable rs now = record h {
  generation = next_generation h.generation;
  minor_version = version;
  start_offset = 128;
  record_size = bytes_of_record;
  num_records = length rs;
  last_uid = max h.last_uid (max (greatest_uid usable) (greatest_uid rs));
  quota_mailbox_used = size_used rs;
  uidvalidity = uidvalidity_of h.uidvalidity now;
  deleted = flag_count deleted rs;
  answered = flag_count answered rs;
  flagged = flag_count flagged rs;
  leaked_cache = 0;
  exists = count_by stands rs;
  first_expunged = first_expunged_of rs;
  last_repack_time = limit32 now;
  sync_crc = 0;
}

abbrev pub rebuilt_header : Image → List MessageFile → ℕ → IndexHeader
rebuilt_header old messages now =
    record (header_over h (usable_in old) (rebuilt_records old messages now) now) {
      highestmodseq = modseq_of old messages;
      deletedmodseq = if length (dropped old messages) == 0 then h.deletedmodseq else modseq_of old messages;
    }
  where
    h : IndexHeader
    h = old_header (whole_index old)

-- the bytes of the new index, where these are its folder's messages by rising uid
abbrev pub rebuilt : Image → List MessageFile → ℕ → List ℕ
rebuilt old messages now = index_bytes (rebuilt_header old messages now) (rebuilt_records old messages now)
