-- A folder of five files beside an index of three records, and a folder of two beside an index that is damaged.
use Rattle.std.specs.Prelude.{◌≡◌, ℕ, List, [], ◌∷◌, map, Some, None, false, codes, replicate}
use Rattle.sha1.specs.Sha1.{sha1}
use Rattle.base_devices.specs.SpoolCalls.{MessageFile}
use Rattle.base_notes.specs.declared.action.Options.{Options}
use Rattle.index_form.specs.declared.header.IndexHeader.{IndexHeader}
use Rattle.index_form.specs.declared.record.IndexRecord.{IndexRecord}
use Rattle.index_form.specs.declared.fault.IndexFault.TheVariants.{Check}
use Rattle.index_form.specs.Reading.{as_written, first_fault, header_in, records_of}
use Rattle.mail_rebuild.specs.Rebuilt.{new_header, rebuilt_header, rebuilt_records}
use Rattle.mail_rebuild.specs.Report.{report}

-- ---- the files

abbrev pub file_of : List ℕ → List ℕ → MessageFile
file_of name bytes = record { name = name; time = 1600000000; bytes = bytes }

abbrev pub first_message : MessageFile
first_message = file_of (codes "1.") (codes "abc")

abbrev pub second_message : MessageFile
second_message = file_of (codes "2.") (codes "The quick brown fox jumps over the lazy dog")

abbrev pub five_files : List MessageFile
five_files =
    file_of (codes "notes") (codes "x") ∷ second_message ∷ file_of (codes "3.") [] ∷ first_message
    ∷ file_of (codes "01.") (codes "abc") ∷ []

abbrev pub two_messages : List MessageFile
two_messages = first_message ∷ second_message ∷ []

abbrev pub three_odd : List (List ℕ)
three_odd = codes "01." ∷ codes "3." ∷ codes "notes" ∷ []

-- the two digests, as they are published
abbrev pub digest_of_abc : List ℕ
digest_of_abc =
    0xa9 ∷ 0x99 ∷ 0x3e ∷ 0x36 ∷ 0x47 ∷ 0x06 ∷ 0x81 ∷ 0x6a ∷ 0xba ∷ 0x3e
    ∷ 0x25 ∷ 0x71 ∷ 0x78 ∷ 0x50 ∷ 0xc2 ∷ 0x6c ∷ 0x9c ∷ 0xd0 ∷ 0xd8 ∷ 0x9d ∷ []

abbrev pub digest_of_fox : List ℕ
digest_of_fox =
    0x2f ∷ 0xd4 ∷ 0xe1 ∷ 0xc6 ∷ 0x7a ∷ 0x2d ∷ 0x28 ∷ 0xfc ∷ 0xed ∷ 0x84
    ∷ 0x9e ∷ 0xe1 ∷ 0xbb ∷ 0x76 ∷ 0xe7 ∷ 0x39 ∷ 0x1b ∷ 0x93 ∷ 0xeb ∷ 0x12 ∷ []

pub record KnowsDigests : Type 0 where
  pub abc : sha1 (codes "abc") ≡ digest_of_abc
  pub fox : sha1 (codes "The quick brown fox jumps over the lazy dog") ≡ digest_of_fox

-- ---- the old index

abbrev pub old_record : ℕ → ℕ → List ℕ → IndexRecord
old_record uid size digest = record {
  uid = uid;
  internaldate = 1500000000;
  sentdate = 0;
  size = size;
  header_size = 0;
  gmtime = 0;
  cache_offset = 11;
  last_updated = 1550000000;
  system_flags = 1073741826;
  user_flags = replicate 16 3;
  content_lines = 0;
  cache_version = 2;
  digest = digest;
  modseq = 7;
  cache_check = 5;
}

abbrev pub three_records : List IndexRecord
three_records = old_record 1 3 digest_of_abc ∷ old_record 2 43 (replicate 20 0) ∷ old_record 5 0 (replicate 20 0) ∷ []

-- a file that is read as these three, all right
pub record HasThreeRecords (file : List ℕ) : Type 0 where
  pub none : first_fault file ≡ None
  pub header : header_in file ≡ record new_header { num_records = 3; last_uid = 5; uidvalidity = 77; highestmodseq = 9 }
  pub records : records_of file ≡ map as_written three_records

-- ---- what is printed and left

abbrev pub plain : Options
plain = record { dry = false; quiet = false; skip_odd = false; force = false }

abbrev pub FiveFilesAreReported : Type 0
FiveFilesAreReported = (file : List ℕ) → KnowsDigests → HasThreeRecords file
    → report plain (Some file) two_messages (1 ∷ 2 ∷ 5 ∷ []) three_odd
    ≡ codes "uid 2 unmatched\nuid 5 dropped\nodd 01.\nodd 3.\nodd notes\nkept 1 fresh 1 dropped 1\n"

-- uid, size, flags and modification number of each record
abbrev pub shown_records : List IndexRecord → List (ℕ × ℕ × ℕ × ℕ)
shown_records records = map (λ r. (r.uid, r.size, r.system_flags, r.modseq)) records

abbrev pub TwoRecordsAreLeft : Type 0
TwoRecordsAreLeft = (file : List ℕ) → KnowsDigests → HasThreeRecords file
    → shown_records (rebuilt_records (Some file) two_messages 1700000000) ≡ (1, 3, 2, 7) ∷ (2, 43, 0, 10) ∷ []

-- records, greatest uid, uidvalidity, and how many are shown and flagged
abbrev pub shown_counts : IndexHeader → ℕ × ℕ × ℕ × ℕ × ℕ
shown_counts h = (h.num_records, h.last_uid, h.uidvalidity, h.exists, h.flagged)

-- the sizes added up, and the greatest modification numbers, of all and of those removed
abbrev pub shown_sums : IndexHeader → ℕ × ℕ × ℕ
shown_sums h = (h.quota_mailbox_used, h.highestmodseq, h.deletedmodseq)

abbrev pub HeaderIsLeft : Type 0
HeaderIsLeft = (file : List ℕ) → KnowsDigests → HasThreeRecords file
    → (shown_counts (rebuilt_header (Some file) two_messages 1700000000) ≡ (2, 5, 77, 2, 1))
    × (shown_sums (rebuilt_header (Some file) two_messages 1700000000) ≡ (46, 10, 10))

-- ---- beside a damaged index

abbrev pub last_message : MessageFile
last_message = file_of (codes "4294967295.") (codes "abc")

abbrev pub DamagedIsReported : Type 0
DamagedIsReported = (file : List ℕ) → first_fault file ≡ Some Check
    → report plain (Some file) (first_message ∷ last_message ∷ []) (1 ∷ 4294967295 ∷ []) []
    ≡ codes "index damaged: Check\nuid 1 new\nuid 4294967295 new\nkept 0 fresh 2 dropped 0\n"

abbrev pub NewHeaderIsLeft : Type 0
NewHeaderIsLeft = (file : List ℕ) → first_fault file ≡ Some Check
    → (shown_counts (rebuilt_header (Some file) (first_message ∷ last_message ∷ []) 1700000000) ≡ (2, 4294967295, 1700000000, 2, 0))
    × (shown_sums (rebuilt_header (Some file) (first_message ∷ last_message ∷ []) 1700000000) ≡ (6, 2, 0))
