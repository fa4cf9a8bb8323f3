-- What a header says of its records together.
use Rattle.std.specs.Prelude.{◌≡◌, ℕ, ◌==◌, Bool, not, ◌&&◌, List, map, length, count_by, min, max, bit_and}
use Rattle.std.specs.List.{filter, fold, reduce, sum_by}
use Rattle.std.specs.Option.{unwrap_or}
use Rattle.index_form.specs.declared.record.IndexRecord.{IndexRecord}
use Rattle.index_form.specs.declared.totals.Totals.{Totals}

-- ---- flags

abbrev pub answered : ℕ
answered = 1

abbrev pub flagged : ℕ
flagged = 2

abbrev pub deleted : ℕ
deleted = 4

abbrev pub unlinked : ℕ
unlinked = 1073741824

abbrev pub expunged : ℕ
expunged = 2147483648

-- the record has the flag
abbrev pub has_flag : ℕ → IndexRecord → Bool
has_flag flag r = not (bit_and r.system_flags flag == 0)

-- the record is not expunged
abbrev pub stands : IndexRecord → Bool
stands r = not (has_flag expunged r)

-- ---- of all records

-- how many records that are not expunged have the flag
abbrev pub flag_count : ℕ → List IndexRecord → ℕ
flag_count flag rs = count_by (λ r. stands r && has_flag flag r) rs

-- the sizes of the records that are not expunged, added up
abbrev pub size_used : List IndexRecord → ℕ
size_used rs = sum_by (λ r. r.size) (filter stands rs)

-- the least time of change of an expunged record, and 0 where there is none
abbrev pub first_expunged_of : List IndexRecord → ℕ
first_expunged_of rs = unwrap_or (reduce min (map (λ r. r.last_updated) (filter (has_flag expunged) rs))) 0

-- the greatest uid, and 0 where there is no record
abbrev pub greatest_uid : List IndexRecord → ℕ
greatest_uid rs = fold (λ greatest r. max greatest r.uid) 0 rs

-- the totals of these records
pub record AreTotals (rs : List IndexRecord) (totals : Totals) : Type 0 where
  pub num_records : totals.num_records ≡ length rs
  pub last_uid : totals.last_uid ≡ greatest_uid rs
  pub exists : totals.exists ≡ count_by stands rs
  pub deleted : totals.deleted ≡ flag_count deleted rs
  pub answered : totals.answered ≡ flag_count answered rs
  pub flagged : totals.flagged ≡ flag_count flagged rs
  pub used : totals.quota_mailbox_used ≡ size_used rs
  pub first_expunged : totals.first_expunged ≡ first_expunged_of rs
