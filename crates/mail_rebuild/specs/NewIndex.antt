-- What one message or one old record more makes of a new index.
use Rattle.std.specs.Prelude.{◌≡◌, ℕ, ◌+◌, ◌<◌, ◌≤◌, Bool, not, ◌||◌, List, ◌++◌, [], ◌∷◌, codes, length, nat_lt, Option, None, Some, if◌then◌else◌}
use Rattle.std.specs.List.{cons_option, filter_map, flat_map}
use Rattle.index_form.specs.declared.record.IndexRecord.{IndexRecord}
use Rattle.index_form.specs.Spelling.{record_bytes}
use Rattle.index_form.specs.Totals.{AreTotals, greatest_uid}
use Rattle.mail_rebuild.specs.declared.new_index.NewIndex.{NewIndex}
use Rattle.mail_rebuild.specs.declared.report.Tally.{Tally}
use Rattle.mail_rebuild.specs.Findings.{Finding, dropped_from, fresh_from, kept_from, line_from, record_from}
use Rattle.mail_rebuild.specs.Report.{uid_line}

-- ---- one record or line more

-- the numbers that fresh records are made by, and the greatest uid of an old record
pub record KeepsNumbers (old new : NewIndex) : Type 0 where
  pub modseq : new.modseq ≡ old.modseq
  pub time : new.time ≡ old.time
  pub usable_uid : new.usable_uid ≡ old.usable_uid

-- the record stands behind the others, and is counted
pub record AddsRecord (made : IndexRecord) (old new : NewIndex) : Type 0 where
  pub bytes : new.records.items ≡ old.records.items ++ record_bytes made
  pub totals : (rs : List IndexRecord) → AreTotals rs old.totals → AreTotals (rs ++ made ∷ []) new.totals
  pub numbers : KeepsNumbers old new

-- a message that keeps its record: no line is added
pub record AddsKept (made : IndexRecord) (old new : NewIndex) : Type 0 where
  pub written : AddsRecord made old new
  pub counted : new.tally ≡ record old.tally { kept = old.tally.kept + 1 }
  pub lines : new.lines.items ≡ old.lines.items

-- a message that keeps nothing, with what is said of it
pub record AddsFresh (made : IndexRecord) (said : List ℕ) (old new : NewIndex) : Type 0 where
  pub written : AddsRecord made old new
  pub counted : new.tally ≡ record old.tally { fresh = old.tally.fresh + 1 }
  pub lines : new.lines.items ≡ old.lines.items ++ uid_line made.uid said

-- a usable record without a message
pub record AddsDropped (uid : ℕ) (old new : NewIndex) : Type 0 where
  pub records : new.records.items ≡ old.records.items
  pub totals : new.totals ≡ old.totals
  pub counted : new.tally ≡ record old.tally { dropped = old.tally.dropped + 1 }
  pub lines : new.lines.items ≡ old.lines.items ++ uid_line uid (codes " dropped\n")
  pub numbers : KeepsNumbers old new

-- one record more at most, and one dropped, by the same numbers
pub record CountsOne (old new : NewIndex) : Type 0 where
  pub modseq : new.modseq ≡ old.modseq
  pub time : new.time ≡ old.time
  pub records : new.totals.num_records ≤ old.totals.num_records + 1
  pub dropped : new.tally.dropped ≤ old.tally.dropped + 1

-- the counts have room for one more
pub record HasRoom (index : NewIndex) : Type 0 where
  pub records : index.totals.num_records < 4294967295
  pub dropped : index.tally.dropped < 4294967295

-- ---- all findings

-- the records, totals, counts and lines of these findings
pub record HoldsFindings (found : List Finding) (index : NewIndex) : Type 0 where
  pub bytes : index.records.items ≡ flat_map record_bytes (filter_map (record_from index.modseq index.time) found)
  pub totals : AreTotals (filter_map (record_from index.modseq index.time) found) index.totals
  pub usable : index.usable_uid ≡ greatest_uid (filter_map (λ f. f.old) found)
  pub kept : index.tally.kept ≡ length (filter_map kept_from found)
  pub fresh : index.tally.fresh ≡ length (filter_map fresh_from found)
  pub dropped : index.tally.dropped ≡ length (filter_map dropped_from found)
  pub lines : index.lines.items ≡ flat_map line_from found

-- a finding behind others
pub record AddsFinding (f : Finding) (old new : NewIndex) : Type 0 where
  pub modseq : new.modseq ≡ old.modseq
  pub time : new.time ≡ old.time
  pub bytes : new.records.items ≡ old.records.items ++ flat_map record_bytes (cons_option (record_from old.modseq old.time f) [])
  pub totals : (rs : List IndexRecord) → AreTotals rs old.totals → AreTotals (rs ++ cons_option (record_from old.modseq old.time f) []) new.totals
  pub usable : (rs : List IndexRecord) → old.usable_uid ≡ greatest_uid rs → new.usable_uid ≡ greatest_uid (rs ++ cons_option f.old [])
  pub kept : new.tally.kept ≡ old.tally.kept + length (cons_option (kept_from f) [])
  pub fresh : new.tally.fresh ≡ old.tally.fresh + length (cons_option (fresh_from f) [])
  pub dropped : new.tally.dropped ≡ old.tally.dropped + length (cons_option (dropped_from f) [])
  pub lines : new.lines.items ≡ old.lines.items ++ line_from f

-- ---- the modification number

-- the index is not what its folder is
abbrev pub is_due : Bool → Tally → Bool
is_due is_whole tally = not is_whole || nat_lt 0 (tally.fresh + tally.dropped)

-- the number of the rebuild, or none where one is due after the last
abbrev pub next_modseq : ℕ → Bool → Option ℕ
next_modseq last due = if due then (if nat_lt last 18446744073709551615 then Some (last + 1) else None) else Some last
