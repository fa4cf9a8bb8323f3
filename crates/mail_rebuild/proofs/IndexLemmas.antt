-- Findings added one after another.
use Rattle.std.proofs.Common.{◌≡◌, ◌+◌, ℕ, false, List, [], ◌∷◌, ◌++◌, length, max, Option, None, Some, refl, sym, ap, subst, ◌∙◌, arith, length-append}
use Rattle.std.specs.List.{cons_option, filter_map, flat_map, fold}
use Rattle.std.proofs.lemmas.Grind.{flat_map-append}
use Rattle.std.proofs.lemmas.List.{append-nil}
use Rattle.std.proofs.lemmas.List.Concat.{flat_map-cons}
use Rattle.std.proofs.lemmas.List.Elements.{filter_map-append}
use Rattle.index_form.specs.declared.record.IndexRecord.{IndexRecord}
use Rattle.index_form.specs.Spelling.{record_bytes}
use Rattle.index_form.specs.Totals.{AreTotals, greatest_uid}
use Rattle.mail_rebuild.specs.declared.new_index.NewIndex.{NewIndex}
use Rattle.mail_rebuild.specs.Findings.{Finding, dropped_from, fresh_from, kept_from, line_from, record_from}
use Rattle.mail_rebuild.specs.NewIndex.{AddsFinding, AddsFresh, HoldsFindings}
use Rattle.mail_rebuild.specs.declared.report.Tally.{Tally}
use Rattle.mail_rebuild.specs.Rebuilt.{fresh_record, matches, uid_of_file}
use Rattle.mail_rebuild.specs.Report.{uid_line}
use Rattle.std.specs.Prelude.{codes}
use Rattle.base_devices.specs.SpoolCalls.{MessageFile}

counted_more : {Y : Type 0} (h : Finding → Option Y) (found : List Finding) (f : Finding) (old new : ℕ) → old ≡ length (filter_map h found) → new ≡ old + length (cons_option (h f) []) → new ≡ length (filter_map h (found ++ f ∷ []))
counted_more h found f old new was more =
    more ∙ ap (λ n. n + length (cons_option (h f) [])) was ∙ sym (length-append (filter_map h found) (cons_option (h f) [])) ∙ ap length (sym (filter_map-append h found (f ∷ [])))

pub holds_more : (found : List Finding) (f : Finding) (old new : NewIndex) → HoldsFindings found old → AddsFinding f old new → HoldsFindings (found ++ f ∷ []) new
holds_more found f old new holds adds =
    let made = filter_map-append (record_from old.modseq old.time) found (f ∷ []) in
    record {
      bytes = rw (adds.modseq, adds.time, made) (
          adds.bytes
          ∙ ap (λ (t : List ℕ). t ++ flat_map record_bytes (cons_option (record_from old.modseq old.time f) [])) holds.bytes
          ∙ sym (flat_map-append record_bytes (filter_map (record_from old.modseq old.time) found) (cons_option (record_from old.modseq old.time f) [])));
      totals = rw (adds.modseq, adds.time, made) (adds.totals (filter_map (record_from old.modseq old.time) found) holds.totals);
      usable = rw (filter_map-append (λ (g : Finding). g.old) found (f ∷ [])) (adds.usable (filter_map (λ g. g.old) found) holds.usable);
      kept = counted_more kept_from found f old.tally.kept new.tally.kept holds.kept adds.kept;
      fresh = counted_more fresh_from found f old.tally.fresh new.tally.fresh holds.fresh adds.fresh;
      dropped = counted_more dropped_from found f old.tally.dropped new.tally.dropped holds.dropped adds.dropped;
      lines = adds.lines ∙ ap (λ (t : List ℕ). t ++ line_from f) holds.lines ∙ ap (λ t. flat_map line_from found ++ t) (sym (append-nil (line_from f)) ∙ sym (flat_map-cons line_from f [])) ∙ sym (flat_map-append line_from found (f ∷ []));
    }

-- the greatest uid with one record more
pub greatest_more : (rs : List IndexRecord) (r : IndexRecord) → greatest_uid (rs ++ r ∷ []) ≡ max (greatest_uid rs) r.uid
greatest_more rs r = from 0 rs
  where
    from : (n : ℕ) (xs : List IndexRecord) → fold (λ greatest (x : IndexRecord). max greatest x.uid) n (xs ++ r ∷ []) ≡ max (fold (λ greatest (x : IndexRecord). max greatest x.uid) n xs) r.uid
    from n [] = refl
    from n (x ∷ xs) = from (max n x.uid) xs

-- ---- one finding

one_record : (made : IndexRecord) → flat_map record_bytes (made ∷ []) ≡ record_bytes made
one_record made = flat_map-cons record_bytes made [] ∙ append-nil (record_bytes made)

-- a record was seen, and nothing else was done
pub record SeesRecord (r : IndexRecord) (old new : NewIndex) : Type 0 where
  pub records : new.records ≡ old.records
  pub totals : new.totals ≡ old.totals
  pub tally : new.tally ≡ old.tally
  pub lines : new.lines ≡ old.lines
  pub modseq : new.modseq ≡ old.modseq
  pub time : new.time ≡ old.time
  pub greatest : new.usable_uid ≡ max old.usable_uid r.uid

pub adds_unmatched : (file : MessageFile) (r : IndexRecord) (old mid new : NewIndex) → SeesRecord r old mid → matches file r ≡ false
    → AddsFresh (fresh_record old.modseq old.time file) (codes " unmatched\n") mid new → AddsFinding (record { message = Some file; old = Some r }) old new
adds_unmatched file r old mid new sees is adds = record {
  modseq = adds.written.numbers.modseq ∙ sees.modseq;
  time = adds.written.numbers.time ∙ sees.time;
  bytes = rw is (adds.written.bytes ∙ (λ i. (sees.records i).items ++ sym (one_record (fresh_record old.modseq old.time file)) i));
  totals = rw is (λ rs are. adds.written.totals rs (subst (AreTotals rs) (sym sees.totals) are));
  usable = λ rs was. adds.written.numbers.usable_uid ∙ sees.greatest ∙ ap (λ n. max n r.uid) was ∙ sym (greatest_more rs r);
  kept = rw is (ap (λ (t : Tally). t.kept) adds.counted ∙ ap (λ (t : Tally). t.kept) sees.tally ∙ omega arith);
  fresh = rw is (ap (λ (t : Tally). t.fresh) adds.counted ∙ ap (λ (t : Tally). t.fresh + 1) sees.tally);
  dropped = ap (λ (t : Tally). t.dropped) adds.counted ∙ ap (λ (t : Tally). t.dropped) sees.tally ∙ omega arith;
  lines = rw is (adds.lines ∙ (λ i. (sees.lines i).items ++ uid_line (uid_of_file file) (codes " unmatched\n")));
}

-- neither a message nor a record
pub adds_nothing : (index : NewIndex) → AddsFinding (record { message = None; old = None }) index index
adds_nothing index = record {
  modseq = refl;
  time = refl;
  bytes = sym (append-nil index.records.items);
  totals = λ rs are. rw (append-nil rs) are;
  usable = λ rs was. rw (append-nil rs) was;
  kept = omega arith;
  fresh = omega arith;
  dropped = omega arith;
  lines = sym (append-nil index.lines.items);
}
