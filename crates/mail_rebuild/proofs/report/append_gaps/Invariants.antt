use Rattle.std.proofs.Common.{◌≡◌, ◌++◌, length}
use Rattle.std.specs.List.{flat_map}
use Rattle.index_form.specs.Reading.{records_of}
use Rattle.index_form.specs.Usable.{usable_records}
use Rattle.index_form.specs.Views.{file_of, usable_left}
use Rattle.mail_rebuild.specs.Report.{ignored_line}
use Rattle.mail_rebuild.proofs.ReportLemmas.{PlacesRise, gaps}
use Rattle.mail_rebuild.proofs.report.append_gaps.Given as goal

abbrev pub invariant-loop-place : goal.invariant-loop-place
invariant-loop-place l = record {
  rise : PlacesRise l.from l.count (usable_left l.usable);
  text : l.text.items ++ flat_map ignored_line (gaps l.from l.count (usable_left l.usable)) ≡ l.initial.text.items ++ flat_map ignored_line (gaps 0 l.count (usable_records (records_of (file_of l.fn.view))));
}

abbrev pub decreases-loop-place : goal.decreases-loop-place
decreases-loop-place l = length (usable_left l.usable)
