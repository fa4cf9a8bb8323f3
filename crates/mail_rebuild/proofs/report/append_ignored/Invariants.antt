use Rattle.std.proofs.Common.{◌≡◌, ◌++◌, ◌-◌}
use Rattle.std.specs.List.{flat_map, range_with_len}
use Rattle.mail_rebuild.specs.Report.{ignored_line}
use Rattle.mail_rebuild.proofs.report.append_ignored.Given as goal

abbrev pub invariant-loop-place : goal.invariant-loop-place
invariant-loop-place l = l.text.items ≡ l.initial.text.items ++ flat_map ignored_line (range_with_len l.from (l.place - l.from))
