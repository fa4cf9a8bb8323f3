use Rattle.std.proofs.Common.{◌≡◌, ◌++◌, take}
use Rattle.std.specs.List.{flat_map}
use Rattle.mail_rebuild.specs.Report.{odd_line}
use Rattle.mail_rebuild.proofs.report.append_odd.Given as goal

abbrev pub invariant-loop-name : goal.invariant-loop-name
invariant-loop-name l = l.text.items ≡ l.initial.text.items ++ flat_map odd_line (take l.name-index l.odd)
