use Rattle.std.proofs.Common.{◌++◌, ◌-◌, List, ℕ, sym, ap, ◌∙◌, append_assoc}
use Rattle.std.specs.List.{flat_map, range_with_len}
use Rattle.mail_rebuild.specs.Report.{ignored_line}
use Rattle.mail_rebuild.proofs.ReportLemmas.{ignored_more}
use Rattle.mail_rebuild.proofs.report.append_ignored.Goals as goal

pub loop-place-preserved : goal.loop-place-preserved
loop-place-preserved c =
    let before = flat_map ignored_line (range_with_len c.args.from (c.loop-place.place - c.args.from)) in
    c.in_ok-append_number.ensures
    ∙ ap (λ (t : List ℕ). t ++ ignored_line c.loop-place.place) c.loop-place.invariant
    ∙ append_assoc c.args.text.now.items before (ignored_line c.loop-place.place)
    ∙ ap (λ (t : List ℕ). c.args.text.now.items ++ t) (sym (ignored_more c.args.from c.loop-place.place c.loop-place.auto.place))
