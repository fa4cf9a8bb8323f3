use Rattle.std.proofs.Common.{◌++◌, ap, ◌∙◌, append_assoc}
use Rattle.std.specs.List.{flat_map}
use Rattle.std.proofs.lemmas.Result.{on_ok_weaker}
use Rattle.mail_rebuild.specs.Report.{ignored_line, ignored_places, odd_line}
use Rattle.mail_rebuild.proofs.report.append_lines.Goals as goal

pub returns : goal.returns
returns c image is =
    let first = c.in_ok-append_index.ensures image is in
    let second = c.in_ok-append_all_ignored.ensures image is in
    let third = c.in_ok-append.ensures in
    let skip = c.if-skip_odd.false in
    on_ok_weaker c.append_odd.result
    (λ e. e ∙ ap (λ l. c.append.new.text.items ++ flat_map odd_line l) c.deref-2.ensures.value ∙ (λ i. (third ∙ (λ j. (second ∙ (λ k. first k ++ flat_map ignored_line (ignored_places image))) j ++ c.deref.result.now)) i ++ flat_map odd_line c.args.made.now.odd.items)
    ∙ rw (skip, c.deref.ensures.value) (simp append_assoc))
    c.append_odd.ensures
