use Rattle.std.proofs.Common.{◌+◌, ◌++◌, subst, refl, sym, ap, ◌∙◌, List, ℕ, arith}
use Rattle.std.specs.List.{flat_map}
use Rattle.std.proofs.lemmas.Result.{on_ok_weaker}
use Rattle.index_form.specs.Reading.{records_of}
use Rattle.index_form.specs.Usable.{usable_records}
use Rattle.index_form.specs.Views.{file_of, placed_record, usable_left}
use Rattle.mail_rebuild.specs.Report.{ignored_line}
use Rattle.mail_rebuild.proofs.ReportLemmas.{PlacesRise, gaps, gaps_more, ignored_are_gaps, places_rise, places_within}
use Rattle.mail_rebuild.proofs.report.append_gaps.Goals as goal

pub loop-place-init : goal.loop-place-init
loop-place-init c = record {
  rise = rw (c.count-count.ensures.records, c.usable-usable.ensures) (places_rise (records_of (file_of c.args.view)));
  text = rw c.usable-usable.ensures refl;
}

pub overflow_add-from : goal.overflow_add-from
overflow_add-from c =
    let rise = subst (PlacesRise c.loop-place.from c.count-count.result) c.in-Some.ensures.steps c.loop-place.invariant.rise in
    let within = places_within c.loop-place.from c.count-count.result (placed_record (c.in-Some.place, c.in-Some.field-0-1)) (usable_left c.next.new.self) rise in
    omega (arith, within)

pub loop-place-preserved : goal.loop-place-preserved
loop-place-preserved c =
    let step = c.in-Some.ensures.steps in
    let inv = c.loop-place.invariant in
    let rise = subst (PlacesRise c.loop-place.from c.count-count.result) step inv.rise in
    record {
      rise = rise.1;
      text =
          ap (λ (t : List ℕ). t ++ flat_map ignored_line (gaps (c.in-Some.place + 1) c.count-count.result (usable_left c.next.new.self))) c.in_ok-append_ignored.ensures
          ∙ gaps_more c.loop-place.text.items c.loop-place.from c.count-count.result (placed_record (c.in-Some.place, c.in-Some.field-0-1)) (usable_left c.next.new.self)
          ∙ ap (λ l. c.loop-place.text.items ++ flat_map ignored_line (gaps c.loop-place.from c.count-count.result l)) (sym step)
          ∙ inv.text;
    }

pub returns : goal.returns
returns c =
    let stored = records_of (file_of c.args.view) in
    let count = c.count-count.ensures.records in
    on_ok_weaker c.append_ignored-2.result
    (λ e. e
    ∙ ap (λ l. c.loop-place.text.items ++ flat_map ignored_line (gaps c.loop-place.from c.count-count.result l)) (sym c.in_default.ensures.steps.0)
    ∙ c.loop-place.invariant.text
    ∙ ap (λ n. c.args.text.now.items ++ flat_map ignored_line (gaps 0 n (usable_records stored))) count
    ∙ ap (λ ps. c.args.text.now.items ++ flat_map ignored_line ps) (sym (ignored_are_gaps stored)))
    c.append_ignored-2.ensures
