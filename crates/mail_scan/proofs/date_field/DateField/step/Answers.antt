use Rattle.std.proofs.Common.{ap, sym, ◌∙◌, ◌++◌, ◌∷◌, [], take}
use Rattle.mail_scan.proofs.FieldLemmas.{take_push, in_line, after_return, after_line_end, goes_on}
use Rattle.mail_scan.proofs.date_field.DateField.step.Goals as goal
use Rattle.mail_scan.proofs.date_field.DateField.step.Goals.{then-byte-ne10, else-byte-ne10}

pub returns-in-InLine : goal.returns-in-InLine
returns-in-InLine c header knows =
    let reads = rw c.in-InLine.is at knows.reads_on in
    record { value = []; kept = knows.kept ∙ ap (take 128) reads.0; reads_on = c.behind_other-self.ensures header (in_line header c.args.byte reads.1) }

pub returns-in-Value : goal.returns-in-Value
returns-in-Value c header knows =
    let reads = rw c.in-Value.is at knows.reads_on in
    c.read_value.ensures header knows.value knows.kept (λ rest. reads (c.args.byte ∷ rest))

pub returns-after-byte-ne10 : goal.returns-after-byte-ne10
returns-after-byte-ne10 c header knows =
    let reads = rw c.in-ValueCr.is at knows.reads_on in
    elim c.if-byte-ne10.branch [
      | then-byte-ne10 w ↦
          c.read_value-in-ValueCr.ensures header (knows.value ++ 13 ∷ [])
          (ap (λ f. f.kept.items) w.self-is ∙ w.keep.ensures.kept ∙ ap (λ l. take 128 (l ++ 13 ∷ [])) knows.kept ∙ take_push knows.value 13 128)
          (after_return header knows.value c.args.byte w.if-byte-ne10.true reads)
      | else-byte-ne10 w ↦
          c.read_value-in-ValueCr.ensures header knows.value (ap (λ f. f.kept.items) w.self-is ∙ knows.kept)
          (after_line_end header knows.value c.args.byte w.if-byte-ne10.false reads)
    ]

pub returns-then-is_space : goal.returns-then-is_space
returns-then-is_space c header knows =
    let reads = rw c.in-ValueLf.is at knows.reads_on in
    c.read_value-then-is_space.ensures header knows.value knows.kept (goes_on header knows.value c.args.byte (sym c.is_space.ensures ∙ c.if-is_space.true) reads)
