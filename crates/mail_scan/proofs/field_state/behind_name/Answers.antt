use Rattle.std.proofs.Common.{sym, ◌∙◌, arith}
use Rattle.mail_scan.proofs.FieldLemmas.{reads_name, reads_whole_name, reads_no_name}
use Rattle.mail_scan.proofs.field_state.behind_name.Goals as goal
use Rattle.mail_scan.proofs.field_state.behind_name.Goals.{else-size-lt5-via-then-size-lt5+else-to_ascii_lowercase-size, else-size-lt5-via-else-size-lt5}

pub returns-then-size-eq4 : goal.returns-then-size-eq4
returns-then-size-eq4 c header line name reads = reads_whole_name header line c.args.byte c.args.size name reads (sym c.to_ascii_lowercase.ensures.value ∙ c.if-to_ascii_lowercase-size.true) c.if-size-eq4.true

pub returns-else-size-eq4 : goal.returns-else-size-eq4
returns-else-size-eq4 c header line name reads = reads_name header line c.args.byte c.args.size name reads (sym c.to_ascii_lowercase.ensures.value ∙ c.if-to_ascii_lowercase-size.true) (omega arith)

pub returns-else-size-lt5 : goal.returns-else-size-lt5
returns-else-size-lt5 c header line name reads =
    elim c.else-size-lt5.branch [
      | else-size-lt5-via-then-size-lt5+else-to_ascii_lowercase-size w ↦ c.behind_other.ensures header (reads_no_name header line c.args.byte c.args.size name reads (λ same. w.if-to_ascii_lowercase-size.false (w.to_ascii_lowercase.ensures.value ∙ same)))
      | else-size-lt5-via-else-size-lt5 w ↦ absurd (omega (arith, name.some_missing, w.if-size-lt5.false))
    ]
