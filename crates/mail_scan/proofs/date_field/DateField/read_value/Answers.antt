use Rattle.std.proofs.Common.{ap, ◌∙◌, ◌++◌, ◌∷◌, [], take, arith}
use Rattle.mail_scan.proofs.FieldLemmas.{take_push, reads_feed, reads_return, reads_byte}
use Rattle.mail_scan.proofs.date_field.DateField.read_value.Goals as goal

pub returns-in-10 : goal.returns-in-10
returns-in-10 c header value kept reads = record { value = value; kept = kept; reads_on = reads_feed header value c.args.byte c.in-10.is reads }

pub returns-in-13 : goal.returns-in-13
returns-in-13 c header value kept reads = record { value = value; kept = kept; reads_on = reads_return header value c.args.byte c.in-13.is reads }

pub returns-in_default : goal.returns-in_default
returns-in_default c header value kept reads = record {
  value = value ++ c.args.byte ∷ [];
  kept = c.keep.ensures.kept ∙ ap (λ l. take 128 (l ++ c.args.byte ∷ [])) kept ∙ take_push value c.args.byte 128;
  reads_on = rw c.keep.ensures.state (reads_byte header value c.args.byte (omega arith) (omega arith) reads);
}
