use Rattle.mail_scan.proofs.FieldLemmas.{kept_more}
use Rattle.mail_scan.proofs.date_field.DateField.keep.Goals as goal

pub returns-clause-kept : goal.returns-clause-kept
returns-clause-kept c = kept_more c.try_push.result c.args.self.now.kept c.try_push.new.self c.args.byte c.try_push.ensures.variant c.try_push.ensures.ok c.try_push.ensures.err c.try_push.ensures.full
