use Rattle.std.proofs.Common.{ℕ, Option, Some, None, arith}
use Rattle.std.specs.Prelude.{IfSome, IsNone}
use Rattle.db_script.specs.Fields.{EndsAt, EndsNowhere}
use Rattle.db_script.proofs.FieldLemmas.{ends_at, ends_nowhere}
use Rattle.memchr.specs.Find.{IsFirstByte, is_byte}
use Rattle.db_script.proofs.form.find.Goals as goal

pub returns-clause-some : goal.returns-clause-some
returns-clause-some c = by c.memchr.result c.memchr.ensures
  where
    by : (o : Option ℕ) → IsFirstByte (is_byte c.args.byte) c.args.bytes.now o → IfSome o (λ at. EndsAt c.args.byte c.args.bytes.now at)
    by None found = tt
    by (Some at) found = ends_at c.args.byte c.args.bytes.now at found.0.high found.1 (λ i below is. found.0.before i (omega arith) below is)

pub returns-clause-none : goal.returns-clause-none
returns-clause-none c none = by c.memchr.result c.memchr.ensures none
  where
    by : (o : Option ℕ) → IsFirstByte (is_byte c.args.byte) c.args.bytes.now o → IsNone o → EndsNowhere c.args.byte c.args.bytes.now
    by None nowhere none = ends_nowhere c.args.byte c.args.bytes.now (λ i below is. nowhere i (omega arith) below is)
    by (Some at) found none = absurd (cc none)
