use Rattle.std.proofs.Common.{sym, ap}
use Rattle.std.specs.Prelude.{is_some}
use Rattle.db_script.proofs.FieldLemmas.{spelled, not_spelled}
use Rattle.db_script.proofs.form.is_spelled.Goals as goal

pub returns-in-Some : goal.returns-in-Some
returns-in-Some c = sym (ap is_some (not_spelled c.args.field.now _ c.in-Some.ensures.some))

pub returns-in-None : goal.returns-in-None
returns-in-None c = let s = c.bad_escape.ensures.none (ap is_some c.in-None.is) in sym (ap is_some (spelled s.0 c.args.field.now s.1))
