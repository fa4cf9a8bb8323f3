use Rattle.std.proofs.Common.{List, ℕ, arith, subst}
use Rattle.flat_db.specs.Plain.{Stands}
use Rattle.flat_db.proofs.PlainLemmas.{line_of_entry}
use Rattle.flat_db.proofs.writing.standing_size.Goals as goal

pub returns-clause-line : goal.returns-clause-line
returns-clause-line c =
    line_of_entry c.args.bytes.now c.args.entry _ (omega (arith, c.if-entry-tab.false)) (omega (arith, c.if-entry-tab.false)) (omega (arith, c.if-end-bytes.false)) c.if-bytes-tab-ne9.false c.if-bytes-end-ne10.false
    (subst Stands c.part.ensures (c.field_stands.ensures c.if-not-field_stands.false))
    (subst Stands c.part-else-not-field_stands.ensures (c.field_stands-else-not-field_stands.ensures c.if-not-field_stands-2.false))
