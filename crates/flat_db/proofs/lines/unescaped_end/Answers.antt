use Rattle.std.proofs.Common.{◌-◌, length, ap, arith}
use Rattle.std.proofs.lemmas.List.{length-drop, take_rest}
use Rattle.memchr.specs.Find.{is_byte}
use Rattle.flat_db.proofs.PlainLemmas.{nowhere_in}
use Rattle.flat_db.proofs.lines.unescaped_end.Goals as goal

pub returns-in-Some-clause-unescaped : goal.returns-in-Some-clause-unescaped
returns-in-Some-clause-unescaped c k from below is =
    let text = c.args.text.now in
    let at = c.args.at in
    let found = c.in-Some.ensures in
    nowhere_in (is_byte 255) text at (length text - at) c.in-Some.size (omega (arith, found.0.high, ap length (take_rest text at), length-drop at text)) found.0.before k from below is

pub returns-in-None-clause-unescaped : goal.returns-in-None-clause-unescaped
returns-in-None-clause-unescaped c k from below is =
    let text = c.args.text.now in
    let at = c.args.at in
    let size = length text - at in
    nowhere_in (is_byte 255) text at size size (omega arith) (λ i low less. c.in-None.ensures i low (omega (arith, less, ap length (take_rest text at), length-drop at text))) k from (omega (arith, below)) is
