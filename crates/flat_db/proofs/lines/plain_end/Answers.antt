use Rattle.std.proofs.Common.{◌-◌, length, ap, arith}
use Rattle.std.proofs.lemmas.List.{length-drop, take_rest}
use Rattle.memchr.specs.Find.{is_byte3}
use Rattle.flat_db.proofs.PlainLemmas.{nowhere_in}
use Rattle.flat_db.proofs.lines.plain_end.Goals as goal

pub returns-in-Some-clause-plain : goal.returns-in-Some-clause-plain
returns-in-Some-clause-plain c k from below is =
    let text = c.args.text.now in
    let at = c.args.at in
    let found = c.in-Some.ensures in
    nowhere_in (is_byte3 255 0 13) text at (length text - at) c.in-Some.size (omega (arith, found.0.high, ap length (take_rest text at), length-drop at text)) found.0.before k from below is

pub returns-in-None-clause-plain : goal.returns-in-None-clause-plain
returns-in-None-clause-plain c k from below is =
    let text = c.args.text.now in
    let at = c.args.at in
    let size = length text - at in
    nowhere_in (is_byte3 255 0 13) text at size size (omega arith) (λ i low less. c.in-None.ensures i low (omega (arith, less, ap length (take_rest text at), length-drop at text))) k from (omega (arith, below)) is
