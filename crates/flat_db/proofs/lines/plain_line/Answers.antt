use Rattle.std.proofs.Common.{◌+◌, ◌-◌, drop, arith}
use Rattle.std.proofs.lemmas.List.{length-drop, length-take-le}
use Rattle.flat_db.proofs.PlainLemmas.{written_line}
use Rattle.flat_db.proofs.lines.plain_line.Goals as goal

pub returns-clause-written : goal.returns-clause-written
returns-clause-written c =
    let text = c.args.text.now in
    let at = c.args.at in
    let to = c.args.plain in
    let key_size = c.in_ok-tab.field-0 in
    let size = c.in_ok-end.field-0 in
    let tab = c.in_ok-tab.ensures in
    let end = c.in_ok-end.ensures in
    written_line text at to key_size size _ _ (omega arith) (omega arith) (omega arith)
    (omega (arith, end.0.high, length-take-le (to - (at + key_size + 1)) (drop (at + key_size + 1) text) (omega (arith, length-drop (at + key_size + 1) text))))
    c.requires.within c.requires.plain tab.0.before end.0.before (omega arith) (omega arith)
