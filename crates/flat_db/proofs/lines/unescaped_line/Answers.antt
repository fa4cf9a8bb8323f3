use Rattle.std.proofs.Common.{◌+◌, ◌-◌, drop, arith}
use Rattle.std.proofs.lemmas.List.{length-drop, length-take-le}
use Rattle.flat_db.proofs.UnescapedLemmas.{found_byte, unescaped_says}
use Rattle.flat_db.proofs.lines.unescaped_line.Goals as goal

pub returns-clause-pair : goal.returns-clause-pair
returns-clause-pair c =
    let text = c.args.text.now in
    let at = c.args.at in
    let to = c.args.unescaped in
    let key_size = c.in_ok-tab.field-0 in
    let size = c.in_ok-end.field-0 in
    let tab = c.in_ok-tab.ensures in
    let end = c.in_ok-end.ensures in
    unescaped_says text at to key_size size _ _ (omega arith) (omega arith) (omega arith)
    (omega (arith, end.0.high, length-take-le (to - (at + key_size + 1)) (drop (at + key_size + 1) text) (omega (arith, length-drop (at + key_size + 1) text))))
    c.requires.within c.requires.unescaped tab.0.before end.0.before (omega arith)
    (found_byte 10 text (at + key_size + 1) (to - (at + key_size + 1)) size (omega (arith, end.0.high, length-take-le (to - (at + key_size + 1)) (drop (at + key_size + 1) text) (omega (arith, length-drop (at + key_size + 1) text)))) end.1)

pub returns-clause-next : goal.returns-clause-next
returns-clause-next c =
    let text = c.args.text.now in
    let from = c.args.at + c.in_ok-tab.field-0 + 1 in
    let end = c.in_ok-end.ensures in
    (omega arith, omega (arith, end.0.high, length-take-le (c.args.unescaped - from) (drop from text) (omega (arith, length-drop from text))))
