use Rattle.std.proofs.Common.{length, drop, ap, arith, length-append}
use Rattle.std.proofs.lemmas.List.{length-drop}
use Rattle.flat_db.specs.FlatText.{pair_line}
use Rattle.flat_db.specs.Entries.{part_of}
use Rattle.flat_db.proofs.PlainLemmas.{stands_says}
use Rattle.flat_db.proofs.Sizes.{line_length}
use Rattle.flat_db.proofs.lines.next_line.Goals as goal

pub returns-in-Some-clause-next : goal.returns-in-Some-clause-next
returns-in-Some-clause-next c =
    let text = c.args.text.now in
    let line = c.in-Some.line in
    let has = c.in-Some.ensures.written in
    let key = part_of text line.entry.key in
    let value = part_of text line.entry.value in
    (omega (arith, has.within, ap length has.written, length-append (pair_line key value) (drop line.next text), line_length key value, length-drop c.args.at text, length-drop line.next text), has.within)

pub returns-in-Some-clause-pair : goal.returns-in-Some-clause-pair
returns-in-Some-clause-pair c =
    let has = c.in-Some.ensures.written in
    stands_says c.args.text.now c.args.at c.in-Some.line.next c.in-Some.line.entry has.some has.written
