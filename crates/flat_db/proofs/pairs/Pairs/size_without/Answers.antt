use Rattle.std.proofs.Common.{arith}
use Rattle.flat_db.specs.Kept.{map_among}
use Rattle.flat_db.proofs.PairLemmas.{own_line}
use Rattle.flat_db.proofs.Sizes.{size_without_own, line_in_text}
use Rattle.flat_db.proofs.pairs.Pairs.size_without.Goals as goal

pub overflow_sub-result : goal.overflow_sub-result
overflow_sub-result c =
    omega (arith, c.line_size.ensures, c.requires.kept.counted, line_in_text c.args.bytes.now c.args.self.now.entries.items c.args.place c.index.result.now _ c.requires.there c.index.ensures)

pub returns : goal.returns
returns c key has =
    let line = own_line c.args.bytes.now key c.args.self.now.entries.items c.args.place c.index.result.now _ c.requires.there c.index.ensures has in
    omega (arith, c.line_size.ensures, line, c.requires.kept.counted, size_without_own key (map_among c.args.bytes.now c.args.self.now) c.args.place has)
