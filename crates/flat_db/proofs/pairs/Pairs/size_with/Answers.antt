use Rattle.std.proofs.Common.{refl, arith}
use Rattle.flat_db.specs.Kept.{map_among}
use Rattle.flat_db.proofs.PairLemmas.{own_line}
use Rattle.flat_db.proofs.Sizes.{size_without_own, size_over_own, size_in_between, line_is}
use Rattle.flat_db.proofs.pairs.Pairs.size_with.Goals as goal

pub overflow_sub-result : goal.overflow_sub-result
overflow_sub-result c =
    let m = map_among c.args.bytes.now c.args.self.now in
    let line = own_line c.args.bytes.now c.args.key.now c.args.self.now.entries.items c.in-Ok.place c.index.result.now _ c.in-Ok.ensures.there c.index.ensures c.in-Ok.ensures.own in
    omega (arith, c.line_size.ensures, line, c.requires.kept.counted, size_without_own c.args.key.now m c.in-Ok.place c.in-Ok.ensures.own)

pub returns-in-Ok : goal.returns-in-Ok
returns-in-Ok c =
    let m = map_among c.args.bytes.now c.args.self.now in
    let line = own_line c.args.bytes.now c.args.key.now c.args.self.now.entries.items c.in-Ok.place c.index.result.now _ c.in-Ok.ensures.there c.index.ensures c.in-Ok.ensures.own in
    omega (
      arith,
      c.line_size.ensures,
      line,
      c.requires.kept.counted,
      size_over_own c.args.key.now m c.in-Ok.place c.args.value.now c.in-Ok.ensures.own,
      size_without_own c.args.key.now m c.in-Ok.place c.in-Ok.ensures.own,
      line_is c.args.key.now c.args.value.now c.args.key.now c.args.value.now c.escaped_size.result c.escaped_size-2.result refl refl c.escaped_size.ensures.size c.escaped_size-2.ensures.size,
    )

pub returns-in-Err : goal.returns-in-Err
returns-in-Err c =
    omega (
      arith,
      c.requires.kept.counted,
      size_in_between c.args.key.now (map_among c.args.bytes.now c.args.self.now) c.in-Err.field-0 c.args.value.now c.in-Err.ensures.between,
      line_is c.args.key.now c.args.value.now c.args.key.now c.args.value.now c.escaped_size.result c.escaped_size-2.result refl refl c.escaped_size.ensures.size c.escaped_size-2.ensures.size,
    )
