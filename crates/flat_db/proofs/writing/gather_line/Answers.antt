use Rattle.std.proofs.Common.{◌≡◌, ℕ, ◌+◌, ◌-◌, List, ap, length, take, drop, arith}
use Rattle.flat_db.specs.Entries.{part_of}
use Rattle.flat_db.proofs.Sizes.{line_length}
use Rattle.flat_db.proofs.writing.gather_line.Goals as goal

pub add-requires-clause-some : goal.add-requires-clause-some
add-requires-clause-some c =
    let start = c.args.entry.key.start in
    let size = c.in-Some.size in
    let rest = drop start c.args.bytes.now in
    let whole : start + size - start ≡ size = omega arith in
    let same = ap (λ (n : ℕ). length (take n rest)) whole in
    omega (arith, same, ap length c.in-Some.ensures.line, line_length (part_of c.args.bytes.now c.args.entry.key) (part_of c.args.bytes.now c.args.entry.value))
