use Rattle.std.proofs.Common.{◌+◌, ℕ, length, ap, arith, length-append}
use Rattle.flat_db.proofs.Sizes.{text_more, text_part}
use Rattle.flat_db.proofs.reading.counted_size.Goals as goal

pub overflow_add-size : goal.overflow_add-size
overflow_add-size c =
    let more = text_more c.args.bytes.now c.args.entries.now c.loop-entry.entry-index (record { key = record { start = 0; size = 0 }; value = record { start = 0; size = 0 } }) c.loop-entry-test.true in
    omega (arith, c.requires, c.line_size-size.ensures, c.loop-entry.invariant, ap length more, length-append {A = ℕ}, text_part c.args.bytes.now c.args.entries.now (c.loop-entry.entry-index + 1))

pub loop-entry-preserved : goal.loop-entry-preserved
loop-entry-preserved c =
    let more = text_more c.args.bytes.now c.args.entries.now c.loop-entry.entry-index (record { key = record { start = 0; size = 0 }; value = record { start = 0; size = 0 } }) c.loop-entry-test.true in
    omega (arith, c.line_size-size.ensures, c.loop-entry.invariant, ap length more, length-append {A = ℕ})
