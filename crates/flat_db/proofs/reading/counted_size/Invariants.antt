use Rattle.std.proofs.Common.{◌≡◌, length, take}
use Rattle.flat_db.specs.FlatText.{canonical_text}
use Rattle.flat_db.specs.Entries.{pairs_of}
use Rattle.flat_db.proofs.reading.counted_size.Given as goal

abbrev pub invariant-loop-entry : goal.invariant-loop-entry
invariant-loop-entry l = l.size ≡ length (canonical_text (pairs_of l.bytes (take l.entry-index l.entries)))
