use Rattle.std.proofs.Common.{◌≡◌, ◌+◌, ◌≤◌, List, [], Some, length}
use Rattle.std.specs.List.{AllByRecursion}
use Rattle.base_devices.specs.SpoolCalls.{MessageFile, shown_files}
use Rattle.mail_rebuild.specs.Merging.{merged, pairs_left, usable_of}
use Rattle.mail_rebuild.specs.OldIndex.{view_of}
use Rattle.mail_rebuild.specs.Taking.{HoldsPairs, NamesFile}
use Rattle.mail_rebuild.proofs.TakingLemmas.{TakenSoFar}
use Rattle.mail_rebuild.proofs.taking.take_pairs.Given as goal

abbrev pub invariant-loop-pair : goal.invariant-loop-pair
invariant-loop-pair g l = record {
  records : l.made.index.totals.num_records + length (pairs_left l.merge) ≤ 4294967295;
  dropped : l.made.index.tally.dropped + length (pairs_left l.merge) ≤ 4294967295;
  taken : (files : List MessageFile) → shown_files (g.S.Spool.state l.initial.spool) ≡ Some files → AllByRecursion (NamesFile files) l.listing.messages → HoldsPairs files [] l.initial.made → TakenSoFar files (merged l.listing.messages (usable_of (view_of l.fn.old))) (pairs_left l.merge) l.made;
  modseq : l.made.index.modseq ≡ l.initial.made.index.modseq;
  time : l.made.index.time ≡ l.initial.made.index.time;
  folder : (g.S.Spool.state l.spool).folder ≡ (g.S.Spool.state l.initial.spool).folder;
  faults : (g.S.Spool.state l.spool).faults ≡ (g.S.Spool.state l.initial.spool).faults;
  rest : g.S.Spool.spool_rest l.initial.spool l.spool;
}

abbrev pub decreases-loop-pair : goal.decreases-loop-pair
decreases-loop-pair g l = length (pairs_left l.merge)
