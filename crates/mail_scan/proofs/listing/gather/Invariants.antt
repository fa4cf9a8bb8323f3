use Rattle.std.proofs.Common.{◌≡◌, ◌-◌, ◌≤◌, Some}
use Rattle.base_devices.specs.SpoolCalls.{Folder, shown_files}
use Rattle.mail_scan.proofs.ListingLemmas.{HasGiven}
use Rattle.mail_scan.proofs.listing.gather.Given as goal

abbrev pub invariant-loop-name : goal.invariant-loop-name
invariant-loop-name g l = record {
  few : l.given ≤ 1048576;
  told : (folder : Folder) → (g.S.Spool.state l.initial.spool).folder ≡ Some folder → HasGiven folder l.given l.listing (g.S.Spool.state l.spool);
  faults : (g.S.Spool.state l.spool).faults ≡ (g.S.Spool.state l.initial.spool).faults;
  files : shown_files (g.S.Spool.state l.spool) ≡ shown_files (g.S.Spool.state l.initial.spool);
  rest : g.S.Spool.spool_rest l.initial.spool l.spool;
}

abbrev pub decreases-loop-name : goal.decreases-loop-name
decreases-loop-name g l = 1048577 - l.given
