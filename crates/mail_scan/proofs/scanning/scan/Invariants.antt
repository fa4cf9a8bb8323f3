use Rattle.std.proofs.Common.{◌≡◌, ◌-◌, ◌≤◌, take, length}
use Rattle.base_devices.specs.SpoolCalls.{MessageFile, HasFile}
use Rattle.mail_scan.specs.Facts.{KnowsFacts}
use Rattle.mail_scan.proofs.scanning.scan.Given as goal

abbrev pub invariant-loop-piece : goal.invariant-loop-piece
invariant-loop-piece g l = record {
  within : l.facts.size ≤ 4294967296;
  knows : (file : MessageFile) → HasFile (g.S.Spool.state l.initial.spool).folder l.name file → (l.facts.size ≤ length file.bytes) × KnowsFacts (take l.facts.size file.bytes) l.facts;
  folder : (g.S.Spool.state l.spool).folder ≡ (g.S.Spool.state l.initial.spool).folder;
  faults : (g.S.Spool.state l.spool).faults ≡ (g.S.Spool.state l.initial.spool).faults;
  rest : g.S.Spool.spool_rest l.initial.spool l.spool;
}

abbrev pub decreases-loop-piece : goal.decreases-loop-piece
decreases-loop-piece g l = 4294967296 - l.facts.size
