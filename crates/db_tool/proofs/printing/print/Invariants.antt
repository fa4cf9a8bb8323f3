use Rattle.std.proofs.Common.{◌≡◌, ◌≤◌, ◌+◌, ◌-◌, Ok, length, take}
use Rattle.base_bytes.specs.declared.limits.TheConstants.{PIECE_SIZE}
use Rattle.base_devices.specs.declared.disk.Failed.{Failed}
use Rattle.db_tool.specs.Printing.{Prints, holding}
use Rattle.db_tool.proofs.printing.print.Given as goal

abbrev pub invariant-loop-at : goal.invariant-loop-at
invariant-loop-at g l = record {
  within : l.at ≤ length l.bytes;
  prints : Prints {T = Unit {0}} {E = Failed} (take l.at l.bytes) (holding l.initial.output (g.H.Disk.state l.initial.host) (g.H.Host.streams l.initial.host)) (holding l.output (g.H.Disk.state l.host) (g.H.Host.streams l.host)) (Ok (tt {0}));
  gathered : length l.initial.output + length l.bytes ≤ PIECE_SIZE → (l.host ≡ l.initial.host) × (length l.output ≡ length l.initial.output + l.at);
  rest : g.H.Host.host_rest l.initial.host l.host;
}

abbrev pub decreases-loop-at : goal.decreases-loop-at
decreases-loop-at g l = length l.initial.bytes - l.at
