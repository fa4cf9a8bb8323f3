use Rattle.std.proofs.Common.{◌≤◌, ◌-◌, Ok, length, take}
use Rattle.base_devices.specs.declared.disk.Failed.{Failed}
use Rattle.db_tool.specs.Printing.{Prints, holding}
use Rattle.db_script.proofs.printing.print.Given as goal

abbrev pub invariant-loop-at : goal.invariant-loop-at
invariant-loop-at g l = record {
  within : l.at ≤ length l.bytes;
  prints : Prints {T = Unit {0}} {E = Failed} (take l.at l.bytes) (holding l.initial.output (g.H.Disk.state l.initial.host) (g.H.Host.streams l.initial.host)) (holding l.output (g.H.Disk.state l.host) (g.H.Host.streams l.host)) (Ok (tt {0}));
  rest : g.H.Host.host_rest l.initial.host l.host;
}

abbrev pub decreases-loop-at : goal.decreases-loop-at
decreases-loop-at g l = length l.initial.bytes - l.at
