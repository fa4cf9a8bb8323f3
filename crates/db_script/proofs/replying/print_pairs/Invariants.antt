use Rattle.std.proofs.Common.{◌≤◌, ◌+◌, Ok, length}
use Rattle.base_bytes.specs.OrderedMap.{Map}
use Rattle.base_devices.specs.declared.disk.Failed.{Failed}
use Rattle.db_tool.specs.Printing.{Prints, holding}
use Rattle.db_script.specs.Replies.{pair_replies}
use Rattle.db_tool.proofs.PrefixLemmas.{Walked}
use Rattle.db_script.proofs.replying.print_pairs.Given as goal

abbrev pub invariant-loop : goal.invariant-loop
invariant-loop g l = record {
  done : Map;
  left : Map;
  at : g.B.Db.walks l.db l.cursor.place left;
  walked : Walked l.prefix (g.B.Db.state l.db).seen done left;
  few : length left + l.counter ≤ length (g.B.Db.state l.db).seen;
  prints : Prints {T = Unit {0}} {E = Failed} (pair_replies done) (holding l.initial.output (g.H.Disk.state l.initial.host) (g.H.Host.streams l.initial.host)) (holding l.output (g.H.Disk.state l.host) (g.H.Host.streams l.host)) (Ok (tt {0}));
  rest : g.H.Host.host_rest l.initial.host l.host;
}
