use Rattle.std.proofs.Common.{◌≡◌, ℕ, List, Some, false}
use Rattle.base_notes.specs.declared.note.Note.TheVariants.{Done}
use Rattle.db_core.specs.Sessions.{over}
use Rattle.db_script.specs.Batch.{GoesWell}
use Rattle.db_script.specs.Course.{Leads, script_over, to_read}
use Rattle.db_script.specs.Lines.{lines_of}
use Rattle.db_script.specs.Reading.{script_state}
use Rattle.db_script.specs.Scripts.{ending_of, nothing_done}
use Rattle.db_script.specs.Steps.{gathered}
use Rattle.db_tool.specs.Printing.{holding}
use Rattle.db_script.proofs.batching.do_lines.Given as goal

abbrev pub invariant-loop : goal.invariant-loop
invariant-loop g l = record {
  lines : (script_state l.script).lines ≡ l.counter;
  well : GoesWell g.B.Db.kind (over (g.H.Disk.state l.initial.host) (g.B.Db.state l.initial.db)) (over (g.H.Disk.state l.host) (g.B.Db.state l.db)) Done;
  faults : (g.I.Source.state l.input).faults ≡ (g.I.Source.state l.initial.input).faults;
  warned : (g.H.Host.streams l.host).warned ≡ (g.H.Host.streams l.initial.host).warned;
  sound : (g.B.Db.state l.db).is_broken ≡ false;
  tied : g.B.Db.tie l.db l.host;
  course : (left : List ℕ) → (g.I.Source.state l.initial.input).left ≡ Some left
      → Leads g.B.Db.kind (ending_of g.B.Db.kind (nothing_done (g.B.Db.state l.initial.db) (g.R.Rng.stream l.initial.rng)) (lines_of left)) (g.R.Rng.stream l.initial.rng)
      (gathered (g.B.Db.state l.initial.db) (holding l.initial.output (g.H.Disk.state l.initial.host) (g.H.Host.streams l.initial.host)))
      (script_over (to_read (script_state l.script) (g.I.Source.state l.input).left (g.R.Rng.stream l.rng)) (gathered (g.B.Db.state l.db) (holding l.output (g.H.Disk.state l.host) (g.H.Host.streams l.host))));
  rest : g.H.Host.host_rest l.initial.host l.host;
}
