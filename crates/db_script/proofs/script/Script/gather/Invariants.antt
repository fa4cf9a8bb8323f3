use Rattle.std.proofs.Common.{◌≡◌, ◌≤◌, ◌+◌, ◌-◌, true, None, length, take}
use Rattle.std.specs.Prelude.{if◌then◌else◌}
use Rattle.base_bytes.specs.declared.limits.TheConstants.{SCRIPT_LIMIT}
use Rattle.db_script.specs.Fields.{behind}
use Rattle.db_script.specs.Reading.{script_state, is_gathered, KeepsScript}
use Rattle.db_script.proofs.script.Script.gather.Given as goal

abbrev pub invariant-loop-seen : goal.invariant-loop-seen
invariant-loop-seen g l = record {
  within : l.seen ≤ length (script_state l.self).held;
  free : behind 10 (take l.seen (script_state l.self).held) ≡ None;
  script : KeepsScript (script_state l.initial.self) (script_state l.self) (g.I.Source.state l.initial.input) (g.I.Source.state l.input);
  faults : (g.I.Source.state l.input).faults ≡ (g.I.Source.state l.initial.input).faults;
  still : is_gathered (script_state l.initial.self) ≡ true → (script_state l.self ≡ script_state l.initial.self) × (l.input ≡ l.initial.input);
}

abbrev pub decreases-loop-seen : goal.decreases-loop-seen
decreases-loop-seen g l = SCRIPT_LIMIT + 1 - (l.self.size + length (script_state l.self).held) + (if l.self.is_over then 0 else 1)
