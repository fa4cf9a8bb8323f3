use Rattle.std.proofs.Common.{◌≡◌, ◌≤◌, ◌-◌, length, drop}
use Rattle.std.specs.Option.{option_map}
use Rattle.base_bytes.specs.OrderedMap.{Map, value_at}
use Rattle.flat_db.specs.FlatText.{SaysPairs, put_all}
use Rattle.flat_db.specs.Entries.{part_of}
use Rattle.flat_db.specs.Finding.{IsSpanWithin}
use Rattle.flat_db.specs.Plain.{IsUnescaped}
use Rattle.flat_db.proofs.finding.last_value.Given as goal

abbrev pub invariant-loop-at : goal.invariant-loop-at
invariant-loop-at l = record {
  within : l.at ≤ length l.text;
  long : length l.text ≡ length l.initial.text;
  rest : drop l.at l.text ≡ drop l.at l.initial.text;
  said : (pairs : Map) × SaysPairs l.initial.text pairs (drop l.at l.initial.text) × (option_map (part_of l.text) l.found ≡ value_at (put_all pairs) l.key);
  ends : IsSpanWithin l.at l.found;
  known : l.known ≤ length l.text;
  unescaped : IsUnescaped l.text l.at l.known;
}

abbrev pub decreases-loop-at : goal.decreases-loop-at
decreases-loop-at l = length l.text - l.at
