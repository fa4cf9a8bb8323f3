use Rattle.std.proofs.Common.{◌≡◌, ◌≤◌, ◌-◌, ◌++◌, true, length, drop}
use Rattle.std.specs.List.{All}
use Rattle.flat_db.specs.FlatText.{SaysPairs, canonical_text}
use Rattle.flat_db.specs.Entries.{EndsBy, pairs_of}
use Rattle.flat_db.specs.Plain.{IsPlain}
use Rattle.flat_db.proofs.reading.read_lines.Given as goal

abbrev pub invariant-loop-at : goal.invariant-loop-at
invariant-loop-at l = record {
  within : l.at ≤ length l.text;
  long : length l.text ≡ length l.initial.text;
  rest : drop l.at l.text ≡ drop l.at l.initial.text;
  pairs : SaysPairs l.initial.text (pairs_of l.text l.entries.items) (drop l.at l.initial.text);
  ends : All (EndsBy l.at) l.entries.items;
  known : l.known ≤ length l.text;
  plain : IsPlain l.text l.at l.known;
  written : l.is_plain ≡ true → l.text ≡ canonical_text (pairs_of l.text l.entries.items) ++ drop l.at l.text;
}

abbrev pub decreases-loop-at : goal.decreases-loop-at
decreases-loop-at l = length l.text - l.at
