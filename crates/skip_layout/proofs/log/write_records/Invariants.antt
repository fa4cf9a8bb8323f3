use Rattle.std.proofs.Common.{◌≡◌, ◌+◌, ◌≤◌, length, drop}
use Rattle.skip_spec.specs.Appending.{pointers_to}
use Rattle.skip_spec.specs.Layout.{laid_out, put_records, records_size}
use Rattle.skip_layout.specs.Items.{items_in}
use Rattle.skip_layout.proofs.log.write_records.Given as goal

abbrev pub invariant-loop-left : goal.invariant-loop-left
invariant-loop-left l = record {
  within : l.left ≤ length l.items;
  long : length l.records ≡ length l.initial.records;
  place : l.at + records_size (items_in (drop l.left l.items)) ≡ length l.records;
  spelled : drop l.at l.records ≡ put_records (laid_out (336 + l.at) (items_in (drop l.left l.items)));
  leads : l.pointers ≡ pointers_to 31 (laid_out (336 + l.at) (items_in (drop l.left l.items)));
}

abbrev pub decreases-loop-left : goal.decreases-loop-left
decreases-loop-left l = l.left
