use Rattle.std.proofs.Common.{◌≡◌, ◌+◌, ◌-◌, ◌^◌, ◌≤◌, min, drop}
use Rattle.skip_spec.specs.Layout.{records_size}
use Rattle.skip_layout.specs.Items.{items_in}
use Rattle.skip_layout.proofs.item.layout_size.Given as goal

abbrev pub invariant-loop-item : goal.invariant-loop-item
invariant-loop-item l = record {
  small : l.size ≤ 2 ^ 64 - 1;
  whole : min (l.size + records_size (items_in (drop l.item-index l.items))) (2 ^ 64 - 1) ≡ min (360 + records_size (items_in l.items)) (2 ^ 64 - 1);
}
