use Rattle.std.proofs.Common.{◌≡◌, ◌+◌, ◌++◌, List, length}
use Rattle.skip_layout.specs.Items.{items_in}
use Rattle.skip_seek.specs.Walks.{IsFrom}
use Rattle.skip_spec.specs.Chain.{Entry}
use Rattle.skip_spec.specs.Layout.{items_of}
use Rattle.twoskip.specs.Repacking.{live_items_of}
use Rattle.twoskip.proofs.repacking.live_items_counted.Given as goal

abbrev pub invariant-loop : goal.invariant-loop
invariant-loop g l = record {
  es : List Entry;
  from : IsFrom l.image.bytes l.at es;
  few : length es + l.counter ≡ l.count;
  items : items_in l.items.items ++ items_of es ≡ live_items_of l.image.bytes;
}
