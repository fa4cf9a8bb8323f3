use Rattle.std.proofs.Common.{ap, arith}
use Rattle.std.proofs.lemmas.List.{drop_all}
use Rattle.skip_spec.specs.Layout.{records_size}
use Rattle.skip_layout.specs.Items.{items_in}
use Rattle.skip_layout.proofs.LayoutSteps.{item_fits, records_more, some_size}
use Rattle.skip_layout.proofs.item.layout_size.Goals as goal

pub size_of-requires : goal.size_of-requires
size_of-requires c = item_fits c.args.items.now c.loop-item.item-index c.requires c.loop-item-test.true

pub loop-item-preserved : goal.loop-item-preserved
loop-item-preserved c = record {
  small = omega (arith, c.saturating_add-size.ensures);
  whole = omega (arith, c.loop-item.invariant.whole, c.saturating_add-size.ensures, c.size_of.ensures, records_more c.args.items.now c.loop-item.item-index c.loop-item-test.true);
}

pub returns : goal.returns
returns c =
    let none = ap (λ l. records_size (items_in l)) (drop_all c.loop-item.item-index c.args.items.now (omega arith)) in
    omega (arith, c.loop-item.invariant.small, c.loop-item.invariant.whole, none, some_size c.args.items.now (grind (arith, c.is_empty.ensures, c.if-is_empty.false)))
