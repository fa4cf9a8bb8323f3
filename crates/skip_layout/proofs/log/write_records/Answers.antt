use Rattle.std.proofs.Common.{◌≡◌, ℕ, ◌+◌, ◌-◌, ◌<◌, ◌++◌, List, length, get_or, drop, ap, sym, ◌∙◌, arith}
use Rattle.skip_form.specs.Spelling.{record_bytes}
use Rattle.skip_spec.specs.Appending.{pointers_to, put_record}
use Rattle.skip_spec.specs.Chain.{Entry}
use Rattle.skip_spec.specs.Layout.{laid_out, put_records}
use Rattle.skip_layout.specs.declared.item.LayoutItem.{LayoutItem}
use Rattle.skip_layout.specs.Items.{entry_at, item_of, items_in}
use Rattle.skip_layout.specs.Sizes.{item_size}
use Rattle.skip_layout.proofs.LayoutSteps.{nothing, item_fits, before_left, next_fits, laid_then, none_left, laid_all}
use Rattle.skip_layout.proofs.log.write_records.Goals as goal

-- the records that stand, once one more is spelled before them
spelled_more : (items : List LayoutItem) (k left at was : ℕ) (old new : List ℕ) → k < length items → left ≡ k + 1 → at + item_size (item_of (get_or items k nothing)) ≡ was
    → drop was old ≡ put_records (laid_out (336 + was) (items_in (drop left items)))
    → drop at new ≡ record_bytes (put_record (entry_at (336 + at) (item_of (get_or items k nothing))) (laid_out (336 + was) (items_in (drop left items)))) ++ drop (at + item_size (item_of (get_or items k nothing))) old
    → drop at new ≡ put_records (laid_out (336 + at) (items_in (drop k items)))
spelled_more items k left at was old new below is_left is_was behind own =
    let item = item_of (get_or items k nothing) in
    let rest = laid_out (336 + was) (items_in (drop left items)) in
    own
    ∙ ap (λ (n : ℕ). record_bytes (put_record (entry_at (336 + at) item) rest) ++ drop n old) is_was
    ∙ ap (λ (l : List ℕ). record_bytes (put_record (entry_at (336 + at) item) rest) ++ l) behind
    ∙ sym (ap put_records (laid_then items k left at was below is_left is_was))

pub size_of-requires : goal.size_of-requires
size_of-requires c = item_fits c.args.items.now (c.loop-left.left - 1) c.requires.fits (omega (arith, c.loop-left.invariant.within, c.loop-left-test.true))

pub write_before-requires-clause-fits : goal.write_before-requires-clause-fits
write_before-requires-clause-fits c = item_fits c.args.items.now (c.loop-left.left - 1) c.requires.fits (omega (arith, c.loop-left.invariant.within, c.loop-left-test.true))

pub overflow_sub-at : goal.overflow_sub-at
overflow_sub-at c =
    let inv = c.loop-left.invariant in
    omega (arith, next_fits c.args.items.now c.loop-left.left c.loop-left.at (length c.loop-left.records) c.loop-left-test.true inv.within inv.place (inv.long ∙ c.requires.size), c.size_of.ensures)

pub write_before-requires-clause-room : goal.write_before-requires-clause-room
write_before-requires-clause-room c =
    let inv = c.loop-left.invariant in
    omega (arith, next_fits c.args.items.now c.loop-left.left c.loop-left.at (length c.loop-left.records) c.loop-left-test.true inv.within inv.place (inv.long ∙ c.requires.size), c.size_of.ensures, inv.place)

pub loop-left-preserved : goal.loop-left-preserved
loop-left-preserved c =
    let inv = c.loop-left.invariant in
    let items = c.args.items.now in
    let left = c.loop-left.left in
    let rest : List Entry = laid_out (336 + c.loop-left.at) (items_in (drop left items)) in
    let at : ℕ = c.loop-left.at - c.size_of.result in
    let next = next_fits items left c.loop-left.at (length c.loop-left.records) c.loop-left-test.true inv.within inv.place (inv.long ∙ c.requires.size) in
    let below : left - 1 < length items = omega (arith, inv.within, c.loop-left-test.true) in
    let is_left : left ≡ left - 1 + 1 = omega (arith, c.loop-left-test.true) in
    let is_was : at + item_size (item_of (get_or items (left - 1) nothing)) ≡ c.loop-left.at = omega (arith, next, c.size_of.ensures) in
    record {
      within = omega (arith, inv.within);
      long = c.write_before.ensures.length ∙ inv.long;
      place = omega (arith, before_left items left c.loop-left-test.true inv.within, is_was, inv.place, c.write_before.ensures.length);
      spelled = spelled_more items (left - 1) left at c.loop-left.at c.loop-left.records c.write_before.new.records below is_left is_was inv.spelled (c.write_before.ensures.spelled rest inv.leads);
      leads = c.write_before.ensures.leads rest inv.leads ∙ sym (ap (pointers_to 31) (laid_then items (left - 1) left at c.loop-left.at below is_left is_was));
    }

pub returns-clause-leads : goal.returns-clause-leads
returns-clause-leads c =
    let inv = c.loop-left.invariant in
    inv.leads ∙ ap (pointers_to 31) (laid_all c.args.items.now c.loop-left.left c.loop-left.at c.loop-left-test.false (none_left c.args.items.now c.loop-left.left c.loop-left.at (length c.loop-left.records) c.loop-left-test.false inv.place (inv.long ∙ c.requires.size)))
