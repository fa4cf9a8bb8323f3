use Rattle.std.proofs.Common.{◌≡◌, ℕ, ◌∷◌, ◌++◌, List, length, sym, ap, ◌∙◌, subst, arith}
use Rattle.skip_image.specs.Image.{CanStep}
use Rattle.skip_layout.specs.declared.item.LayoutItem.{LayoutItem}
use Rattle.skip_layout.specs.Items.{item_of, items_in}
use Rattle.skip_seek.specs.Searches.{live_of}
use Rattle.skip_spec.specs.Chain.{Entry}
use Rattle.skip_spec.specs.Layout.{Item, items_of}
use Rattle.skip_spec.specs.Successor.{successor_under}
use Rattle.twoskip.specs.Repacking.{live_items_of}
use Rattle.twoskip.proofs.DrawLemmas.{items_more}
use Rattle.twoskip.proofs.RepackingLemmas.{first_from, first_step, here}
use Rattle.twoskip.proofs.repacking.live_items_counted.Goals as goal

pub successor-at-requires : goal.successor-at-requires
successor-at-requires g c = record { there = subst (λ (n : ℕ). CanStep c.args.image.now.bytes n 64) (sym c.length.ensures.size) (first_step c.args.image.now.bytes c.requires.live) }

pub loop-init : goal.loop-init
loop-init g c =
    let b = c.args.image.now.bytes in
    record {
      es = live_of b;
      from = first_from b c.requires.live c.successor-at.result (c.successor-at.ensures.value ∙ ap (λ (n : ℕ). successor_under b n 64) c.length.ensures.size);
      few = omega (arith, c.requires.counted);
      items = ap (λ (l : List LayoutItem). items_in l ++ live_items_of b) (c.reserve.ensures.items ∙ c.new-items.ensures.items);
    }

pub level-level-requires : goal.level-level-requires
level-level-requires g c =
    let inv = c.loop.invariant in
    record { there = (here c.args.image.now.bytes c.requires.live c.loop.at inv.es inv.from (omega (arith, inv.few, c.loop-test.true))).there }

pub key-key-requires : goal.key-key-requires
key-key-requires g c =
    let inv = c.loop.invariant in
    record { there = (here c.args.image.now.bytes c.requires.live c.loop.at inv.es inv.from (omega (arith, inv.few, c.loop-test.true))).there }

pub value-value-requires : goal.value-value-requires
value-value-requires g c =
    let inv = c.loop.invariant in
    record { there = (here c.args.image.now.bytes c.requires.live c.loop.at inv.es inv.from (omega (arith, inv.few, c.loop-test.true))).there }

pub successor-at-requires-in-loop : goal.successor-at-requires-in-loop
successor-at-requires-in-loop g c =
    let b = c.args.image.now.bytes in
    let inv = c.loop.invariant in
    let h = here b c.requires.live c.loop.at inv.es inv.from (omega (arith, inv.few, c.loop-test.true)) in
    record { there = subst (λ (n : ℕ). CanStep b n c.loop.at) (sym c.length-in-loop.ensures.size) h.step }

pub loop-preserved : goal.loop-preserved
loop-preserved g c =
    let b = c.args.image.now.bytes in
    let inv = c.loop.invariant in
    let h = here b c.requires.live c.loop.at inv.es inv.from (omega (arith, inv.few, c.loop-test.true)) in
    let item : LayoutItem = record { level = c.level-level.result; key = c.key-key.result; value = c.value-value.result } in
    let level = c.level-level.ensures ∙ h.level in
    let key = c.key-key.ensures ∙ h.key in
    let value = c.value-value.ensures ∙ h.value in
    let one : item_of item ≡ record { level = h.e.level; key = h.e.key; value = h.e.value } = (λ i. record { level = level i; key = key i; value = value i }) in
    let before = items_in c.loop.items.items in
    record {
      es = h.back;
      from = h.next c.successor-at-in-loop.result (c.successor-at-in-loop.ensures.value ∙ ap (λ (n : ℕ). successor_under b n c.loop.at) c.length-in-loop.ensures.size);
      few = omega (arith, inv.few, ap length h.parts);
      items = ap (λ (l : List LayoutItem). items_in l ++ items_of h.back) c.in-Ok-push.ensures.items
          ∙ items_more c.loop.items.items item (live_items_of b) (items_of h.back)
          (ap (λ (x : Item). before ++ x ∷ items_of h.back) one ∙ ap (λ (es : List Entry). before ++ items_of es) (sym h.parts) ∙ inv.items);
    }
