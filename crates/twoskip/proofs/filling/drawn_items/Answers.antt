use Rattle.std.proofs.Common.{◌≡◌, ℕ, ◌+◌, ◌++◌, [], List, length, refl, sym, ap, ◌∙◌, arith}
use Rattle.base_bytes.specs.OrderedMap.{Map, pairs_from}
use Rattle.db_fill.specs.Filling.{left_after}
use Rattle.db_fill.proofs.WalkSteps.{from_first}
use Rattle.rand_core.specs.Stream.{Stream, next_u32}
use Rattle.skip_spec.specs.Layout.{Item}
use Rattle.skip_layout.specs.declared.item.LayoutItem.{LayoutItem}
use Rattle.skip_layout.specs.Items.{items_in}
use Rattle.twoskip.specs.Filling.{items_by}
use Rattle.twoskip.proofs.DrawLemmas.{first_item, items_more, left_more}
use Rattle.twoskip.proofs.filling.drawn_items.Goals as goal

-- one word more is drawn
one_more : (count word : ℕ) (first words next : Stream) → words ≡ left_after count first → (word, next) ≡ next_u32 words → next ≡ left_after (count + 1) first
one_more count word first words next is drawn = ap (λ (q : ℕ × Stream). q.1) drawn ∙ ap (λ (s : Stream). (next_u32 s).1) is ∙ sym (left_more count first)

pub loop-init : goal.loop-init
loop-init g c =
    let seen = (g.B.Db.state c.args.from.now).seen in
    let words = g.R.Rng.stream c.args.rng.now in
    record {
      left = pairs_from seen [];
      at = c.walk_from-cursor.ensures;
      few = omega (arith, ap length (from_first seen));
      items = ap (λ (l : List LayoutItem). items_in l ++ items_by (pairs_from seen []) words) (c.reserve.ensures.items ∙ c.new-items.ensures.items) ∙ ap (λ (m : Map). items_by m words) (from_first seen);
      drawn = refl;
    }

pub loop-preserved : goal.loop-preserved
loop-preserved g c =
    let inv = c.loop.invariant in
    let at = c.in-Some.ensures inv.left inv.at in
    let key = c.in-Some.step.pair.key.now in
    let value = c.in-Some.step.pair.value.now in
    let words = g.R.Rng.stream c.loop.rng in
    let next = g.R.Rng.stream c.next_u32.new.self in
    let item : LayoutItem = record { level = c.level_of-level.result; key = c.in-Some.step.pair.key; value = c.in-Some.step.pair.value } in
    let whole = items_by (g.B.Db.state c.args.from.now).seen (g.R.Rng.stream c.args.rng.now) in
    let first = first_item inv.left key value at.0 words next c.next_u32.result c.level_of-level.result at.1 c.next_u32.ensures c.level_of-level.ensures in
    record {
      left = at.0;
      at = at.2;
      few = omega (arith, inv.few, ap length at.1);
      items = ap (λ (l : List LayoutItem). items_in l ++ items_by at.0 next) c.in-Ok-push.ensures.items
          ∙ items_more c.loop.items.items item whole (items_by at.0 next) (ap (λ (l : List Item). items_in c.loop.items.items ++ l) (sym first) ∙ inv.items);
      drawn = one_more c.loop.counter c.next_u32.result (g.R.Rng.stream c.args.rng.now) words next inv.drawn c.next_u32.ensures;
    }

pub returns-in_default-push-clause-drawn : goal.returns-in_default-push-clause-drawn
returns-in_default-push-clause-drawn g c =
    let inv = c.loop.invariant in
    let at = c.in-Some.ensures inv.left inv.at in
    record {
      count = c.loop.counter + 1;
      within = omega (arith, inv.few, ap length at.1);
      drawn = one_more c.loop.counter c.next_u32.result (g.R.Rng.stream c.args.rng.now) (g.R.Rng.stream c.loop.rng) (g.R.Rng.stream c.next_u32.new.self) inv.drawn c.next_u32.ensures;
    }
