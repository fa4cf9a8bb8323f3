use Rattle.std.proofs.Common.{◌≡◌, List, sym, ◌∙◌, ap, subst, rules}
use Rattle.std.proofs.lemmas.Fn.{dedup_same, always_returns_same}
use Rattle.std.proofs.lemmas.List.Filters.{All-dedup}
use Rattle.std.proofs.lemmas.List.Sorted.{ranks_by, All-permutation}
use Rattle.std.specs.Cmp.Lexicographic.{nat_list_cmp_total}
use Rattle.std.specs.List.{All, dedup}
use Rattle.std.specs.List.Sorted.{IsStableBy}
use Rattle.flat_db.specs.Entries.{part_of, pairs_of, EndsBy}
use Rattle.flat_db.specs.declared.pairs.Entry.{Entry}
use Rattle.base_bytes.specs.OrderedMap.{IsOrderedMap}
use Rattle.flat_db.proofs.Canonical.{put_all_ordered}
use Rattle.flat_db.proofs.LaterWins.{lt, same, later_wins}
use Rattle.flat_db.proofs.reading.in_order.Goals as goal

pub returns-clause-pairs : goal.returns-clause-pairs
returns-clause-pairs c =
    let bytes = c.args.bytes.now in
    let kept : c.dedup_by.new.self.items ≡ dedup (same bytes) c.sort_by.new.self.items = dedup_same _ (same bytes) _ (λ x y b f' x' y' k. search rules) _ _ c.dedup_by.ensures.filtered in
    let ranks = ranks_by nat_list_cmp_total (λ (e : Entry). part_of bytes e.key) in
    let rises = c.in_ok-sort_by.ensures.sorted (lt bytes) ranks (always_returns_same _ _ _ (λ a r g h. search rules)) in
    let stable = c.sort_by.ensures.stable (lt bytes) ranks (always_returns_same _ _ _ (λ a r g h. search rules)) in
    ap (pairs_of bytes) kept
    ∙ later_wins bytes c.args.entries.now.items c.sort_by.new.self.items rises (subst (λ (l : List Entry). IsStableBy (lt bytes) l c.sort_by.new.self.items) c.reverse.ensures.items stable)

pub returns-clause-ends : goal.returns-clause-ends
returns-clause-ends c end all =
    let bytes = c.args.bytes.now in
    let kept : c.dedup_by.new.self.items ≡ dedup (same bytes) c.sort_by.new.self.items = dedup_same _ (same bytes) _ (λ x y b f' x' y' k. search rules) _ _ c.dedup_by.ensures.filtered in
    subst (λ (l : List Entry). All (EndsBy end) l) (sym kept)
    (All-dedup (same bytes) (EndsBy end) c.sort_by.new.self.items (All-permutation (EndsBy end) _ _ c.sort_by.ensures.permutation (All-permutation (EndsBy end) _ _ c.reverse.ensures.permutation all)))

pub returns-then-keys_rise-clause-pairs : goal.returns-then-keys_rise-clause-pairs
returns-then-keys_rise-clause-pairs c =
    put_all_ordered (pairs_of c.args.bytes.now c.args.entries.now.items) (subst (λ (l : List Entry). IsOrderedMap (pairs_of c.args.bytes.now l)) c.deref.ensures.value (c.keys_rise.ensures c.if-keys_rise.true))
