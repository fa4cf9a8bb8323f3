use Rattle.std.proofs.Common.{◌≤◌, rules}
use Rattle.std.proofs.lemmas.Fn.{always_returns_same}
use Rattle.std.proofs.lemmas.List.Sorted.{All-permutation, IsNonDecreasingBy-from_sort, IsPermutation-map, ranks_by}
use Rattle.std.specs.Cmp.Lexicographic.{nat_list_cmp_total}
use Rattle.std.specs.Ordering.{is_lt}
use Rattle.base_bytes.specs.OrderedMap.{key_order}
use Rattle.mail_scan.specs.Names.{name_of}
use Rattle.mail_scan.proofs.ListingLemmas.{names_rise, still_sorted_out}
use Rattle.mail_scan.proofs.listing.Listing.sort.Goals as goal

pub returns-clause-order : goal.returns-clause-order
returns-clause-order c = record {
  by_uid = names_rise _ (All-permutation (λ uid. uid ≤ 4294967295) _ _ c.sort_unstable.ensures.permutation c.self.inside.short) (IsNonDecreasingBy-from_sort (λ n. n) _ c.sort_unstable.ensures.sorted);
  by_bytes = c.sort_unstable_by.ensures.sorted (λ x y. is_lt (key_order x y)) (ranks_by nat_list_cmp_total (λ x. x)) (always_returns_same _ _ _ (λ a r g h. search rules));
}

pub returns-clause-same : goal.returns-clause-same
returns-clause-same c given is =
    let was = rw (← c.self.view_is) at is in
    still_sorted_out given _ _ was (IsPermutation-map name_of _ _ c.sort_unstable.ensures.permutation) c.sort_unstable_by.ensures.permutation
