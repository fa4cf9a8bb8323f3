use Rattle.std.proofs.Common.{rules}
use Rattle.std.proofs.lemmas.Fn.{always_returns_same}
use Rattle.std.proofs.lemmas.List.Sorted.{ranks_by}
use Rattle.std.specs.Cmp.Lexicographic.{nat_list_cmp_total}
use Rattle.std.specs.Ordering.{is_lt}
use Rattle.base_bytes.specs.OrderedMap.{key_order}
use Rattle.mail_rebuild.proofs.taking.Made.sort.Goals as goal

pub returns-clause-sorted : goal.returns-clause-sorted
returns-clause-sorted c =
    c.sort_unstable_by.ensures.sorted (λ x y. is_lt (key_order x y)) (ranks_by nat_list_cmp_total (λ x. x)) (always_returns_same _ _ _ (λ a r g h. search rules))
