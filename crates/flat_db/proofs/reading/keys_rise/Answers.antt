use Rattle.std.proofs.Common.{◌≡◌, ◌<◌, ℕ, suc, List, [], ◌∷◌, Bool, true, length, get_or, sym, subst, arith, rules}
use Rattle.std.proofs.Math.Numerals.{add-one}
use Rattle.std.proofs.lemmas.Fn.{always_returns_same}
use Rattle.std.specs.List.{IsAllAdjacentAnswer}
use Rattle.std.specs.Ordering.{is_lt}
use Rattle.base_bytes.specs.OrderedMap.{IsOrderedMap, IsBelow, key_order}
use Rattle.flat_db.specs.Entries.{part_of, pairs_of}
use Rattle.flat_db.specs.declared.pairs.Entry.{Entry}
use Rattle.flat_db.proofs.PlaceLemmas.{is_below}
use Rattle.flat_db.proofs.reading.keys_rise.Goals as goal

-- each key is below the next one
Adjacent : List ℕ → List Entry → Type 0
Adjacent bytes entries = (k : ℕ) (d : Entry) → suc k < length entries → IsBelow (part_of bytes (get_or entries k d).key) (part_of bytes (get_or entries (suc k) d).key)

rising : (bytes : List ℕ) (entries : List Entry) → Adjacent bytes entries → IsOrderedMap (pairs_of bytes entries)
unfolding Adjacent
rising bytes [] adjacent = tt
rising bytes (x ∷ []) adjacent = (tt, tt)
rising bytes (x ∷ y ∷ entries) adjacent = (adjacent 0 x (omega arith), rising bytes (y ∷ entries) (λ k d below. adjacent (suc k) d (omega (arith, below))))

pub returns : goal.returns
unfolding Adjacent
returns c is =
    let bytes = c.args.bytes.now in
    let entries = c.args.entries.now in
    let e : Entry → Entry → Bool = λ a b. is_lt (key_order (part_of bytes a.key) (part_of bytes b.key)) in
    let answer = subst (λ (r : Bool). IsAllAdjacentAnswer (λ x y b. b ≡ e x y) entries r) is (c.is_sorted_by.ensures.cases e (always_returns_same _ _ _ (λ a r g h. search rules))) in
    rising bytes entries (λ k d below. is_below _ (subst (λ (n : ℕ). is_lt (key_order (part_of bytes (get_or entries k d).key) (part_of bytes (get_or entries n d).key)) ≡ true) (add-one k) (sym (answer k d (omega (arith, below))))))
