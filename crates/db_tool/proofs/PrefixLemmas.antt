-- Keys with a prefix stand side by side.
use Rattle.std.proofs.Common.{◌≡◌, ◌⊎◌, inl, inr, ⊎_elim, ℕ, ◌<◌, Bool, true, false, cond, List, [], ◌∷◌, ◌++◌, ◌≤◌, length, refl, sym, ◌∙◌, ap, subst, append_assoc, arith}
use Rattle.std.proofs.lemmas.List.{append-nil}
use Rattle.std.proofs.lemmas.List.Elements.{filter-append}
use Rattle.std.proofs.lemmas.List.Filters.{length-filter_both}
use Rattle.std.specs.Prelude.{filter, not, nat_eq, nat_lt, ◌==◌, ◌&&◌}
use Rattle.std.specs.declared.cmp.Ordering.{Ordering}
use Rattle.std.specs.declared.cmp.Ordering.TheVariants.{Less, Equal, Greater}
use Rattle.std.specs.Ordering.{nat_cmp, ordering_then, is_lt}
use Rattle.std.specs.List.{starts_with}
use Rattle.base_bytes.specs.OrderedMap.{Map, IsBelow, IsOrderedMap, key_order, with_prefix, pairs_from}
use Rattle.base_bytes.proofs.OrderedMaps.{below_then}
use Rattle.db_tool.specs.Printing.{pair_text, shown}

-- whether a key begins with a prefix, byte by byte
begins : List ℕ → List ℕ → Bool
begins key [] = true
begins [] (x ∷ prefix) = false
begins (y ∷ key) (x ∷ prefix) = nat_eq x y && begins key prefix

begins_is : (key prefix : List ℕ) → starts_with nat_eq key prefix ≡ begins key prefix
unfolding begins
begins_is [] [] = refl
begins_is (y ∷ key) [] = refl
begins_is [] (x ∷ prefix) = refl
begins_is (y ∷ key) (x ∷ prefix) = ap (λ (b : Bool). nat_eq x y && b) (begins_is key prefix)

-- how two bytes compare
data Compared (x y : ℕ) : Type 0 where
  lower : nat_cmp x y ≡ Less → x < y → Compared x y
  equal : nat_cmp x y ≡ Equal → x ≡ y → Compared x y
  higher : nat_cmp x y ≡ Greater → y < x → Compared x y

compared : (x y : ℕ) → Compared x y
compared x y = by (nat_lt x y) refl (x == y) refl
  where
    by : (b : Bool) → nat_lt x y ≡ b → (e : Bool) → (x == y) ≡ e → Compared x y
    by true less e same = lower (ap (λ (c : Bool). cond c Less (cond (x == y) Equal Greater)) less) (grind (arith, less))
    by false less true same = equal (ap (λ (c : Bool). cond c Less (cond (x == y) Equal Greater)) less ∙ ap (λ (c : Bool). cond c Equal Greater) same) (grind (arith, same))
    by false less false same = higher (ap (λ (c : Bool). cond c Less (cond (x == y) Equal Greater)) less ∙ ap (λ (c : Bool). cond c Equal Greater) same) (grind (arith, less, same))

differs : (x y : ℕ) → x < y → nat_eq x y ≡ false
differs x y less = grind (arith, less)

differs_back : (x y : ℕ) → y < x → nat_eq x y ≡ false
differs_back x y less = grind (arith, less)

-- no key below the prefix begins with it
below_lacks : (key prefix : List ℕ) → IsBelow key prefix → begins key prefix ≡ false
unfolding begins
below_lacks [] [] below = absurd (cc below)
below_lacks (y ∷ key) [] below = absurd (cc below)
below_lacks [] (x ∷ prefix) below = refl
below_lacks (y ∷ key) (x ∷ prefix) below = by (λ later. below_lacks key prefix later) (compared y x)
  where
    by_false : (b : Bool) → (b && false) ≡ false
    by_false true = refl
    by_false false = refl

    by : (IsBelow key prefix → begins key prefix ≡ false) → Compared y x → (nat_eq x y && begins key prefix) ≡ false
    by further (lower is less) = ap (λ (b : Bool). b && begins key prefix) (differs_back x y less)
    by further (equal is same) = ap (λ (b : Bool). nat_eq x y && b) (further (sym (ap (λ (o : Ordering). ordering_then o (key_order key prefix)) is) ∙ below)) ∙ by_false (nat_eq x y)
    by further (higher is more) = absurd (cc (sym (ap (λ (o : Ordering). ordering_then o (key_order key prefix)) is) ∙ below))

-- behind a key that is not below the prefix and lacks it no key begins with it
above_lacks : (key other prefix : List ℕ) → ¬ IsBelow key prefix → begins key prefix ≡ false → IsBelow key other → begins other prefix ≡ false
unfolding begins
above_lacks key other [] not_below lacks below = absurd (cc lacks)
above_lacks [] other (x ∷ prefix) not_below lacks below = absurd (not_below refl)
above_lacks (y ∷ key) [] (x ∷ prefix) not_below lacks below = refl
above_lacks (y ∷ key) (z ∷ other) (x ∷ prefix) not_below lacks below = by (λ n l b. above_lacks key other prefix n l b) (compared y x) (compared y z)
  where
    by_false : (b : Bool) → (b && false) ≡ false
    by_false true = refl
    by_false false = refl

    later_lacks : x ≡ y → begins key prefix ≡ false
    later_lacks same = let here : nat_eq x y ≡ true = grind (arith, same) in sym (ap (λ (b : Bool). b && begins key prefix) here) ∙ lacks

    by : (¬ IsBelow key prefix → begins key prefix ≡ false → IsBelow key other → begins other prefix ≡ false) → Compared y x → Compared y z → (nat_eq x z && begins other prefix) ≡ false
    by further (lower is less) c = absurd (not_below (ap (λ (o : Ordering). ordering_then o (key_order key prefix)) is))
    by further (higher is more) (lower it less) = ap (λ (b : Bool). b && begins other prefix) (differs x z (omega (arith, more, less)))
    by further (higher is more) (equal it same) = ap (λ (b : Bool). b && begins other prefix) (differs x z (omega (arith, more, same)))
    by further (higher is more) (higher it less) = absurd (cc (sym (ap (λ (o : Ordering). ordering_then o (key_order key other)) it) ∙ below))
    by further (equal is same) (lower it less) = ap (λ (b : Bool). b && begins other prefix) (differs x z (omega (arith, same, less)))
    by further (equal is same) (higher it less) = absurd (cc (sym (ap (λ (o : Ordering). ordering_then o (key_order key other)) it) ∙ below))
    by further (equal is same) (equal it also) =
        ap (λ (b : Bool). nat_eq x z && b)
        (further (λ lower. not_below (ap (λ (o : Ordering). ordering_then o (key_order key prefix)) is ∙ lower)) (later_lacks (sym same)) (sym (ap (λ (o : Ordering). ordering_then o (key_order key other)) it) ∙ below))
        ∙ by_false (nat_eq x z)

-- ---- which pairs have it

-- the pair does not have the prefix, or has it
pub lacking : (prefix : List ℕ) (p : List ℕ × List ℕ) (m : Map) → starts_with nat_eq p.0 prefix ≡ false → with_prefix (p ∷ m) prefix ≡ with_prefix m prefix
unfolding with_prefix
lacking prefix p m lacks = ap (λ (b : Bool). cond b (p ∷ filter (λ q. starts_with nat_eq q.0 prefix) m) (filter (λ q. starts_with nat_eq q.0 prefix) m)) lacks

pub having : (prefix : List ℕ) (p : List ℕ × List ℕ) (m : Map) → starts_with nat_eq p.0 prefix ≡ true → with_prefix (p ∷ m) prefix ≡ p ∷ with_prefix m prefix
unfolding with_prefix
having prefix p m has = ap (λ (b : Bool). cond b (p ∷ filter (λ q. starts_with nat_eq q.0 prefix) m) (filter (λ q. starts_with nat_eq q.0 prefix) m)) has

-- each key begins with no byte
begins_none : (key : List ℕ) → starts_with nat_eq key [] ≡ true
begins_none [] = refl
begins_none (x ∷ key) = refl

pub prefix_none : (m : Map) → with_prefix m [] ≡ m
unfolding with_prefix
prefix_none [] = refl
prefix_none (p ∷ m) = having [] p m (begins_none p.0) ∙ ap (λ (l : Map). p ∷ l) (prefix_none m)

none_of : (prefix : List ℕ) → with_prefix [] prefix ≡ []
unfolding with_prefix
none_of prefix = refl

pub prefix_parts : (prefix : List ℕ) (m n : Map) → with_prefix (m ++ n) prefix ≡ with_prefix m prefix ++ with_prefix n prefix
unfolding with_prefix
prefix_parts prefix m n = filter-append (λ q. starts_with nat_eq q.0 prefix) m n

-- ---- a walk over the pairs with a prefix

-- the first key, if there is one, is not below the prefix
pub IsFrom : List ℕ → Map → Type 0
IsFrom prefix [] = Unit {0}
IsFrom prefix (p ∷ m) = ¬ IsBelow p.0 prefix

-- The pairs so far have the prefix, and those that are left rise from it on.
pub record Walked (prefix : List ℕ) (m : Map) (done left : Map) : Type 0 where
  pub all : with_prefix m prefix ≡ done ++ with_prefix left prefix
  pub ordered : IsOrderedMap left
  pub from : IsFrom prefix left

-- whether the first pair is below the prefix
from_by : (p : List ℕ × List ℕ) (m : Map) (prefix : List ℕ) (o : Ordering) → key_order p.0 prefix ≡ o → pairs_from (p ∷ m) prefix ≡ cond (not (is_lt o)) (p ∷ pairs_from m prefix) (pairs_from m prefix)
unfolding pairs_from
from_by p m prefix o is = ap (λ (o : Ordering). cond (not (is_lt o)) (p ∷ pairs_from m prefix) (pairs_from m prefix)) is

from_none : (prefix : List ℕ) → pairs_from [] prefix ≡ []
unfolding pairs_from
from_none prefix = refl

falls_not : (key prefix : List ℕ) → ¬ IsBelow key prefix → (key_order key prefix ≡ Equal) ⊎ (key_order key prefix ≡ Greater)
falls_not key prefix not = by (key_order key prefix) refl
  where
    by : (o : Ordering) → key_order key prefix ≡ o → (key_order key prefix ≡ Equal) ⊎ (key_order key prefix ≡ Greater)
    by Less is = absurd (not is)
    by Equal is = inl is
    by Greater is = inr is

-- behind a pair that is not below it none is
from_behind : (prefix : List ℕ) (p : List ℕ × List ℕ) (m : Map) → IsOrderedMap (p ∷ m) → ¬ IsBelow p.0 prefix → pairs_from m prefix ≡ m
from_behind prefix p [] rises not = from_none prefix
from_behind prefix p (q ∷ m) rises not =
    let still : ¬ IsBelow q.0 prefix = λ below. not (below_then p.0 q.0 prefix rises.0 below) in
    let later = ap (λ (l : Map). q ∷ l) (from_behind prefix q m rises.1 still) in
    ⊎_elim (λ is. from_by q m prefix Equal is ∙ later) (λ is. from_by q m prefix Greater is ∙ later) (falls_not q.0 prefix still)

-- it begins at the first pair that is not below the prefix
pub walked_none : (prefix : List ℕ) (m : Map) → IsOrderedMap m → Walked prefix m [] (pairs_from m prefix)
unfolding IsFrom
walked_none prefix [] ordered = subst (λ (l : Map). Walked prefix [] [] l) (sym (from_none prefix)) (record { all = refl; ordered = tt; from = tt })
walked_none prefix (p ∷ m) ordered = by (walked_none prefix m ordered.1) (key_order p.0 prefix) refl
  where
    here : ¬ IsBelow p.0 prefix → pairs_from (p ∷ m) prefix ≡ p ∷ pairs_from m prefix → Walked prefix (p ∷ m) [] (pairs_from (p ∷ m) prefix)
    here not is = subst (λ (l : Map). Walked prefix (p ∷ m) [] l) (sym (is ∙ ap (λ (l : Map). p ∷ l) (from_behind prefix p m ordered not))) (record { all = refl; ordered = ordered; from = not })

    by : Walked prefix m [] (pairs_from m prefix) → (o : Ordering) → key_order p.0 prefix ≡ o → Walked prefix (p ∷ m) [] (pairs_from (p ∷ m) prefix)
    by later Less is = subst (λ (l : Map). Walked prefix (p ∷ m) [] l) (sym (from_by p m prefix Less is))
        (record { all = lacking prefix p m (begins_is p.0 prefix ∙ below_lacks p.0 prefix is) ∙ later.all; ordered = later.ordered; from = later.from })
    by later Equal is = here (λ below. cc (sym is ∙ below)) (from_by p m prefix Equal is)
    by later Greater is = here (λ below. cc (sym is ∙ below)) (from_by p m prefix Greater is)

-- and goes on behind a pair that has it
pub walked_more : (prefix : List ℕ) (m done : Map) (p : List ℕ × List ℕ) (rest : Map) → starts_with nat_eq p.0 prefix ≡ true → Walked prefix m done (p ∷ rest) → Walked prefix m (done ++ (p ∷ [])) rest
unfolding IsFrom
walked_more prefix m done p rest has walked = record {
  all = walked.all ∙ ap (λ (l : Map). done ++ l) (having prefix p rest has) ∙ sym (append_assoc done (p ∷ []) (with_prefix rest prefix));
  ordered = walked.ordered.1;
  from = by rest walked.ordered;
}
  where
    by : (left : Map) → IsOrderedMap (p ∷ left) → IsFrom prefix left
    by [] rises = tt
    by (q ∷ left) rises = λ below. walked.from (below_then p.0 q.0 prefix rises.0 below)

-- behind a pair that lacks the prefix, and is not below it, no pair has it
lacking_behind : (prefix : List ℕ) (p : List ℕ × List ℕ) (left : Map) → IsOrderedMap (p ∷ left) → ¬ IsBelow p.0 prefix → starts_with nat_eq p.0 prefix ≡ false → with_prefix left prefix ≡ []
unfolding with_prefix
lacking_behind prefix p [] rises not_below lacks = refl
lacking_behind prefix p (q ∷ left) rises not_below lacks =
    let next : starts_with nat_eq q.0 prefix ≡ false = begins_is q.0 prefix ∙ above_lacks p.0 q.0 prefix not_below (sym (begins_is p.0 prefix) ∙ lacks) rises.0 in
    lacking prefix q left next ∙ lacking_behind prefix q left rises.1 (λ below. not_below (below_then p.0 q.0 prefix rises.0 below)) next

-- it ends where no pair is left, and at a pair that lacks the prefix
pub walked_over : (prefix : List ℕ) (m done left : Map) → left ≡ [] → Walked prefix m done left → with_prefix m prefix ≡ done
walked_over prefix m done left none walked = walked.all ∙ ap (λ (l : Map). done ++ l) (ap (λ (l : Map). with_prefix l prefix) none ∙ none_of prefix) ∙ append-nil done

pub walked_ends : (prefix : List ℕ) (m done : Map) (p : List ℕ × List ℕ) (rest : Map) → starts_with nat_eq p.0 prefix ≡ false → Walked prefix m done (p ∷ rest) → with_prefix m prefix ≡ done
unfolding IsFrom
walked_ends prefix m done p rest lacks walked =
    walked.all ∙ ap (λ (l : Map). done ++ l) (lacking prefix p rest lacks ∙ lacking_behind prefix p rest walked.ordered walked.from lacks) ∙ append-nil done

pub fewer_from : (m : Map) (prefix : List ℕ) → length (pairs_from m prefix) ≤ length m
unfolding pairs_from
fewer_from m prefix =
    let kept : List ℕ × List ℕ → Bool = λ p. not (is_lt (key_order p.0 prefix)) in
    omega (arith, length-filter_both kept (λ p. not (kept p)) (λ p. refl) m)

pub none_left : (left : Map) → length left ≤ 0 → left ≡ []
none_left [] none = refl
none_left (p ∷ left) none = absurd (omega (arith, none))

-- ---- what is printed

shown_parts : (m n : Map) → shown (m ++ n) ≡ shown m ++ shown n
shown_parts [] n = refl
shown_parts (p ∷ m) n = ap (λ (l : List ℕ). pair_text p ++ l) (shown_parts m n) ∙ sym (append_assoc (pair_text p) (shown m) (shown n))

pub shown_more : (done : Map) (p : List ℕ × List ℕ) → shown (done ++ (p ∷ [])) ≡ shown done ++ pair_text p
shown_more done p = shown_parts done (p ∷ []) ∙ ap (λ (l : List ℕ). shown done ++ l) (append-nil (pair_text p))

-- all that is printed is what was printed, the pair that is looked at, and the rest
pub shown_whole : (prefix : List ℕ) (m done : Map) (p : List ℕ × List ℕ) (rest : Map) → Walked prefix m done (p ∷ rest) → starts_with nat_eq p.0 prefix ≡ true
    → (shown done ++ pair_text p) ++ shown (with_prefix rest prefix) ≡ shown (with_prefix m prefix)
shown_whole prefix m done p rest walked has = sym (
    ap shown walked.all ∙ shown_parts done (with_prefix (p ∷ rest) prefix)
    ∙ ap (λ (l : Map). shown done ++ shown l) (having prefix p rest has)
    ∙ sym (append_assoc (shown done) (pair_text p) (shown (with_prefix rest prefix))))
