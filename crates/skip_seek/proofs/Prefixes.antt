-- Keys with a prefix stand side by side.
use Rattle.std.proofs.Common.{◌≡◌, ℕ, ◌<◌, Bool, true, false, cond, List, [], ◌∷◌, ◌++◌, refl, sym, ◌∙◌, ap, subst, arith, Option, None, Some}
use Rattle.std.specs.Prelude.{filter, not, nat_eq, nat_lt, ◌==◌, ◌&&◌}
use Rattle.std.specs.declared.cmp.Ordering.{Ordering}
use Rattle.std.specs.declared.cmp.Ordering.TheVariants.{Less, Equal, Greater}
use Rattle.std.specs.Ordering.{nat_cmp, ordering_then, is_lt}
use Rattle.std.specs.List.{starts_with}
use Rattle.base_bytes.specs.OrderedMap.{Map, IsBelow, IsOrderedMap, key_order, with_prefix, pairs_from}
use Rattle.base_bytes.proofs.OrderedMaps.{below_then}
use Rattle.skip_spec.specs.Chain.{Entry, pairs}
use Rattle.base_bytes.specs.declared.pair.Pair.{Pair}
use Rattle.skip_seek.specs.Prefixed.{BeginsFrom, Remains, Gives}
use Rattle.skip_seek.specs.declared.prefixed.Walk.{Walk}

-- whether a key begins with a prefix, byte by byte
begins : List ℕ → List ℕ → Bool
begins key [] = true
begins [] (x ∷ prefix) = false
begins (y ∷ key) (x ∷ prefix) = nat_eq x y && begins key prefix

begins_is : (key prefix : List ℕ) → starts_with nat_eq key prefix ≡ begins key prefix
unfolding begins
begins_is [] [] = refl
begins_is (y ∷ key) [] = refl
begins_is [] (x ∷ prefix) = refl
begins_is (y ∷ key) (x ∷ prefix) = ap (λ (b : Bool). nat_eq x y && b) (begins_is key prefix)

-- how two bytes compare
data Compared (x y : ℕ) : Type 0 where
  lower : nat_cmp x y ≡ Less → x < y → Compared x y
  equal : nat_cmp x y ≡ Equal → x ≡ y → Compared x y
  higher : nat_cmp x y ≡ Greater → y < x → Compared x y

compared : (x y : ℕ) → Compared x y
compared x y = by (nat_lt x y) refl (x == y) refl
  where
    by : (b : Bool) → nat_lt x y ≡ b → (e : Bool) → (x == y) ≡ e → Compared x y
    by true less e same = lower (ap (λ (c : Bool). cond c Less (cond (x == y) Equal Greater)) less) (grind (arith, less))
    by false less true same = equal (ap (λ (c : Bool). cond c Less (cond (x == y) Equal Greater)) less ∙ ap (λ (c : Bool). cond c Equal Greater) same) (grind (arith, same))
    by false less false same = higher (ap (λ (c : Bool). cond c Less (cond (x == y) Equal Greater)) less ∙ ap (λ (c : Bool). cond c Equal Greater) same) (grind (arith, less, same))

differs : (x y : ℕ) → x < y → nat_eq x y ≡ false
differs x y less = grind (arith, less)

differs_back : (x y : ℕ) → y < x → nat_eq x y ≡ false
differs_back x y less = grind (arith, less)

-- no key below the prefix begins with it
below_lacks : (key prefix : List ℕ) → IsBelow key prefix → begins key prefix ≡ false
unfolding begins
below_lacks [] [] below = absurd (cc below)
below_lacks (y ∷ key) [] below = absurd (cc below)
below_lacks [] (x ∷ prefix) below = refl
below_lacks (y ∷ key) (x ∷ prefix) below = by (λ later. below_lacks key prefix later) (compared y x)
  where
    by_false : (b : Bool) → (b && false) ≡ false
    by_false true = refl
    by_false false = refl

    by : (IsBelow key prefix → begins key prefix ≡ false) → Compared y x → (nat_eq x y && begins key prefix) ≡ false
    by further (lower is less) = ap (λ (b : Bool). b && begins key prefix) (differs_back x y less)
    by further (equal is same) = ap (λ (b : Bool). nat_eq x y && b) (further (sym (ap (λ (o : Ordering). ordering_then o (key_order key prefix)) is) ∙ below)) ∙ by_false (nat_eq x y)
    by further (higher is more) = absurd (cc (sym (ap (λ (o : Ordering). ordering_then o (key_order key prefix)) is) ∙ below))

-- behind a key that is not below the prefix and lacks it no key begins with it
above_lacks : (key other prefix : List ℕ) → ¬ IsBelow key prefix → begins key prefix ≡ false → IsBelow key other → begins other prefix ≡ false
unfolding begins
above_lacks key other [] not_below lacks below = absurd (cc lacks)
above_lacks [] other (x ∷ prefix) not_below lacks below = absurd (not_below refl)
above_lacks (y ∷ key) [] (x ∷ prefix) not_below lacks below = refl
above_lacks (y ∷ key) (z ∷ other) (x ∷ prefix) not_below lacks below = by (λ n l b. above_lacks key other prefix n l b) (compared y x) (compared y z)
  where
    by_false : (b : Bool) → (b && false) ≡ false
    by_false true = refl
    by_false false = refl

    later_lacks : x ≡ y → begins key prefix ≡ false
    later_lacks same = let here : nat_eq x y ≡ true = grind (arith, same) in sym (ap (λ (b : Bool). b && begins key prefix) here) ∙ lacks

    by : (¬ IsBelow key prefix → begins key prefix ≡ false → IsBelow key other → begins other prefix ≡ false) → Compared y x → Compared y z → (nat_eq x z && begins other prefix) ≡ false
    by further (lower is less) c = absurd (not_below (ap (λ (o : Ordering). ordering_then o (key_order key prefix)) is))
    by further (higher is more) (lower it less) = ap (λ (b : Bool). b && begins other prefix) (differs x z (omega (arith, more, less)))
    by further (higher is more) (equal it same) = ap (λ (b : Bool). b && begins other prefix) (differs x z (omega (arith, more, same)))
    by further (higher is more) (higher it less) = absurd (cc (sym (ap (λ (o : Ordering). ordering_then o (key_order key other)) it) ∙ below))
    by further (equal is same) (lower it less) = ap (λ (b : Bool). b && begins other prefix) (differs x z (omega (arith, same, less)))
    by further (equal is same) (higher it less) = absurd (cc (sym (ap (λ (o : Ordering). ordering_then o (key_order key other)) it) ∙ below))
    by further (equal is same) (equal it also) =
        ap (λ (b : Bool). nat_eq x z && b)
        (further (λ lower. not_below (ap (λ (o : Ordering). ordering_then o (key_order key prefix)) is ∙ lower)) (later_lacks (sym same)) (sym (ap (λ (o : Ordering). ordering_then o (key_order key other)) it) ∙ below))
        ∙ by_false (nat_eq x z)

-- ---- which pairs have it

lacking : (prefix : List ℕ) (p : List ℕ × List ℕ) (m : Map) → starts_with nat_eq p.0 prefix ≡ false → with_prefix (p ∷ m) prefix ≡ with_prefix m prefix
unfolding with_prefix
lacking prefix p m lacks = ap (λ (b : Bool). cond b (p ∷ filter (λ q. starts_with nat_eq q.0 prefix) m) (filter (λ q. starts_with nat_eq q.0 prefix) m)) lacks

pub having : (prefix : List ℕ) (p : List ℕ × List ℕ) (m : Map) → starts_with nat_eq p.0 prefix ≡ true → with_prefix (p ∷ m) prefix ≡ p ∷ with_prefix m prefix
unfolding with_prefix
having prefix p m has = ap (λ (b : Bool). cond b (p ∷ filter (λ q. starts_with nat_eq q.0 prefix) m) (filter (λ q. starts_with nat_eq q.0 prefix) m)) has

pub none_of : (prefix : List ℕ) → with_prefix [] prefix ≡ []
unfolding with_prefix
none_of prefix = refl

-- whether the first pair is below the prefix
from_by : (p : List ℕ × List ℕ) (m : Map) (prefix : List ℕ) (o : Ordering) → key_order p.0 prefix ≡ o → pairs_from (p ∷ m) prefix ≡ cond (not (is_lt o)) (p ∷ pairs_from m prefix) (pairs_from m prefix)
unfolding pairs_from
from_by p m prefix o is = ap (λ (o : Ordering). cond (not (is_lt o)) (p ∷ pairs_from m prefix) (pairs_from m prefix)) is

none_from : (prefix : List ℕ) → with_prefix (pairs_from [] prefix) prefix ≡ with_prefix [] prefix
unfolding pairs_from
none_from prefix = refl

-- all pairs with a prefix are among those from it on
pub prefix_from : (prefix : List ℕ) (m : Map) → with_prefix (pairs_from m prefix) prefix ≡ with_prefix m prefix
prefix_from prefix [] = none_from prefix
prefix_from prefix (p ∷ m) = by (prefix_from prefix m) (key_order p.0 prefix) refl
  where
    both : with_prefix (pairs_from m prefix) prefix ≡ with_prefix m prefix → (b : Bool) → starts_with nat_eq p.0 prefix ≡ b → with_prefix (p ∷ pairs_from m prefix) prefix ≡ with_prefix (p ∷ m) prefix
    both later true has = having prefix p (pairs_from m prefix) has ∙ ap (λ (l : Map). p ∷ l) later ∙ sym (having prefix p m has)
    both later false lacks = lacking prefix p (pairs_from m prefix) lacks ∙ later ∙ sym (lacking prefix p m lacks)

    by : with_prefix (pairs_from m prefix) prefix ≡ with_prefix m prefix → (o : Ordering) → key_order p.0 prefix ≡ o → with_prefix (pairs_from (p ∷ m) prefix) prefix ≡ with_prefix (p ∷ m) prefix
    by later Less is = ap (λ (l : Map). with_prefix l prefix) (from_by p m prefix Less is) ∙ later ∙ sym (lacking prefix p m (begins_is p.0 prefix ∙ below_lacks p.0 prefix is))
    by later Equal is = ap (λ (l : Map). with_prefix l prefix) (from_by p m prefix Equal is) ∙ both later (starts_with nat_eq p.0 prefix) refl
    by later Greater is = ap (λ (l : Map). with_prefix l prefix) (from_by p m prefix Greater is) ∙ both later (starts_with nat_eq p.0 prefix) refl

-- where the first pair from the prefix on lacks it, all do
pub all_lack : (prefix : List ℕ) (p : List ℕ × List ℕ) (m : Map) → IsOrderedMap (p ∷ m) → ¬ IsBelow p.0 prefix → starts_with nat_eq p.0 prefix ≡ false → with_prefix (p ∷ m) prefix ≡ []
all_lack prefix p [] rise from lacks = lacking prefix p [] lacks ∙ none_of prefix
all_lack prefix p (q ∷ m) rise from lacks =
    let still : ¬ IsBelow q.0 prefix = λ below. from (below_then p.0 q.0 prefix rise.0 below) in
    let next = begins_is q.0 prefix ∙ above_lacks p.0 q.0 prefix from (sym (begins_is p.0 prefix) ∙ lacks) rise.0 in
    lacking prefix p (q ∷ m) lacks ∙ all_lack prefix q m rise.1 still next

pub begins_later : (prefix : List ℕ) (p : List ℕ × List ℕ) (m : Map) → IsOrderedMap (p ∷ m) → ¬ IsBelow p.0 prefix → BeginsFrom prefix m
begins_later prefix p [] rise from = tt
begins_later prefix p (q ∷ m) rise from = λ below. from (below_then p.0 q.0 prefix rise.0 below)

begins_none : (prefix : List ℕ) → BeginsFrom prefix (pairs_from [] prefix)
unfolding pairs_from
begins_none prefix = tt

-- the pairs from the prefix on begin there
pub from_begins : (prefix : List ℕ) (m : Map) → BeginsFrom prefix (pairs_from m prefix)
from_begins prefix [] = begins_none prefix
from_begins prefix (p ∷ m) = by (from_begins prefix m) (key_order p.0 prefix) refl
  where
    by : BeginsFrom prefix (pairs_from m prefix) → (o : Ordering) → key_order p.0 prefix ≡ o → BeginsFrom prefix (pairs_from (p ∷ m) prefix)
    by later Less is = subst (BeginsFrom prefix) (sym (from_by p m prefix Less is)) later
    by later Equal is = subst (BeginsFrom prefix) (sym (from_by p m prefix Equal is)) (λ below. cc (sym is ∙ below))
    by later Greater is = subst (BeginsFrom prefix) (sym (from_by p m prefix Greater is)) (λ below. cc (sym is ∙ below))

-- the last of some records rise where all do
pub back_rises : (front back : List Entry) → IsOrderedMap (pairs (front ++ back)) → IsOrderedMap (pairs back)
back_rises [] back rise = rise
back_rises (e ∷ front) back rise = back_rises front back rise.1

-- a walk goes on after each call
pub goes_on : (left : Map) (p : Option Pair) (walk : Walk) → Gives left p walk → (rest : Map) × Remains walk rest
goes_on left None walk g = ([], g.1)
goes_on left (Some pair) walk g = (g.0, g.2)
