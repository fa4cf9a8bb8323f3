-- Ordered maps: what a put and a removal do to them, and that their values tell them apart.
use Rattle.std.proofs.Common.{◌≡◌, ◌≢◌, ◌≤◌, ℕ, zero, suc, Bool, true, false, cond, List, [], ◌∷◌, ◌++◌, Option, Some, None, length, take, drop, refl, sym, ◌∙◌, ap, subst, arith}
use Rattle.std.proofs.lemmas.Cmp.{tied_itself}
use Rattle.std.proofs.lemmas.List.Elements.{All-nil, All-cons}
use Rattle.std.specs.declared.cmp.Ordering.{Ordering}
use Rattle.std.specs.declared.cmp.Ordering.TheVariants.{Less, Equal, Greater}
use Rattle.std.specs.Ordering.{ordering_reverse, match_ordering, is_eq, is_lt}
use Rattle.std.specs.Prelude.{is_some, not, filter}
use Rattle.std.specs.List.{All}
use Rattle.std.specs.Map.{lookup, remove_entry}
use Rattle.std.specs.BTreeMap.{insert_entry, is_at}
use Rattle.std.specs.Cmp.Lexicographic.{nat_list_cmp_total}
use Rattle.std.specs.FinMap.{slice_cmp-IsAntisymmetric, nat_cmp-IsAntisymmetric}
use Rattle.base_bytes.specs.OrderedMap.{Map, IsBelow, IsOrderedMap, IsDbMap, BeginsAbove, key_order, pairs_from, put, value_at, without}

-- ---- the order of keys

pub same_key : (a b : List ℕ) → key_order a b ≡ Equal → a ≡ b
same_key a b is = slice_cmp-IsAntisymmetric nat_cmp-IsAntisymmetric a b is

pub key_itself : (a : List ℕ) → key_order a a ≡ Equal
key_itself a = tied_itself nat_list_cmp_total a

pub below_then : (a b c : List ℕ) → IsBelow a b → IsBelow b c → IsBelow a c
below_then a b c one other = nat_list_cmp_total.trans a b c one other

pub below_turned : (a b : List ℕ) → IsBelow a b → key_order b a ≡ Greater
below_turned a b below = nat_list_cmp_total.antisymm b a ∙ ap ordering_reverse below

pub above_turned : (a b : List ℕ) → key_order a b ≡ Greater → IsBelow b a
above_turned a b above = nat_list_cmp_total.antisymm b a ∙ ap ordering_reverse above

pub not_below_itself : (a : List ℕ) → IsBelow a a → ⊥
not_below_itself a below = absurd (cc (sym below ∙ key_itself a))

pub nothing_below : (a : List ℕ) → IsBelow a [] → ⊥
nothing_below [] below = cc below
nothing_below (x ∷ a) below = cc below

pub some_above : (a : List ℕ) → a ≢ [] → IsBelow [] a
some_above [] some = absurd (some refl)
some_above (x ∷ a) some = refl

-- ---- a map's keys

-- each key is below this one
abbrev pub EndsBelow : Map → List ℕ → Type 0
EndsBelow [] key = Unit {0}
EndsBelow (p ∷ m) key = IsBelow p.0 key × EndsBelow m key

pub begins_above_then : (a b : List ℕ) (m : Map) → IsBelow a b → BeginsAbove b m → BeginsAbove a m
begins_above_then a b [] below begins = tt
begins_above_then a b (p ∷ m) below begins = below_then a b p.0 below begins

-- a key in front of all others is not there
pub no_value_before : (key : List ℕ) (m : Map) → BeginsAbove key m → IsOrderedMap m → value_at m key ≡ None
unfolding value_at
no_value_before key [] begins ordered = refl
no_value_before key (p ∷ m) begins ordered =
    ap (λ (o : Ordering). cond (is_eq o) (Some p.1) (lookup (is_at (key_order key)) m)) begins
    ∙ no_value_before key m (begins_above_then key p.0 m begins ordered.0) ordered.1

pub value_first : (p : List ℕ × List ℕ) (m : Map) (key : List ℕ) → value_at (p ∷ m) key ≡ cond (is_at (key_order key) p.0) (Some p.1) (value_at m key)
unfolding value_at
value_first p m key = refl

-- what stands behind lower keys
pub value_behind : (before m : Map) (key : List ℕ) → EndsBelow before key → value_at (before ++ m) key ≡ value_at m key
unfolding value_at
value_behind [] m key below = refl
value_behind (p ∷ before) m key below =
    ap (λ (o : Ordering). cond (is_eq o) (Some p.1) (lookup (is_at (key_order key)) (before ++ m))) (below_turned p.0 key below.0)
    ∙ value_behind before m key below.1

pub value_here : (key value : List ℕ) (m : Map) → value_at ((key, value) ∷ m) key ≡ Some value
unfolding value_at
value_here key value m = ap (λ (o : Ordering). cond (is_eq o) (Some value) (lookup (is_at (key_order key)) m)) (key_itself key)

-- ---- a put

-- behind lower keys, in the place of the key's own pair, and in front of greater keys
pub put_behind : (before m : Map) (key value : List ℕ) → EndsBelow before key → put (before ++ m) key value ≡ before ++ put m key value
unfolding put
put_behind [] m key value below = refl
put_behind (p ∷ before) m key value below =
    ap (λ (o : Ordering). match_ordering o ((key, value) ∷ p ∷ (before ++ m)) ((p.0, value) ∷ (before ++ m)) (p ∷ insert_entry key_order (before ++ m) key value)) (below_turned p.0 key below.0)
    ∙ ap (λ (l : Map). p ∷ l) (put_behind before m key value below.1)

pub put_over : (key value old : List ℕ) (m : Map) → put ((key, old) ∷ m) key value ≡ (key, value) ∷ m
unfolding put
put_over key value old m = ap (λ (o : Ordering). match_ordering o ((key, value) ∷ (key, old) ∷ m) ((key, value) ∷ m) ((key, old) ∷ insert_entry key_order m key value)) (key_itself key)

pub put_before : (key value : List ℕ) (m : Map) → BeginsAbove key m → put m key value ≡ (key, value) ∷ m
unfolding put
put_before key value [] above = refl
put_before key value (p ∷ m) above = ap (λ (o : Ordering). match_ordering o ((key, value) ∷ p ∷ m) ((p.0, value) ∷ m) (p ∷ insert_entry key_order m key value)) above

-- the keys rise after it, and begin above what is below both
put_begins : (a key value : List ℕ) (m : Map) → IsBelow a key → BeginsAbove a m → BeginsAbove a (put m key value)
unfolding put
put_begins a key value [] below begins = below
put_begins a key value (p ∷ m) below begins = by (key_order key p.0) refl
  where
    by : (o : Ordering) → key_order key p.0 ≡ o → BeginsAbove a (match_ordering o ((key, value) ∷ p ∷ m) ((p.0, value) ∷ m) (p ∷ insert_entry key_order m key value))
    by Less is = below
    by Equal is = begins
    by Greater is = begins

pub put_ordered : (m : Map) (key value : List ℕ) → IsOrderedMap m → IsOrderedMap (put m key value)
unfolding put
put_ordered [] key value ordered = (tt, tt)
put_ordered (p ∷ m) key value ordered = by (put_ordered m key value ordered.1) (key_order key p.0) refl
  where
    by : IsOrderedMap (insert_entry key_order m key value) → (o : Ordering) → key_order key p.0 ≡ o → IsOrderedMap (match_ordering o ((key, value) ∷ p ∷ m) ((p.0, value) ∷ m) (p ∷ insert_entry key_order m key value))
    by later Less is = (is, ordered)
    by later Equal is = ordered
    by later Greater is = (put_begins p.0 key value m (above_turned key p.0 is) ordered.0, later)

-- a choice that is made twice, and two that exclude one another
pub chosen_twice : {A : Type 0} (b : Bool) (x y z : A) → cond b x z ≡ cond b x (cond b y z)
chosen_twice true x y z = refl
chosen_twice false x y z = refl

chosen_either : {A : Type 0} (a b : Bool) (x y z : A) → (a ≡ true → b ≡ true → ⊥) → cond b y (cond a x z) ≡ cond a x (cond b y z)
chosen_either true true x y z apart = absurd (apart refl refl)
chosen_either true false x y z apart = refl
chosen_either false b x y z apart = refl

pub is_at_key : (other key : List ℕ) → is_at (key_order other) key ≡ true → other ≡ key
is_at_key other key is = by (key_order other key) refl
  where
    by : (o : Ordering) → key_order other key ≡ o → other ≡ key
    by Less o = absurd (cc (sym is ∙ ap is_eq o))
    by Equal o = same_key other key o
    by Greater o = absurd (cc (sym is ∙ ap is_eq o))

-- the value at a key after it
pub value_put : (m : Map) (key value other : List ℕ) → value_at (put m key value) other ≡ cond (is_at (key_order other) key) (Some value) (value_at m other)
unfolding put value_at
value_put [] key value other = refl
value_put (p ∷ m) key value other = by (value_put m key value other) (key_order key p.0) refl
  where
    by : lookup (is_at (key_order other)) (insert_entry key_order m key value) ≡ cond (is_at (key_order other) key) (Some value) (lookup (is_at (key_order other)) m)
        → (o : Ordering) → key_order key p.0 ≡ o
        → lookup (is_at (key_order other)) (match_ordering o ((key, value) ∷ p ∷ m) ((p.0, value) ∷ m) (p ∷ insert_entry key_order m key value))
        ≡ cond (is_at (key_order other) key) (Some value) (cond (is_at (key_order other) p.0) (Some p.1) (lookup (is_at (key_order other)) m))
    by later Less is = refl
    by later Equal is =
        chosen_twice (is_at (key_order other) p.0) (Some value) (Some p.1) (lookup (is_at (key_order other)) m)
        ∙ ap (λ (k : List ℕ). cond (is_at (key_order other) k) (Some value) (cond (is_at (key_order other) p.0) (Some p.1) (lookup (is_at (key_order other)) m))) (sym (same_key key p.0 is))
    by later Greater is =
        ap (λ (v : Option (List ℕ)). cond (is_at (key_order other) p.0) (Some p.1) v) later
        ∙ chosen_either (is_at (key_order other) key) (is_at (key_order other) p.0) (Some value) (Some p.1) (lookup (is_at (key_order other)) m)
        (λ one two. let equal : key ≡ p.0 = sym (is_at_key other key one) ∙ is_at_key other p.0 two in cc (sym (ap (λ (k : List ℕ). key_order k p.0) equal ∙ key_itself p.0) ∙ is))

-- ---- a removal

-- behind lower keys, and of the key's own pair
pub without_behind : (before m : Map) (key : List ℕ) → EndsBelow before key → without (before ++ m) key ≡ before ++ without m key
unfolding without
without_behind [] m key below = refl
without_behind (p ∷ before) m key below =
    ap (λ (o : Ordering). cond (is_eq o) (before ++ m) (p ∷ remove_entry (is_at (key_order key)) (before ++ m))) (below_turned p.0 key below.0)
    ∙ ap (λ (l : Map). p ∷ l) (without_behind before m key below.1)

pub without_here : (key value : List ℕ) (m : Map) → without ((key, value) ∷ m) key ≡ m
unfolding without
without_here key value m = ap (λ (o : Ordering). cond (is_eq o) m ((key, value) ∷ remove_entry (is_at (key_order key)) m)) (key_itself key)

-- a key that has no value leaves the map as it is
pub without_absent : (m : Map) (key : List ℕ) → is_some (value_at m key) ≡ false → without m key ≡ m
unfolding value_at without
without_absent [] key none = refl
without_absent (p ∷ m) key none = by (is_eq (key_order key p.0)) none (without_absent m key)
  where
    by : (b : Bool) → is_some (cond b (Some p.1) (lookup (is_at (key_order key)) m)) ≡ false → (is_some (lookup (is_at (key_order key)) m) ≡ false → remove_entry (is_at (key_order key)) m ≡ m) → cond b m (p ∷ remove_entry (is_at (key_order key)) m) ≡ p ∷ m
    by true none later = absurd (cc none)
    by false none later = ap (λ (l : Map). p ∷ l) (later none)

without_begins : (a key : List ℕ) (m : Map) → BeginsAbove a m → IsOrderedMap m → BeginsAbove a (without m key)
unfolding without
without_begins a key [] begins ordered = tt
without_begins a key (p ∷ m) begins ordered = by (is_eq (key_order key p.0))
  where
    by : (b : Bool) → BeginsAbove a (cond b m (p ∷ remove_entry (is_at (key_order key)) m))
    by true = begins_above_then a p.0 m begins ordered.0
    by false = begins

pub without_ordered : (m : Map) (key : List ℕ) → IsOrderedMap m → IsOrderedMap (without m key)
unfolding without
without_ordered [] key ordered = tt
without_ordered (p ∷ m) key ordered = by (without_begins p.0 key m ordered.0 ordered.1) (without_ordered m key ordered.1) (is_eq (key_order key p.0))
  where
    by : BeginsAbove p.0 (remove_entry (is_at (key_order key)) m) → IsOrderedMap (remove_entry (is_at (key_order key)) m) → (b : Bool) → IsOrderedMap (cond b m (p ∷ remove_entry (is_at (key_order key)) m))
    by begins later true = ordered.1
    by begins later false = (begins, later)

-- ---- maps with the same values

-- the first keys are the same
first_same : (p : List ℕ × List ℕ) (m : Map) (q : List ℕ × List ℕ) (n : Map) → IsOrderedMap (p ∷ m) → IsOrderedMap (q ∷ n) → ((key : List ℕ) → value_at (p ∷ m) key ≡ value_at (q ∷ n) key) → p.0 ≡ q.0
first_same p m q n one other same = by (key_order p.0 q.0) refl
  where
    by : (o : Ordering) → key_order p.0 q.0 ≡ o → p.0 ≡ q.0
    by Less is = absurd (cc (sym (value_here p.0 p.1 m) ∙ same p.0 ∙ no_value_before p.0 (q ∷ n) is other))
    by Equal is = same_key p.0 q.0 is
    by Greater is = absurd (cc (sym (value_here q.0 q.1 n) ∙ sym (same q.0) ∙ no_value_before q.0 (p ∷ m) (above_turned p.0 q.0 is) one))

-- a key that is not below the first of a map, and not it, has its value behind it
value_later : (p : List ℕ × List ℕ) (m : Map) (key : List ℕ) → is_at (key_order key) p.0 ≡ false → value_at (p ∷ m) key ≡ value_at m key
unfolding value_at
value_later p m key isnt = ap (λ (b : Bool). cond b (Some p.1) (lookup (is_at (key_order key)) m)) isnt

later_same : (key v w : List ℕ) (m n : Map) → BeginsAbove key m → BeginsAbove key n → IsOrderedMap m → IsOrderedMap n → ((k : List ℕ) → value_at ((key, v) ∷ m) k ≡ value_at ((key, w) ∷ n) k) → (k : List ℕ) → value_at m k ≡ value_at n k
later_same key v w m n begins begin one other same k = by (is_at (key_order k) key) refl
  where
    by : (b : Bool) → is_at (key_order k) key ≡ b → value_at m k ≡ value_at n k
    by true is =
        let equal : key ≡ k = sym (is_at_key k key is) in
        no_value_before k m (subst (λ (l : List ℕ). BeginsAbove l m) equal begins) one ∙ sym (no_value_before k n (subst (λ (l : List ℕ). BeginsAbove l n) equal begin) other)
    by false is = sym (value_later (key, v) m k is) ∙ same k ∙ value_later (key, w) n k is

pub same_map : (m n : Map) → IsOrderedMap m → IsOrderedMap n → ((key : List ℕ) → value_at m key ≡ value_at n key) → m ≡ n
same_map [] [] one other same = refl
same_map [] (q ∷ n) one other same = absurd (cc (sym (value_none q.0) ∙ same q.0 ∙ value_here q.0 q.1 n))
  where
    value_none : (key : List ℕ) → value_at [] key ≡ None
    value_none key = no_value_before key [] tt tt
same_map (p ∷ m) [] one other same = absurd (cc (sym (value_here p.0 p.1 m) ∙ same p.0 ∙ no_value_before p.0 [] tt tt))
same_map (p ∷ m) (q ∷ n) one other same =
    let keys = first_same p m q n one other same in
    let values : p.1 ≡ q.1 = cc (sym (value_here p.0 p.1 m) ∙ same p.0 ∙ ap (λ (k : List ℕ). value_at (q ∷ n) k) keys ∙ value_here q.0 q.1 n) in
    let later = later_same p.0 p.1 q.1 m n one.0 (subst (λ (k : List ℕ). BeginsAbove k n) (sym keys) other.0) one.1 other.1
    (λ k. same k ∙ ap (λ (l : List ℕ). value_at ((l, q.1) ∷ n) k) (sym keys)) in
    ap (λ (k : List ℕ). (k, p.1) ∷ m) keys ∙ ap (λ (v : List ℕ). (q.0, v) ∷ m) values ∙ ap (λ (l : Map). q ∷ l) (same_map m n one.1 other.1 later)

-- ---- the map of a database

pub empty_db_map : IsDbMap []
empty_db_map = record { ordered = tt; some = All-nil (λ p. p.0 ≢ []) }

pub rest_some : (p : List ℕ × List ℕ) (m : Map) → All (λ q. q.0 ≢ []) (p ∷ m) → All (λ q. q.0 ≢ []) m
rest_some p m all = λ k d below. all (suc k) d (omega (arith, below))

put_some : (m : Map) (key value : List ℕ) → key ≢ [] → All (λ p. p.0 ≢ []) m → All (λ p. p.0 ≢ []) (put m key value)
unfolding put
put_some [] key value some all = All-cons (λ p. p.0 ≢ []) (key, value) [] some all
put_some (p ∷ m) key value some all = by (put_some m key value some (rest_some p m all)) (key_order key p.0)
  where
    first : p.0 ≢ []
    first = all 0 p (omega arith)

    by : All (λ q. q.0 ≢ []) (insert_entry key_order m key value) → (o : Ordering) → All (λ q. q.0 ≢ []) (match_ordering o ((key, value) ∷ p ∷ m) ((p.0, value) ∷ m) (p ∷ insert_entry key_order m key value))
    by later Less = All-cons (λ q. q.0 ≢ []) (key, value) (p ∷ m) some all
    by later Equal = All-cons (λ q. q.0 ≢ []) (p.0, value) m first (rest_some p m all)
    by later Greater = All-cons (λ q. q.0 ≢ []) p (insert_entry key_order m key value) first later

without_some : (m : Map) (key : List ℕ) → All (λ p. p.0 ≢ []) m → All (λ p. p.0 ≢ []) (without m key)
unfolding without
without_some [] key all = all
without_some (p ∷ m) key all = by (without_some m key (rest_some p m all)) (is_at (key_order key) p.0)
  where
    by : All (λ q. q.0 ≢ []) (remove_entry (is_at (key_order key)) m) → (b : Bool) → All (λ q. q.0 ≢ []) (cond b m (p ∷ remove_entry (is_at (key_order key)) m))
    by later true = rest_some p m all
    by later false = All-cons (λ q. q.0 ≢ []) p (remove_entry (is_at (key_order key)) m) (all 0 p (omega arith)) later

-- it stays one after a change
pub put_db_map : (m : Map) (key value : List ℕ) → key ≢ [] → IsDbMap m → IsDbMap (put m key value)
put_db_map m key value some is = record { ordered = put_ordered m key value is.ordered; some = put_some m key value some is.some }

pub without_db_map : (m : Map) (key : List ℕ) → IsDbMap m → IsDbMap (without m key)
without_db_map m key is = record { ordered = without_ordered m key is.ordered; some = without_some m key is.some }

-- ---- the pairs from a key on

from_all : (m : Map) (key : List ℕ) → All (λ p. ¬ IsBelow p.0 key) m → pairs_from m key ≡ m
unfolding pairs_from
from_all [] key none = refl
from_all (p ∷ m) key none = by (from_all m key (λ k d below. none (suc k) d (omega (arith, below)))) (key_order p.0 key) refl
  where
    by : filter (λ q. not (is_lt (key_order q.0 key))) m ≡ m → (o : Ordering) → key_order p.0 key ≡ o → cond (not (is_lt o)) (p ∷ filter (λ q. not (is_lt (key_order q.0 key))) m) (filter (λ q. not (is_lt (key_order q.0 key))) m) ≡ p ∷ m
    by later Less is = absurd (none 0 p (omega arith) is)
    by later Equal is = ap (λ (l : Map). p ∷ l) later
    by later Greater is = ap (λ (l : Map). p ∷ l) later

-- where the first so many keys are below it and the others are not, those are left out
pub pairs_from_place : (m : Map) (key : List ℕ) (place : ℕ) → place ≤ length m → All (λ p. IsBelow p.0 key) (take place m) → All (λ p. ¬ IsBelow p.0 key) (drop place m) → pairs_from m key ≡ drop place m
unfolding pairs_from
pairs_from_place m key zero within lower others = from_all m key others
pairs_from_place [] key (suc place) within lower others = refl
pairs_from_place (p ∷ m) key (suc place) within lower others =
    ap (λ (o : Ordering). cond (not (is_lt o)) (p ∷ filter (λ q. not (is_lt (key_order q.0 key))) m) (filter (λ q. not (is_lt (key_order q.0 key))) m)) (lower 0 p (omega arith))
    ∙ pairs_from_place m key place (omega (arith, within)) (λ k d below. lower (suc k) d (omega (arith, below))) others
