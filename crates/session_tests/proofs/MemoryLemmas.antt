-- What the calls of a session in memory make of its state.
use Rattle.std.proofs.Common.{◌≡◌, ◌≢◌, ◌≤◌, ℕ, zero, suc, ◌+◌, None, Bool, true, false, cond, List, [], ◌∷◌, length, drop, ◌∙◌, ap, refl, sym, subst, arith}
use Rattle.std.proofs.lemmas.List.{drop-drop, drop_all, length-drop}
use Rattle.std.proofs.lemmas.List.Elements.{All-cons, All-nil}
use Rattle.std.specs.List.{All}
use Rattle.std.specs.Ordering.{is_lt}
use Rattle.std.specs.declared.cmp.Ordering.{Ordering}
use Rattle.std.specs.declared.cmp.Ordering.TheVariants.{Less, Equal, Greater}
use Rattle.base_bytes.proofs.OrderedMaps.{below_then, pairs_from_place}
use Rattle.std.specs.Prelude.{◌&&◌, filter, is_some, not, if◌then◌else◌}
use Rattle.base_bytes.specs.OrderedMap.{Map, IsBelow, IsOrderedMap, key_order, pairs_from, put, without, value_at}
use Rattle.db_core.specs.Sessions.{DbKind, DbState, begun, stored, deleted}
use Rattle.base_bytes.specs.declared.change.Change.TheVariants.{Put, Del}
use Rattle.session_tests.specs.MemorySessions.{counting_kind, memory_state}
use Rattle.db_core.specs.Refusals.{pair_refusal, size_refusal, delete_refusal}

pub begun_memory : (b : Bool) (seen saved copy : Map) (load saved_load : ℕ) (changed : Bool) → b ≡ false → copy ≡ seen → memory_state true seen copy load load false ≡ begun (memory_state b seen saved load saved_load changed)
begun_memory true seen saved copy load saved_load changed closed same = absurd (cc closed)
begun_memory false seen saved copy load saved_load changed closed same = ap (λ (m : Map). memory_state true seen m load load false) same

module _ (kind : DbKind) (b : Bool) (seen saved : Map) (load saved_load : ℕ) (changed : Bool) (stands : b ≡ true) where
  abbrev before : DbState
  before = memory_state b seen saved load saved_load changed

  pub stored_memory : (word : ℕ) (key value : List ℕ) (now : Map) (more : ℕ) → now ≡ put seen key value → more ≡ kind.load_after seen load (Put word key value) → memory_state b now saved more saved_load true ≡ stored kind before word key value
  stored_memory word key value now more is costs = by b stands
    where
      by : (b : Bool) → b ≡ true → memory_state b now saved more saved_load true ≡ stored kind (memory_state b seen saved load saved_load changed) word key value
      by true stands = cc (is, costs)
      by false stands = absurd (cc stands)

  pub deleted_memory : (key : List ℕ) (now : Map) (more : ℕ) → is_some (value_at seen key) ≡ true → now ≡ without seen key → more ≡ kind.load_after seen load (Del key) → memory_state b now saved more saved_load true ≡ deleted kind before key
  deleted_memory key now more there is costs = by b stands (is_some (value_at seen key)) there
    where
      by : (b : Bool) → b ≡ true → (t : Bool) → t ≡ true → memory_state b now saved more saved_load true ≡ record (memory_state b seen saved load saved_load changed) { seen = without seen key; load = if t then kind.load_after seen load (Del key) else load; has_changed = if t then true else (b && changed) }
      by true stands true there = cc (is, costs)
      by true stands false there = absurd (cc there)
      by false stands t there = absurd (cc stands)

  pub kept_memory : (key : List ℕ) → is_some (value_at seen key) ≡ false → without seen key ≡ seen → before ≡ deleted kind before key
  kept_memory key none is = by (is_some (value_at seen key)) none
    where
      by : (t : Bool) → t ≡ false → before ≡ record before { seen = without seen key; load = if t then kind.load_after seen load (Del key) else load; has_changed = if t then true else (b && changed) }
      by true none = absurd (cc none)
      by false none = ap (λ (m : Map). record before { seen = m }) (sym is)

-- the refusal that a deletion owes, by whether the key is there
pub delete_owed : (limit : ℕ) (b : Bool) (seen saved : Map) (load saved_load : ℕ) (changed : Bool) (key : List ℕ) (there : Bool) → is_some (value_at seen key) ≡ there
    → delete_refusal (counting_kind limit) (memory_state b seen saved load saved_load changed) key ≡ (if there then size_refusal (counting_kind limit) (load + 1) else None)
delete_owed limit b seen saved load saved_load changed key there is = ap (λ (t : Bool). if t then size_refusal (counting_kind limit) (load + 1) else None) is

-- ---- walks

-- the pairs behind a place
pub next_place : (p : List ℕ × List ℕ) (rest m : Map) (place : ℕ) → p ∷ rest ≡ drop place m → rest ≡ drop (place + 1) m
next_place p rest m place is = ap (drop 1) is ∙ drop-drop 1 place m

-- one whose key is below is left out, and the others are taken from the first that is not
pub from_below : (p : List ℕ × List ℕ) (m : Map) (key : List ℕ) → IsBelow p.0 key → pairs_from (p ∷ m) key ≡ pairs_from m key
unfolding pairs_from
from_below p m key below = ap (λ (o : Ordering). cond (not (is_lt o)) (p ∷ filter (λ q. not (is_lt (key_order q.0 key))) m) (filter (λ q. not (is_lt (key_order q.0 key))) m)) below

none_below : (p : List ℕ × List ℕ) (m : Map) (key : List ℕ) → IsOrderedMap (p ∷ m) → ¬ IsBelow p.0 key → All (λ q. ¬ IsBelow q.0 key) (p ∷ m)
none_below p [] key ordered isnt = All-cons (λ q. ¬ IsBelow q.0 key) p [] isnt (All-nil (λ q. ¬ IsBelow q.0 key))
none_below p (q ∷ m) key ordered isnt = All-cons (λ r. ¬ IsBelow r.0 key) p (q ∷ m) isnt (none_below q m key ordered.1 (λ below. isnt (below_then p.0 q.0 key ordered.0 below)))

pub from_here : (p : List ℕ × List ℕ) (m : Map) (key : List ℕ) → IsOrderedMap (p ∷ m) → ¬ IsBelow p.0 key → pairs_from (p ∷ m) key ≡ p ∷ m
from_here p m key ordered isnt = pairs_from_place (p ∷ m) key 0 (omega arith) (All-nil (λ q. IsBelow q.0 key)) (none_below p m key ordered isnt)

pub dropped_ordered : (place : ℕ) (m : Map) → IsOrderedMap m → IsOrderedMap (drop place m)
dropped_ordered zero m ordered = ordered
dropped_ordered (suc place) [] ordered = tt
dropped_ordered (suc place) (p ∷ m) ordered = dropped_ordered place m ordered.1

-- A search for the first key that is not below this one, at a place with these pairs left.
module _ (m left : Map) (key : List ℕ) (place : ℕ) (at : left ≡ drop place m) (from : pairs_from m key ≡ pairs_from left key) where
  pub search_stops : (p : List ℕ × List ℕ) (rest : Map) → left ≡ p ∷ rest → IsOrderedMap m → ¬ IsBelow p.0 key → pairs_from m key ≡ drop place m
  search_stops p rest is ordered isnt =
      from ∙ ap (λ (l : Map). pairs_from l key) is
      ∙ from_here p rest key (subst IsOrderedMap (sym at ∙ is) (dropped_ordered place m ordered)) isnt
      ∙ sym is ∙ at

  pub search_from : (p : List ℕ × List ℕ) (rest : Map) → left ≡ p ∷ rest → IsBelow p.0 key → pairs_from m key ≡ pairs_from rest key
  search_from p rest is below = from ∙ ap (λ (l : Map). pairs_from l key) is ∙ from_below p rest key below

  pub search_ends : left ≡ [] → pairs_from m key ≡ drop place m
  unfolding pairs_from
  search_ends is = from ∙ ap (λ (l : Map). pairs_from l key) is ∙ sym is ∙ at

pub search_place : (m left rest : Map) (place : ℕ) (p : List ℕ × List ℕ) → left ≡ drop place m → left ≡ p ∷ rest → rest ≡ drop (place + 1) m
search_place m left rest place p at is = next_place p rest m place (sym is ∙ at)

-- the pair at a place, and none behind all pairs
pub step_found : (m left rest : Map) (place at : ℕ) (p q : List ℕ × List ℕ) → left ≡ drop place m → left ≡ p ∷ rest → q.0 ≡ p.0 → q.1 ≡ p.1 → place ≡ at → (l : Map) → l ≡ drop at m → (r : Map) × (l ≡ q ∷ r) × (r ≡ drop (place + 1) m)
step_found m left rest place at p q here is key value same l there = (
  rest,
  there ∙ ap (λ (n : ℕ). drop n m) (sym same) ∙ sym here ∙ is ∙ ap (λ (v : List ℕ). (p.0, v) ∷ rest) (sym value) ∙ ap (λ (k : List ℕ). (k, q.1) ∷ rest) (sym key),
  search_place m left rest place p here is,
)

pub step_none : (m left : Map) (place at : ℕ) → left ≡ drop place m → left ≡ [] → place ≤ at → (l : Map) → l ≡ drop at m → l ≡ []
step_none m left place at here is before l there = there ∙ drop_all at m (omega (arith, before, ap length (sym is ∙ here), length-drop place m))

-- a key that may be stored is not empty
pub stored_some : (key value : List ℕ) → pair_refusal key value ≡ None → key ≢ []
stored_some [] value none = absurd (cc none)
stored_some (x ∷ key) value none = λ e. absurd (cc e)

-- what the test of an order says
pub below_by : (o : Ordering) (t : Bool) → t ≡ is_lt o → t ≡ true → o ≡ Less
below_by Less t is lt = refl
below_by Equal t is lt = absurd (cc (is, lt))
below_by Greater t is lt = absurd (cc (is, lt))

pub not_below_by : (o : Ordering) (t : Bool) → t ≡ is_lt o → t ≡ false → ¬ (o ≡ Less)
not_below_by Less t is lt = absurd (cc (is, lt))
not_below_by Equal t is lt = λ e. absurd (cc e)
not_below_by Greater t is lt = λ e. absurd (cc e)
