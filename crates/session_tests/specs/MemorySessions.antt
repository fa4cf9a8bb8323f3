-- A session that keeps its maps in memory, by its parts.
use Rattle.std.proofs.Common.{◌≡◌, ℕ, Bool, true, false, List, [], ◌∷◌, Vec, map, length, Result, refl}
use Rattle.std.specs.Prelude.{◌+◌, ◌&&◌, if◌then◌else◌}
use Rattle.std.specs.declared.alloc.Global.{Global}
use Rattle.base_bytes.specs.declared.change.Change.{Change}
use Rattle.std.specs.Coded.{×_prop, Unit-prop}
use Rattle.std.specs.Ordering.{Ordering-set}
use Rattle.base_bytes.specs.OrderedMap.{Map, BeginsAbove, IsOrderedMap, key_order}
use Rattle.std.specs.declared.cmp.Ordering.TheVariants.{Less}
use Rattle.db_core.specs.Refusals.{Answers, change_refusal}
use Rattle.db_core.specs.Sessions.{DbKind, DbState, aborted, change_after}
use Rattle.db_core.specs.declared.fault.DbFault.{DbFault}

-- A kind whose files stand for every map, and have a byte for each change that was made.
abbrev pub counting_kind : ℕ → DbKind
counting_kind limit = record {
  opens = λ _ _. Unit {0};
  flawed = λ _ _. ⊥;
  limit = limit;
  empty = [];
  load_of = λ bytes. length bytes;
  is_settled = λ _. Unit {0};
  load_after = λ _ load _. load + 1;
  size_after = λ _ load _. load + 1;
  load_committed = λ load. load;
  works_in_place = true;
}

-- the map that a tree of vectors holds
abbrev pub pairs_in : List (Vec ℕ Global × Vec ℕ Global) → Map
pairs_in entries = map (λ e. (e.0.items, e.1.items)) entries

-- that a map is ordered has one proof at most
begins_prop : (key : List ℕ) (m : Map) → IsProp (BeginsAbove key m)
begins_prop key [] = Unit-prop
begins_prop key (p ∷ m) = Ordering-set (key_order key p.0) Less

pub ordered_prop : (m : Map) → IsProp (IsOrderedMap m)
ordered_prop [] = Unit-prop
ordered_prop (p ∷ m) = ×_prop (begins_prop p.0 m) (ordered_prop m)

-- its state: whether a transaction stands, the map seen and the one that it goes back to, their loads, and whether something changed
abbrev pub memory_state : Bool → Map → Map → ℕ → ℕ → Bool → DbState
memory_state b seen saved load saved_load changed = record {
  seen = seen;
  committed = if b then saved else seen;
  load = load;
  load_committed = if b then saved_load else load;
  in_transaction = b;
  has_changed = b && changed;
  is_broken = false;
}

-- outside a transaction it goes back to what is seen
pub outside_same : (b : Bool) (seen saved : Map) (load saved_load : ℕ) (changed : Bool) → b ≡ false → aborted (memory_state b seen saved load saved_load changed) ≡ memory_state b seen saved load saved_load changed
outside_same true seen saved load saved_load changed closed = absurd (cc closed)
outside_same false seen saved load saved_load changed closed = refl

-- one change, answered as it is owed where a file may have nine bytes
abbrev pub AnswersChange : {T : Type 0} → Change → DbState → DbState → Result T DbFault → Type 0
AnswersChange change old new result = Answers (change_refusal (counting_kind 9) old change) old new (change_after (counting_kind 9) old change) result
