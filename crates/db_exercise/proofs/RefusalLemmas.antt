-- A session that is not broken owes no `Broken`, however many changes a transaction has.
use Rattle.std.proofs.Common.{◌≡◌, ◌∙◌, ℕ, Bool, true, false, List, [], ◌∷◌, Option, None, Some, length, refl, sym, ap}
use Rattle.std.specs.Option.{option_or}
use Rattle.std.specs.Prelude.{is_some, nat_lt, ◌==◌, if◌then◌else◌}
use Rattle.base_bytes.specs.OrderedMap.{value_at}
use Rattle.base_bytes.specs.declared.change.Change.{Change}
use Rattle.base_bytes.specs.declared.change.Change.TheVariants.{Put, Del}
use Rattle.base_bytes.specs.declared.limits.TheConstants.{KEY_LIMIT, VALUE_LIMIT}
use Rattle.db_core.specs.Refusals.{broken_refusal, pair_refusal, size_refusal, change_refusal, changes_refusal}
use Rattle.db_core.specs.Sessions.{DbKind, DbState, begun, change_after}
use Rattle.db_core.specs.WholeTransactions.{run_refusal}
use Rattle.db_core.specs.declared.fault.DbFault.{DbFault}
use Rattle.db_core.specs.declared.fault.DbFault.TheVariants.{Broken, KeyEmpty, KeyTooLong, ValueTooLong, Full}

size_not_broken : (kind : DbKind) (size : ℕ) → size_refusal kind size ≡ Some Broken → ⊥
size_not_broken kind size is = by (nat_lt kind.limit size) is
  where
    by : (b : Bool) → (if b then Some (Full size) else None) ≡ Some Broken → ⊥
    by true is = cc is
    by false is = cc is

pair_not_broken : (a b c : Bool) (key value : List ℕ) (later : Option DbFault) → (later ≡ Some Broken → ⊥)
    → option_or (if a then Some KeyEmpty else (if b then Some (KeyTooLong (length key)) else (if c then Some (ValueTooLong (length value)) else None))) later ≡ Some Broken → ⊥
pair_not_broken true b c key value later not is = cc is
pair_not_broken false true c key value later not is = cc is
pair_not_broken false false true key value later not is = cc is
pair_not_broken false false false key value later not is = not is

change_not_broken : (kind : DbKind) (s : DbState) (change : Change) → s.is_broken ≡ false → change_refusal kind s change ≡ Some Broken → ⊥
change_not_broken kind s (Put word key value) sound is =
    let size = kind.size_after s.seen s.load (Put word key value) in
    let rest = option_or (pair_refusal key value) (size_refusal kind size) in
    pair_not_broken (length key == 0) (nat_lt KEY_LIMIT (length key)) (nat_lt VALUE_LIMIT (length value)) key value (size_refusal kind size) (size_not_broken kind size)
    (sym (ap (λ (b : Bool). if b then Some Broken else rest) sound) ∙ is)
change_not_broken kind s (Del key) sound is =
    let size = kind.size_after s.seen s.load (Del key) in
    let rest = if is_some (value_at s.seen key) then size_refusal kind size else None in
    by (is_some (value_at s.seen key)) (sym (ap (λ (b : Bool). if b then Some Broken else rest) sound) ∙ is)
  where
    by : (b : Bool) → (if b then size_refusal kind (kind.size_after s.seen s.load (Del key)) else None) ≡ Some Broken → ⊥
    by true is = size_not_broken kind (kind.size_after s.seen s.load (Del key)) is
    by false is = cc is

pub change_sound : (kind : DbKind) (s : DbState) (change : Change) → (change_after kind s change).is_broken ≡ s.is_broken
change_sound kind s (Put word key value) = refl
change_sound kind s (Del key) = refl

either_not_broken : (first later : Option DbFault) → (first ≡ Some Broken → ⊥) → (later ≡ Some Broken → ⊥) → option_or first later ≡ Some Broken → ⊥
either_not_broken None later one two is = two is
either_not_broken (Some fault) later one two is = one is

changes_not_broken : (kind : DbKind) (s : DbState) (changes : List Change) → s.is_broken ≡ false → changes_refusal kind s changes ≡ Some Broken → ⊥
changes_not_broken kind s [] sound is = cc is
changes_not_broken kind s (change ∷ rest) sound is =
    either_not_broken (change_refusal kind s change) (changes_refusal kind (change_after kind s change) rest) (change_not_broken kind s change sound)
    (changes_not_broken kind (change_after kind s change) rest (change_sound kind s change ∙ sound)) is

pub run_not_broken : (kind : DbKind) (s : DbState) (changes : List Change) → s.is_broken ≡ false → run_refusal kind s changes ≡ Some Broken → ⊥
run_not_broken kind s changes sound is =
    either_not_broken (broken_refusal s) (changes_refusal kind (begun s) changes) (λ first. none s.is_broken sound first) (changes_not_broken kind (begun s) changes sound) is
  where
    none : (b : Bool) → b ≡ false → (if b then Some Broken else None) ≡ Some Broken → ⊥
    none true sound is = cc sound
    none false sound is = cc is
