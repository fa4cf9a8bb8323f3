-- What a call of a session is refused for, and what may be answered.
use Rattle.std.specs.Prelude.{◌≡◌, ◌⊎◌, ℕ, true, false, nat_lt, ◌==◌, List, [], ◌∷◌, Option, Some, None, is_some, Result, OnOk, IfErr, length, if◌then◌else◌}
use Rattle.std.specs.Option.{option_map, option_or}
use Rattle.base_bytes.specs.OrderedMap.{value_at}
use Rattle.base_bytes.specs.declared.pair.Pair.{Pair}
use Rattle.base_bytes.specs.declared.change.Change.{Change}
use Rattle.base_bytes.specs.declared.change.Change.TheVariants.{Put, Del}
use Rattle.base_bytes.specs.declared.limits.TheConstants.{KEY_LIMIT, VALUE_LIMIT}
use Rattle.db_core.specs.Sessions.{DbKind, DbState, change_after}
use Rattle.db_core.specs.declared.fault.DbFault.{DbFault}
use Rattle.db_core.specs.declared.fault.DbFault.TheVariants.{Broken, KeyEmpty, KeyTooLong, ValueTooLong, Full, NoMemory, DiskFault}

-- the pair that is handed out
abbrev pub pair_of : Option Pair → Option (List ℕ × List ℕ)
pair_of answer = option_map (λ (p : Pair). (p.key.now, p.value.now)) answer

-- ---- the refusal that a call owes, if any: the first whose sentence holds

abbrev pub broken_refusal : DbState → Option DbFault
broken_refusal s = if s.is_broken then Some Broken else None

abbrev pub size_refusal : DbKind → ℕ → Option DbFault
size_refusal kind size = if nat_lt kind.limit size then Some (Full size) else None

-- what a pair's own sizes forbid, whatever the backend
abbrev pub pair_refusal : List ℕ → List ℕ → Option DbFault
pair_refusal key value =
    if length key == 0 then Some KeyEmpty
    else (if nat_lt KEY_LIMIT (length key) then Some (KeyTooLong (length key))
    else (if nat_lt VALUE_LIMIT (length value) then Some (ValueTooLong (length value))
    else None))

abbrev pub store_refusal : DbKind → DbState → ℕ → List ℕ → List ℕ → Option DbFault
store_refusal kind s word key value =
    if s.is_broken then Some Broken
    else option_or (pair_refusal key value) (size_refusal kind (kind.size_after s.seen s.load (Put word key value)))

abbrev pub delete_refusal : DbKind → DbState → List ℕ → Option DbFault
delete_refusal kind s key =
    if s.is_broken then Some Broken
    else (if is_some (value_at s.seen key) then size_refusal kind (kind.size_after s.seen s.load (Del key)) else None)

-- a change of either sort, and the first of a list that owes one
abbrev pub change_refusal : DbKind → DbState → Change → Option DbFault
change_refusal kind s (Put word key value) = store_refusal kind s word key value
change_refusal kind s (Del key) = delete_refusal kind s key

abbrev pub changes_refusal : DbKind → DbState → List Change → Option DbFault
changes_refusal kind s [] = None
changes_refusal kind s (change ∷ rest) = option_or (change_refusal kind s change) (changes_refusal kind (change_after kind s change) rest)

-- ---- what is answered

-- want of memory and a fault of the disk come only where no refusal is owed
abbrev pub MayAnswer : Option DbFault → DbFault → Type 0
MayAnswer owed NoMemory = owed ≡ None
MayAnswer owed DiskFault = owed ≡ None
MayAnswer owed fault = owed ≡ Some fault

-- after a refusal nothing of the session has changed; after a fault of the disk it is broken
abbrev pub IsAfterRefusal : DbFault → DbState → DbState → Type 0
IsAfterRefusal DiskFault old new = (new.is_broken ≡ true) × (new.in_transaction ≡ false)
IsAfterRefusal fault old new = new ≡ old

-- what a call answers, and what becomes of the session
pub record Answers {T : Type 0} (owed : Option DbFault) (old new wanted : DbState) (result : Result T DbFault) : Type 0 where
  pub ok : OnOk result (owed ≡ None)
  pub done : OnOk result (new ≡ wanted)
  pub refused : IfErr result (λ fault. MayAnswer owed fault)
  pub after : IfErr result (λ fault. IsAfterRefusal fault old new)

abbrev pub IsDiskFault : DbFault → Type 0
IsDiskFault DiskFault = Unit {0}
IsDiskFault fault = ⊥

-- a refused call leaves the disk as it was, unless the disk failed
abbrev pub LeavesDisk : {T D : Type 0} → Result T DbFault → D → D → Type 0
LeavesDisk result old new = IfErr result (λ fault. IsDiskFault fault ⊎ (new ≡ old))
