-- When a call may answer that its device failed.
use Rattle.std.specs.Prelude.{◌≡◌, ◌⊎◌, ℕ, ◌+◌, ◌-◌, ◌^◌, ◌≤◌, min, Result, OnOk, OnErr, IfErr}
use Rattle.base_devices.specs.declared.reading.ReadFault.{ReadFault}
use Rattle.base_devices.specs.declared.reading.ReadFault.TheVariants.{NoMemory, DiskFault}

-- The count rose by one, or stands at its last value. A call behind a failed one could fail as well, so a count
-- that rose by just one says that none was made.
abbrev pub Rose : ℕ → ℕ → Type 0
Rose before now = now ≡ min (before + 1) (2 ^ 64 - 1)

-- a call whose only refusal is a fault of the device: the count rises where it fails, and stands where it does not
pub record HasCause {T E : Type 0} (before now : ℕ) (result : Result T E) : Type 0 where
  pub later : before ≤ now
  pub failed : OnErr result (Rose before now)
  pub kept : OnOk result (now ≡ before)

-- a call that may be refused for other reasons too: the count rises where the answer is a fault of the device
pub record FaultHasCause {T E : Type 0} (IsFault : E → Type 0) (before now : ℕ) (result : Result T E) : Type 0 where
  pub later : before ≤ now
  pub rose : IfErr result (λ fault. IsFault fault → Rose before now)
  pub stood : IfErr result (λ fault. IsFault fault ⊎ (now ≡ before))
  pub kept : OnOk result (now ≡ before)

-- the disk failed, and it is not memory that ran out
abbrev pub IsReadFault : ReadFault → Type 0
IsReadFault DiskFault = Unit {0}
IsReadFault NoMemory = ⊥
