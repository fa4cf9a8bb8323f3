-- Calls of a disk in memory that note one step.
use Rattle.std.proofs.Common.{◌≡◌, ◌⊎◌, ◌≤◌, ◌++◌, ◌∷◌, [], sym, subst}
use Rattle.base_devices.specs.CrashImages.{GoesOn}
use Rattle.mem_devices.specs.History.{Step, first_moment, start_image, fresh_of}
use Rattle.mem_devices.specs.CallLog.{log_steps, KeepsBounds}
use Rattle.mem_devices.specs.Memory.{MemRest, mem_state, state_of, stop_of}
use Rattle.mem_devices.specs.declared.memory.MemDisk.{MemDisk}
use Rattle.mem_devices.proofs.Time.{goes_on}

-- what the call keeps of a disk, where it notes this step or none
pub rest_after : (old new : MemDisk) (step : Step) → new.start ≡ old.start → (log_steps new.log ≡ log_steps old.log ++ step ∷ []) ⊎ (log_steps new.log ≡ log_steps old.log)
    → KeepsBounds old.log new.log → stop_of new ≡ stop_of old → old.log.faults ≤ new.log.faults → old.written ≤ new.written → old.publishes ≤ new.publishes → MemRest old new
rest_after old new step start steps bounds stop faults written publishes = record {
  time = subst (λ s. GoesOn (mem_state old) (state_of (first_moment (start_image s)) (log_steps new.log) (fresh_of new.new_file new.new_bytes.items) new.log.faults new.written new.publishes)) (sym start)
      (goes_on (first_moment (start_image old.start)) (log_steps old.log) (log_steps new.log) step _ _ _ _ _ _ _ _ steps faults written publishes);
  fails = bounds.fails;
  room = bounds.room;
  stop = stop;
}
