-- A rebuild: what was read, what was printed, and the index that was replaced.
use Rattle.std.proofs.Common.{◌≡◌, ◌⊎◌, inl, inr, ⊎_elim, ◌≤◌, ℕ, false, List, ◌++◌, Option, Some, Result, refl, sym, ap, subst, ◌∙◌, arith}
use Rattle.std.specs.Prelude.{length, take}
use Rattle.std.proofs.lemmas.List.{take_all}
use Rattle.base_devices.specs.CrashImages.{DiskState, GoesOn, Image, Reads}
use Rattle.base_devices.specs.Frames.{KeepsFile, KeepsFiles, LeavesBetween, MayLeaveLess, MayReplace}
use Rattle.base_devices.specs.HostCalls.{HostMoment, MovesMark, told_with}
use Rattle.base_devices.proofs.FrameLemmas.{between_then, file_of_less, file_of_prints, file_then, only_once}
use Rattle.index_form.specs.Spelling.{header_bytes}
use Rattle.mail_rebuild.specs.declared.planning.Plan.{Plan}
use Rattle.mail_rebuild.specs.Planning.{IsPlan}
use Rattle.mail_rebuild.specs.Rebuilds.{MayBeNew, PrintsSome, Rebuilds, Task}

abbrev pub bytes_of : Plan → List ℕ
bytes_of plan = header_bytes plan.header ++ plan.records.items

-- the file is kept while it is read and the report is printed
pub keeps_told : {T E : Type 0} (told : Option (List ℕ)) (old mid new : DiskState) (bytes : List ℕ) (result : Result T E) → GoesOn old mid → GoesOn mid new
    → MayLeaveLess old mid → MovesMark told mid new bytes result → KeepsFiles mid new → KeepsFile old new
keeps_told told old mid new bytes result first second less moves keeps =
    file_then old mid new first second (omega (arith, less.mark)) moves.from less.leaves (file_of_less old mid less)
    (file_of_prints mid new (only_once told mid new bytes result moves keeps))

pub kept_moments : (old new : DiskState) (Q : Image → Type 0) → KeepsFile old new → LeavesBetween old new (λ c. old.leaves c ⊎ Q c)
kept_moments old new Q keeps = record { each = λ c n left. let p = keeps.each.each c n left in (p.0, p.1, inl p.2) }

-- the index was replaced, or not yet
pub replaced_moments : (old told new : DiskState) (bytes : List ℕ) (Q : Image → Type 0) → GoesOn old told → GoesOn told new → old.mark ≤ told.mark → KeepsFile old told
    → ((c : Image) → told.leaves c → old.leaves c) → MayReplace bytes told new → Q (Some bytes) → LeavesBetween old new (λ c. old.leaves c ⊎ Q c)
replaced_moments old told new bytes Q first second rose keeps less replaces whole =
    between_then old told new old.leaves (λ c. told.leaves c ⊎ (c ≡ Some bytes)) (λ c. old.leaves c ⊎ Q c) first second rose (omega (arith, replaces.mark))
    (λ c left. inl left)
    (λ c left. ⊎_elim (λ was. inl (less c was)) (λ is. inr (subst Q (sym is) whole)) left)
    keeps.each
    (record { each = λ c n left. let p = replaces.each.each c n left in (omega (arith, p.0), omega (arith, p.0, replaces.mark), p.1) })

-- the plan was carried out
pub carried_out : (task : Task) (old new : HostMoment) (plan : Plan) → IsPlan task plan → new.streams.told ≡ told_with old.streams.told plan.text.items
    → (task.options.dry ≡ false → Reads new.disk (bytes_of plan)) → Rebuilds task old new plan.tally
carried_out task old new plan is printed reads = record {
  text = plan.text.items;
  bytes = bytes_of plan;
  report = (is.0, is.1, is.2.text);
  printed = printed;
  index = (is.0, is.1, is.2.bytes);
  reads = reads;
  counts = (is.0, is.1, is.2.tally);
}

pub printed_some : (task : Task) (old new : HostMoment) (plan : Plan) (count : ℕ) → IsPlan task plan → new.streams.told ≡ told_with old.streams.told (take count plan.text.items) → PrintsSome task old new
printed_some task old new plan count is printed = inr (plan.text.items, (is.0, is.1, is.2.text), count, printed)

pub may_be_new : (task : Task) (plan : Plan) → IsPlan task plan → MayBeNew (Some (bytes_of plan)) task
may_be_new task plan is = (bytes_of plan, (is.0, is.1, is.2.bytes), refl)

pub printed_all : (task : Task) (old new : HostMoment) (plan : Plan) → IsPlan task plan → new.streams.told ≡ told_with old.streams.told plan.text.items → PrintsSome task old new
printed_all task old new plan is printed =
    printed_some task old new plan (length plan.text.items) is (printed ∙ ap (told_with old.streams.told) (sym (take_all (length plan.text.items) plan.text.items (omega arith))))

-- all of a rebuild that replaces the index
pub all_moments : {T E : Type 0} (told : Option (List ℕ)) (old mid printed new : DiskState) (text bytes : List ℕ) (result : Result T E) (Q : Image → Type 0)
    → GoesOn old mid → GoesOn mid printed → GoesOn old printed → GoesOn printed new → MayLeaveLess old mid → MovesMark told mid printed text result → KeepsFiles mid printed
    → MayReplace bytes printed new → Q (Some bytes) → LeavesBetween old new (λ c. old.leaves c ⊎ Q c)
all_moments told old mid printed new text bytes result Q first second both third less moves keeps replaces whole =
    replaced_moments old printed new bytes Q both third (omega (arith, less.mark, moves.from))
    (keeps_told told old mid printed text result first second less moves keeps)
    (λ c left. less.leaves c (keeps.leaves.no_more c left)) replaces whole
