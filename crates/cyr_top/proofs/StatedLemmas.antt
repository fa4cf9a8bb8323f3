-- What is stated of an action is stated once.
use Rattle.std.proofs.Common.{◌≡◌, inl, inr, ℕ, zero, suc, Bool, true, false, List, Option, Some, None, length, refl, sym, ◌∙◌, ap, subst, arith}
use Rattle.std.specs.Prelude.{is_some, if◌then◌else◌}
use Rattle.rand_core.specs.Stream.{next_u32}
use Rattle.base_bytes.specs.OrderedMap.{Map, value_at}
use Rattle.base_bytes.specs.declared.change.Change.{Change}
use Rattle.base_bytes.specs.declared.change.Change.TheVariants.{Put, Del}
use Rattle.base_bytes.specs.declared.flaw.Damage.{Damage}
use Rattle.base_devices.specs.CrashImages.{Image}
use Rattle.base_notes.specs.declared.action.Action.{Action}
use Rattle.base_notes.specs.declared.action.Action.TheVariants.{Show, Get, Set, Delete, Consistent, Repack, Batch, Exercise}
use Rattle.base_notes.specs.declared.note.Device.{Device}
use Rattle.base_notes.specs.declared.note.Device.TheVariants.{Host}
use Rattle.base_notes.specs.declared.note.Note.{Note}
use Rattle.base_notes.specs.declared.note.Note.TheVariants.{Done, Answer, BadLine, Usage, DeviceFault}
use Rattle.db_core.specs.Opening.{OpensTo}
use Rattle.db_core.specs.Sessions.{DbKind, DbLaws, DbState, at_rest}
use Rattle.db_core.specs.declared.fault.DbFault.{DbFault}
use Rattle.db_core.specs.declared.fault.DbFault.TheVariants.{Broken, KeyEmpty, KeyTooLong, ValueTooLong, Full, NoMemory, DiskFault}
use Rattle.db_core.specs.declared.opening.OpenFault.{OpenFault}
use Rattle.db_core.specs.declared.opening.OpenFault.TheVariants.{Absent as NoFile, TooBig, NoMemory as NoRoom, DiskFault as NoDisk, Damaged as Flawed}
use Rattle.db_core.specs.WholeTransactions.{run_refusal}
use Rattle.db_exercise.specs.Exercise.{Ending, Progress, after_round, ending_of, next_of, nothing_done, unless_owed}
use Rattle.db_script.specs.Batch.{IsScriptNote}
use Rattle.db_tool.specs.Tasks.{CanAct, Given, Task, changing_by, lacks_key, task_if, task_of}
use Rattle.db_tool.specs.ToolNotes.{IsFault, IsCutOff, change_note, opening_note}
use Rattle.cyr_top.specs.Asked.{Asked, is_done, task_by, task_for}
use Rattle.cyr_top.specs.Converting.{DoesNotOpen}
use Rattle.cyr_top.specs.Stated.{StartsFrom, IsUnopened, StatedResult, acted, unopened, unopened_note, unopened_output, IsBuilt, IsNoteOf}
use Rattle.cyr_top.proofs.ScriptLemmas.{script_good, script_silent}

pub same_bytes : (main : Image) (a b : List ℕ) → main ≡ Some a → main ≡ Some b → a ≡ b
same_bytes main a b first second = cc (first, second)

module _ (asked : Asked) (laws : DbLaws asked.kind) where
  -- an absent file opens to no map
  pub none_opens : (main : Image) (m : Map) → main ≡ None → asked.kind.opens main m → ⊥
  none_opens main m none opens = cc (none, (laws.within main m opens).1)

  -- a file that opens is not refused
  pub opens_fails : (main : Image) (s : DbState) (fault : OpenFault) → OpensTo asked.kind main s → IsUnopened asked main fault → ⊥
  opens_fails main s NoFile opens un = cc (un.0, opens.there)
  opens_fails main s (TooBig size) opens un =
      let there = laws.within main opens.map opens.opens in
      absurd (omega (arith, un.over, un.counted, there.2, ap length (same_bytes main un.bytes there.0 un.there there.1)))
  opens_fails main s (Flawed at check) opens un =
      laws.never_both un.bytes opens.map (record { at = at; check = check }) (subst (λ (i : Image). asked.kind.opens i opens.map) un.there opens.opens) un.so
  opens_fails main s NoRoom opens un = un
  opens_fails main s NoDisk opens un = un

  -- why a file does not open is why an action is refused that does not make it
  pub as_unopened : (main : Image) (fault : OpenFault) → (asked.make ≡ true → ⊥) → DoesNotOpen asked.kind main fault → IsUnopened asked main fault
  as_unopened main NoFile unmade is = (is, unmade)
  as_unopened main (TooBig size) unmade is = is
  as_unopened main (Flawed at check) unmade is = is
  as_unopened main NoRoom unmade is = absurd is
  as_unopened main NoDisk unmade is = absurd is

  pub starts_fails : (main : Image) (s : DbState) (fault : OpenFault) → StartsFrom asked main s → IsUnopened asked main fault → ⊥
  starts_fails main s fault (inl opens) un = opens_fails main s fault opens un
  starts_fails main s NoFile (inr makes) un = un.1 makes.0
  starts_fails main s (TooBig size) (inr makes) un = cc (makes.1, un.there)
  starts_fails main s (Flawed at flaw) (inr makes) un = cc (makes.1, un.there)
  starts_fails main s NoRoom (inr makes) un = un
  starts_fails main s NoDisk (inr makes) un = un

  -- a file opens to one session, and an action starts from one
  pub opens_once : (main : Image) (s t : DbState) → OpensTo asked.kind main s → OpensTo asked.kind main t → s ≡ t
  opens_once main s t one other =
      let same_map : one.map ≡ other.map = laws.once main one.map other.map one.opens other.opens in
      let same_load : asked.kind.load_of one.bytes ≡ asked.kind.load_of other.bytes = ap asked.kind.load_of (same_bytes main one.bytes other.bytes one.there other.there) in
      one.rests ∙ ap (λ (m : Map). at_rest m (asked.kind.load_of one.bytes)) same_map ∙ ap (λ (n : ℕ). at_rest other.map n) same_load ∙ sym other.rests

  pub starts_once : (main : Image) (s t : DbState) → StartsFrom asked main s → StartsFrom asked main t → s ≡ t
  starts_once main s t (inl one) (inl other) = opens_once main s t one other
  starts_once main s t (inl one) (inr other) = absurd (cc (one.there, other.1))
  starts_once main s t (inr one) (inl other) = absurd (cc (other.there, one.1))
  starts_once main s t (inr one) (inr other) = one.2 ∙ sym other.2

  -- and is refused with one fault
  pub unopened_once : (main : Image) (a b : OpenFault) → IsUnopened asked main a → IsUnopened asked main b → a ≡ b
  unopened_once main NoFile NoFile one other = refl
  unopened_once main NoFile (TooBig size) one other = absurd (cc (one.0, other.there))
  unopened_once main NoFile (Flawed at flaw) one other = absurd (cc (one.0, other.there))
  unopened_once main (TooBig size) NoFile one other = absurd (cc (other.0, one.there))
  unopened_once main (TooBig size) (TooBig other_size) one other = ap (λ (n : ℕ). TooBig n) (one.counted ∙ ap length (same_bytes main one.bytes other.bytes one.there other.there) ∙ sym other.counted)
  unopened_once main (TooBig size) (Flawed at flaw) one other = absurd (omega (arith, one.over, one.counted, other.within, ap length (same_bytes main one.bytes other.bytes one.there other.there)))
  unopened_once main (Flawed at flaw) NoFile one other = absurd (cc (other.0, one.there))
  unopened_once main (Flawed at flaw) (TooBig size) one other = absurd (omega (arith, other.over, other.counted, one.within, ap length (same_bytes main one.bytes other.bytes one.there other.there)))
  unopened_once main (Flawed at check) (Flawed place found) one other =
      let same = laws.first other.bytes (record { at = at; check = check }) (record { at = place; check = found }) (subst (λ (l : List ℕ). asked.kind.flawed l (record { at = at; check = check })) (same_bytes main one.bytes other.bytes one.there other.there) one.so) other.so in
      ap (λ (d : Damage). Flawed d.at d.check) same
  unopened_once main NoRoom b one other = absurd one
  unopened_once main NoDisk b one other = absurd one
  unopened_once main NoFile NoRoom one other = absurd other
  unopened_once main NoFile NoDisk one other = absurd other
  unopened_once main (TooBig size) NoRoom one other = absurd other
  unopened_once main (TooBig size) NoDisk one other = absurd other
  unopened_once main (Flawed at flaw) NoRoom one other = absurd other
  unopened_once main (Flawed at flaw) NoDisk one other = absurd other

  pub stated_once : (main : Image) (note wanted : Note) (told output : List ℕ) → StatedResult asked main note told → StatedResult asked main wanted output → (note ≡ wanted) × (told ≡ output)
  stated_once main note wanted told output (acted s starts is out) (acted t starts_too is_too out_too) =
      let same = starts_once main s t starts starts_too in
      (is ∙ ap (λ (x : DbState). (task_for asked x).note) same ∙ sym is_too, out ∙ ap (λ (x : DbState). (task_for asked x).output) same ∙ sym out_too)
  stated_once main note wanted told output (acted s starts is out) (unopened fault un is_too out_too) = absurd (starts_fails main s fault starts un)
  stated_once main note wanted told output (unopened fault un is out) (acted s starts is_too out_too) = absurd (starts_fails main s fault starts un)
  stated_once main note wanted told output (unopened fault un is out) (unopened found un_too is_too out_too) =
      let same = unopened_once main fault found un un_too in
      (is ∙ ap (λ (f : OpenFault). unopened_note asked.action f) same ∙ sym is_too, out ∙ ap (λ (f : OpenFault). unopened_output asked.action f) same ∙ sym out_too)

-- ---- what holds of each task that is built

-- of an action: nothing is acknowledged before its end, nothing stands at its start where memory runs out, and its note is one of its own
pub record IsPlain (action : Action) (task : Task) : Type 0 where
  pub none : task.acknowledged 0 ≡ 0
  pub may : task.may_stand 0 0
  pub built : IsNoteOf action task.note
  pub no_usage : task.note ≡ Usage → ⊥

-- a note that is built is one of each action
pub note_of_action : (action : Action) (note : Note) → IsBuilt note → IsNoteOf action note
note_of_action (Show prefix) note built = built
note_of_action (Get key) note built = built
note_of_action (Set key value) note built = built
note_of_action (Delete key) note built = built
note_of_action Consistent note built = built
note_of_action Repack note built = built
note_of_action Batch note built = inl built
note_of_action (Exercise rounds) note built = built

-- and where the action is no script there are no others
pub built_of_action : (action : Action) (note : Note) → is_done action ≡ true → IsNoteOf action note → IsBuilt note
built_of_action (Show prefix) note done is = is
built_of_action (Get key) note done is = is
built_of_action (Set key value) note done is = is
built_of_action (Delete key) note done is = is
built_of_action Consistent note done is = is
built_of_action Repack note done is = is
built_of_action Batch note done is = absurd (cc done)
built_of_action (Exercise rounds) note done is = is

pub refused_built : (fault : DbFault) → IsBuilt (change_note Host fault)
refused_built Broken = tt
refused_built KeyEmpty = tt
refused_built (KeyTooLong n) = tt
refused_built (ValueTooLong n) = tt
refused_built (Full n) = tt
refused_built NoMemory = tt
refused_built DiskFault = tt

pub refused_no_usage : (fault : DbFault) → change_note Host fault ≡ Usage → ⊥
refused_no_usage Broken is = cc is
refused_no_usage KeyEmpty is = cc is
refused_no_usage (KeyTooLong n) is = cc is
refused_no_usage (ValueTooLong n) is = cc is
refused_no_usage (Full n) is = cc is
refused_no_usage NoMemory is = cc is
refused_no_usage DiskFault is = cc is

change_plain : (action : Action) (owed : Option DbFault) (kind : DbKind) (s : DbState) (change : Change) (words : ℕ) → IsPlain action (changing_by owed kind s change words)
change_plain action None kind s change words = record { none = refl; may = (refl, refl); built = note_of_action action Done tt; no_usage = λ is. cc is }
change_plain action (Some fault) kind s change words = record { none = refl; may = (refl, refl); built = note_of_action action (change_note Host fault) (refused_built fault); no_usage = refused_no_usage fault }

answer_built : (b : Bool) → IsBuilt (if b then Done else Answer)
answer_built true = tt
answer_built false = tt

answer_no_usage : (b : Bool) → (if b then Done else Answer) ≡ Usage → ⊥
answer_no_usage true is = cc is
answer_no_usage false is = cc is

plain_by : (kind : DbKind) (s : DbState) (g : Given) (b : Bool) (a : Action) → IsPlain a (task_if b kind s g a)
plain_by kind s g true a = record { none = refl; may = (refl, refl); built = note_of_action a (BadLine 1) tt; no_usage = λ is. cc is }
plain_by kind s g false (Show prefix) = record { none = refl; may = (refl, refl); built = tt; no_usage = λ is. cc is }
plain_by kind s g false (Get key) = record { none = refl; may = (refl, refl); built = answer_built (is_some (value_at s.seen key)); no_usage = answer_no_usage (is_some (value_at s.seen key)) }
plain_by kind s g false (Set key value) = change_plain (Set key value) _ kind s (Put (next_u32 g.words).0 key value) 1
plain_by kind s g false (Delete key) = change_plain (Delete key) _ kind s (Del key) 0
plain_by kind s g false Consistent = record { none = refl; may = (refl, refl); built = tt; no_usage = λ is. cc is }
plain_by kind s g false Repack = record { none = refl; may = (refl, refl); built = tt; no_usage = λ is. cc is }
plain_by kind s g false Batch = record { none = refl; may = (refl, refl); built = inl tt; no_usage = λ is. cc is }
plain_by kind s g false (Exercise rounds) = record { none = refl; may = (refl, refl); built = tt; no_usage = λ is. cc is }

-- of generated transactions too: they end with `Done`, or with the refusal of one
abbrev IsGoodEnding : Ending → Type 0
IsGoodEnding e = IsBuilt e.note × (e.note ≡ Usage → ⊥)

ending_good : (kind : DbKind) (left : ℕ) (p : Progress) → IsGoodEnding (ending_of kind left p)
unfolding ending_of
ending_good kind zero p = (tt, λ is. cc is)
ending_good kind (suc left) p = by (ending_good kind left (after_round kind p)) (run_refusal kind p.session (next_of p))
  where
    by : IsGoodEnding (ending_of kind left (after_round kind p)) → (owed : Option DbFault) → IsGoodEnding (unless_owed owed p (ending_of kind left (after_round kind p)))
    by later None = later
    by later (Some fault) = (refused_built fault, refused_no_usage fault)

plain_of : (a : Action) (kind : DbKind) (s : DbState) (g : Given) → IsPlain a (task_by a kind s g)
plain_of (Show prefix) kind s g = plain_by kind s g false (Show prefix)
plain_of (Get key) kind s g = plain_by kind s g (lacks_key (Get key)) (Get key)
plain_of (Set key value) kind s g = plain_by kind s g (lacks_key (Set key value)) (Set key value)
plain_of (Delete key) kind s g = plain_by kind s g (lacks_key (Delete key)) (Delete key)
plain_of Consistent kind s g = plain_by kind s g false Consistent
plain_of Repack kind s g = plain_by kind s g false Repack
plain_of Batch kind s g =
    let good = script_good kind s g.words g.script in
    record { none = script_silent kind s g.words g.script; may = omega (arith, script_silent kind s g.words g.script); built = inr good; no_usage = λ is. subst IsScriptNote is good }
plain_of (Exercise rounds) kind s g =
    let good = ending_good kind rounds (nothing_done s g.words) in
    record { none = refl; may = (refl, omega arith); built = good.0; no_usage = good.1 }

pub task_plain : (asked : Asked) (s : DbState) → IsPlain asked.action (task_for asked s)
task_plain asked s = plain_of asked.action asked.kind s asked.given

-- the task of an action that is no script
pub done_task : (a : Action) (kind : DbKind) (s : DbState) (g : Given) → CanAct a → task_of kind s g a ≡ task_by a kind s g
done_task (Show prefix) kind s g can = refl
done_task (Get key) kind s g can = refl
done_task (Set key value) kind s g can = refl
done_task (Delete key) kind s g can = refl
done_task Consistent kind s g can = refl
done_task Repack kind s g can = refl
done_task Batch kind s g can = absurd can
done_task (Exercise rounds) kind s g can = absurd can

pub opening_built : (fault : OpenFault) → IsBuilt (opening_note Host fault)
opening_built NoFile = tt
opening_built (TooBig size) = tt
opening_built NoRoom = tt
opening_built NoDisk = tt
opening_built (Flawed at flaw) = tt

pub opening_no_usage : (fault : OpenFault) → opening_note Host fault ≡ Usage → ⊥
opening_no_usage NoFile is = cc is
opening_no_usage (TooBig size) is = cc is
opening_no_usage NoRoom is = cc is
opening_no_usage NoDisk is = cc is
opening_no_usage (Flawed at flaw) is = cc is

-- a fault of the host is built
pub fault_built : (note : Note) → ((device : Device) → note ≡ DeviceFault device → device ≡ Host) → IsFault note → IsBuilt note
fault_built (DeviceFault device) host failed = subst (λ (x : Device). IsBuilt (DeviceFault x)) (sym (host device refl)) tt
fault_built note host failed = absurd failed

pub cut_off_built : (note : Note) → ((device : Device) → note ≡ DeviceFault device → device ≡ Host) → IsCutOff note → IsBuilt note
cut_off_built note host (inl failed) = fault_built note host failed
cut_off_built note host (inr memory) = subst IsBuilt (sym memory) tt

pub cut_off_no_usage : (note : Note) → IsCutOff note → note ≡ Usage → ⊥
cut_off_no_usage note (inl failed) is = subst IsFault is failed
cut_off_no_usage note (inr memory) is = cc (is, memory)
