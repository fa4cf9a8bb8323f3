-- A refused line, and the note with which the script then ends.
use Rattle.std.proofs.Common.{◌≡◌, ◌∙◌, ◌⊎◌, ⊎_elim, ℕ, Bool, true, false, List, Option, Some, None, Err, length, refl, sym, ap, subst}
use Rattle.std.specs.Option.{option_or}
use Rattle.std.specs.Prelude.{is_some, nat_lt, ◌==◌, if◌then◌else◌}
use Rattle.base_bytes.specs.OrderedMap.{value_at}
use Rattle.base_bytes.specs.declared.change.Change.{Change}
use Rattle.base_bytes.specs.declared.change.Change.TheVariants.{Put, Del}
use Rattle.base_bytes.specs.declared.limits.TheConstants.{KEY_LIMIT, VALUE_LIMIT}
use Rattle.base_notes.specs.declared.note.Device.TheVariants.{Host}
use Rattle.base_notes.specs.declared.note.Note.{Note}
use Rattle.db_core.specs.Refusals.{pair_refusal, size_refusal, change_refusal}
use Rattle.db_core.specs.Sessions.{DbKind, DbState, DbMoment, begun}
use Rattle.db_core.specs.declared.fault.DbFault.{DbFault}
use Rattle.db_core.specs.declared.fault.DbFault.TheVariants.{Broken, KeyEmpty, KeyTooLong, ValueTooLong, Full, NoMemory, DiskFault}
use Rattle.db_tool.specs.ToolNotes.{IsFault, change_note}
use Rattle.db_script.specs.Batch.{GoesWell}
use Rattle.db_script.specs.Doing.{DoesLine}
use Rattle.db_script.specs.Lines.{Command}
use Rattle.db_script.specs.Replies.{change_of, owed_by}

-- ---- a session that is not broken owes no `Broken`

size_not_broken : (kind : DbKind) (size : ℕ) → size_refusal kind size ≡ Some Broken → ⊥
size_not_broken kind size is = by (nat_lt kind.limit size) is
  where
    by : (b : Bool) → (if b then Some (Full size) else None) ≡ Some Broken → ⊥
    by true is = cc is
    by false is = cc is

pair_not_broken : (a b c : Bool) (key value : List ℕ) (later : Option DbFault) → (later ≡ Some Broken → ⊥)
    → option_or (if a then Some KeyEmpty else (if b then Some (KeyTooLong (length key)) else (if c then Some (ValueTooLong (length value)) else None))) later ≡ Some Broken → ⊥
pair_not_broken true b c key value later not is = cc is
pair_not_broken false true c key value later not is = cc is
pair_not_broken false false true key value later not is = cc is
pair_not_broken false false false key value later not is = not is

change_not_broken : (kind : DbKind) (s : DbState) (change : Change) → s.is_broken ≡ false → change_refusal kind s change ≡ Some Broken → ⊥
change_not_broken kind s (Put word key value) sound is =
    let size = kind.size_after s.seen s.load (Put word key value) in
    let rest = option_or (pair_refusal key value) (size_refusal kind size) in
    pair_not_broken (length key == 0) (nat_lt KEY_LIMIT (length key)) (nat_lt VALUE_LIMIT (length value)) key value (size_refusal kind size) (size_not_broken kind size)
    (sym (ap (λ (b : Bool). if b then Some Broken else rest) sound) ∙ is)
change_not_broken kind s (Del key) sound is =
    let size = kind.size_after s.seen s.load (Del key) in
    let rest = if is_some (value_at s.seen key) then size_refusal kind size else None in
    by (is_some (value_at s.seen key)) (sym (ap (λ (b : Bool). if b then Some Broken else rest) sound) ∙ is)
  where
    by : (b : Bool) → (if b then size_refusal kind (kind.size_after s.seen s.load (Del key)) else None) ≡ Some Broken → ⊥
    by true is = size_not_broken kind (kind.size_after s.seen s.load (Del key)) is
    by false is = cc is

pub not_broken : (kind : DbKind) (s : DbState) (change : Option Change) → s.is_broken ≡ false → owed_by kind s change ≡ Some Broken → ⊥
not_broken kind s None sound is = cc is
not_broken kind s (Some change) sound is = change_not_broken kind (if s.in_transaction then s else begun s) change (by s.in_transaction) is
  where
    by : (b : Bool) → (if b then s else begun s).is_broken ≡ false
    by true = sound
    by false = sound

-- ---- the note

other_fault : (kind : DbKind) (old new : DbMoment) (note : Note) → (IsFault note → ⊥) → new.session.is_broken ≡ false → new.disk.faults ≡ old.disk.faults
    → (kind.works_in_place ≡ true → new.disk.publishes ≡ old.disk.publishes) → GoesWell kind old new note
other_fault kind old new note no_fault sound same in_place = record {
  faults = record { rose = λ is. absurd (no_fault (subst IsFault (sym is) tt)); stood = λ _. same };
  sound = λ _. sound;
  in_place = in_place;
}

pub goes_on_well : (kind : DbKind) (word : ℕ) (command : Command) (old new : DbMoment) (fault : DbFault) → old.session.is_broken ≡ false → DoesLine {T = Unit {0}} kind word command old new (Err fault)
    → GoesWell kind old new (change_note Host fault)
goes_on_well kind word command old new fault sound does = by fault does
  where
    whole : new.session ≡ old.session → new.session.is_broken ≡ false
    whole same = ap (λ (s : DbState). s.is_broken) same ∙ sound

    still : ⊥ ⊎ (new.disk.faults ≡ old.disk.faults) → new.disk.faults ≡ old.disk.faults
    still either = ⊎_elim (λ never. absurd never) (λ same. same) either

    by : (fault : DbFault) → DoesLine {T = Unit {0}} kind word command old new (Err fault) → GoesWell kind old new (change_note Host fault)
    by Broken d = absurd (not_broken kind old.session (change_of word command) sound d.refused)
    by KeyEmpty d = other_fault kind old new _ (λ is. is) (whole d.after) (still d.cause.stood) d.in_place
    by (KeyTooLong n) d = other_fault kind old new _ (λ is. is) (whole d.after) (still d.cause.stood) d.in_place
    by (ValueTooLong n) d = other_fault kind old new _ (λ is. is) (whole d.after) (still d.cause.stood) d.in_place
    by (Full n) d = other_fault kind old new _ (λ is. is) (whole d.after) (still d.cause.stood) d.in_place
    by NoMemory d = other_fault kind old new _ (λ is. is) (whole d.after) (still d.cause.stood) d.in_place
    by DiskFault d = record {
      faults = record { rose = λ _. d.cause.rose tt; stood = λ not. absurd (not refl) };
      sound = λ no. absurd (no tt);
      in_place = d.in_place;
    }
