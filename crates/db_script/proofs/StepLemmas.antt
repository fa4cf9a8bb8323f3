-- A line as one step of its script.
use Rattle.std.proofs.Common.{◌≡◌, ◌∙◌, ◌⊎◌, inl, inr, ⊎_elim, ℕ, Bool, true, false, List, [], ◌++◌, Option, Some, None, Result, Ok, Err, refl, sym, ap, subst}
use Rattle.std.specs.Option.{option_map}
use Rattle.std.specs.Prelude.{if◌then◌else◌}
use Rattle.base_bytes.specs.declared.change.Change.TheVariants.{Put, Del}
use Rattle.base_devices.specs.CrashImages.{Image, GoesOn}
use Rattle.base_devices.specs.Frames.{KeepsCounts}
use Rattle.base_devices.specs.HostCalls.{HostMoment}
use Rattle.base_notes.specs.declared.note.Device.TheVariants.{Host}
use Rattle.base_notes.specs.declared.note.Note.{Note}
use Rattle.base_notes.specs.declared.note.Note.TheVariants.{Done, Answer, Usage, BadLine, Absent, Limit, Exists, DeviceFault, Memory, Damaged}
use Rattle.db_core.specs.Calls.{OnDisk}
use Rattle.db_core.specs.Refusals.{IsAfterRefusal}
use Rattle.db_core.specs.Sessions.{DbKind, DbState, over, begun, change_after, committed, aborted}
use Rattle.db_core.specs.WholeTransactions.{MayEnd}
use Rattle.db_core.specs.declared.fault.DbFault.{DbFault}
use Rattle.db_core.specs.declared.fault.DbFault.TheVariants.{Broken, KeyEmpty, KeyTooLong, ValueTooLong, Full, NoMemory, DiskFault}
use Rattle.db_tool.specs.Printing.{Printed, PrintsSome, Prints}
use Rattle.db_tool.specs.ToolNotes.{IsFault, IsCutOff, change_note}
use Rattle.db_tool.proofs.PrintLemmas.{printed_then, some_none}
use Rattle.db_script.specs.Doing.{DoesLine, OpensWith}
use Rattle.db_script.specs.Moments.{MayBeDone, LeavesLine}
use Rattle.db_script.proofs.MomentLemmas.{line_given_up, line_replied}
use Rattle.db_script.specs.Lines.{Command, begin, commit, abort, show, get, set, delete}
use Rattle.db_script.specs.Replies.{is_placed, change_of, commits, owed_by, reply_in, reply_of, session_after}
use Rattle.db_script.specs.Steps.{Asked, LineMoment, line_note, LineDone, LineEnds, EndsWhole, EndsAtLine}

-- the reply looks at the map that was seen before the line
pub same_reply : (kind : DbKind) (word : ℕ) (s : DbState) (command : Command) → reply_in s.in_transaction (session_after kind word s command).seen command ≡ reply_of s command
same_reply kind word s begin = refl
same_reply kind word s commit = refl
same_reply kind word s abort = refl
same_reply kind word s (show prefix) = refl
same_reply kind word s (get key) = refl
same_reply kind word s (set key value) = refl
same_reply kind word s (delete key) = refl

-- a line that is done leaves a session whole
pub still_sound : (kind : DbKind) (word : ℕ) (s : DbState) (command : Command) → (session_after kind word s command).is_broken ≡ s.is_broken
still_sound kind word s begin = refl
still_sound kind word s commit = refl
still_sound kind word s abort = refl
still_sound kind word s (show prefix) = refl
still_sound kind word s (get key) = refl
still_sound kind word s (set key value) = by s.in_transaction
  where
    by : (b : Bool) → (if b then change_after kind s (Put word key value) else committed kind (change_after kind (begun s) (Put word key value))).is_broken ≡ s.is_broken
    by true = refl
    by false = refl
still_sound kind word s (delete key) = by s.in_transaction
  where
    by : (b : Bool) → (if b then change_after kind s (Del key) else committed kind (change_after kind (begun s) (Del key))).is_broken ≡ s.is_broken
    by true = refl
    by false = refl

-- what is printed behind a call that prints nothing
pub some_behind : (m n o : HostMoment) (output all : List ℕ) → output ≡ all → Printed [] m n → PrintsSome output n o → PrintsSome all m o
some_behind m n o output all is nothing some = record {
  printed = some.printed;
  unprinted = some.unprinted;
  whole = some.whole ∙ is;
  grew = printed_then m n o [] some.printed nothing some.grew;
}

-- a line in its place ends with the refusal that its change owes
pub placed_note : (kind : DbKind) (s : DbState) (a : Asked) → is_placed s.in_transaction a.command ≡ true → line_note kind s a ≡ option_map (change_note Host) (owed_by kind s (change_of a.word a.command))
placed_note kind s a placed = ap (λ (b : Bool). if b then option_map (change_note Host) (owed_by kind s (change_of a.word a.command)) else Some (BadLine a.number)) placed

pub line_refused : (kind : DbKind) (a : Asked) (old new : LineMoment) (fault : DbFault) → is_placed old.session.in_transaction a.command ≡ true
    → MayEnd (owed_by kind old.session (change_of a.word a.command)) fault → IsAfterRefusal fault old.session new.session → new.output.held ≡ old.output.held
    → Printed [] old.output.host new.output.host → LineEnds kind a old new (change_note Host fault)
line_refused kind a old new fault placed may after held nothing = by fault may after
  where
    stated : (fault : DbFault) → owed_by kind old.session (change_of a.word a.command) ≡ Some fault → line_note kind old.session a ≡ Some (change_note Host fault)
    stated fault owed = placed_note kind old.session a placed ∙ ap (option_map (change_note Host)) owed

    ended : (note : Note) → IsCutOff note ⊎ (line_note kind old.session a ≡ Some note) → ((IsFault note → ⊥) → new.session ≡ old.session) → LineEnds kind a old new note
    ended note is same = record {
      stated = is;
      prints = inl (some_none old.output.host new.output.host old.output.held nothing);
      silent = λ _. nothing;
      kept = λ whole. (same whole, held);
    }

    by : (fault : DbFault) → MayEnd (owed_by kind old.session (change_of a.word a.command)) fault → IsAfterRefusal fault old.session new.session → LineEnds kind a old new (change_note Host fault)
    by Broken may after = ended (change_note Host Broken) (inl (inl tt)) (λ _. after)
    by KeyEmpty may after = ended (change_note Host KeyEmpty) (inr (stated KeyEmpty may)) (λ _. after)
    by (KeyTooLong n) may after = ended (change_note Host (KeyTooLong n)) (inr (stated (KeyTooLong n) may)) (λ _. after)
    by (ValueTooLong n) may after = ended (change_note Host (ValueTooLong n)) (inr (stated (ValueTooLong n) may)) (λ _. after)
    by (Full n) may after = ended (change_note Host (Full n)) (inr (stated (Full n) may)) (λ _. after)
    by NoMemory may after = ended (change_note Host NoMemory) (inl (inr refl)) (λ _. after)
    by DiskFault may after = ended (change_note Host DiskFault) (inl (inl tt)) (λ whole. absurd (whole tt))

-- The line was acted on, and of its reply this much was printed.
module _ (kind : DbKind) (a : Asked) (old mid new : LineMoment) (in_one : Bool) (one : in_one ≡ old.session.in_transaction) (placed : is_placed old.session.in_transaction a.command ≡ true)
    (owed : owed_by kind old.session (change_of a.word a.command) ≡ None) (after : mid.session ≡ session_after kind a.word old.session a.command)
    (held : mid.output.held ≡ old.output.held) (nothing : Printed [] old.output.host mid.output.host) where
  is_done : line_note kind old.session a ≡ None
  is_done = placed_note kind old.session a placed ∙ ap (option_map (change_note Host)) owed

  abbrev pub reply : List ℕ
  reply = reply_in in_one mid.session.seen a.command

  joined : mid.output.held ++ reply ≡ old.output.held ++ reply_of old.session a.command
  joined = ap (λ (l : List ℕ). l ++ reply) held
      ∙ ap (λ (l : List ℕ). old.output.held ++ l) (ap (λ (b : Bool). reply_in b mid.session.seen a.command) one ∙ ap (λ (s : DbState). reply_in old.session.in_transaction s.seen a.command) after ∙ same_reply kind a.word old.session a.command)

  pub line_done : {T E : Type 0} (x : T) → new.session ≡ mid.session → Prints {E = E} reply mid.output new.output (Ok x) → LineDone kind a old new
  unfolding some_behind
  line_done x same prints = record {
    stated = is_done;
    session = same ∙ after;
    replies = record {
      some = some_behind old.output.host mid.output.host new.output.host _ _ joined nothing prints.some;
      rest = prints.rest;
    };
  }

  pub line_cut : {T E : Type 0} (fault : E) (note : Note) → IsFault note → Prints {T = T} reply mid.output new.output (Err fault) → LineEnds kind a old new note
  line_cut fault note cut prints = record {
    stated = inl (inl cut);
    prints = inr (is_done, some_behind old.output.host mid.output.host new.output.host _ _ joined nothing prints.some);
    silent = λ whole. absurd (whole cut);
    kept = λ whole. absurd (whole cut);
  }

  pub line_leaves : {T E : Type 0} (result : Option Note) (r : Result T E) → MayBeDone result → old.session.is_broken ≡ false
      → OnDisk old.session (OpensWith kind old.session (session_after kind a.word old.session a.command)) old.output.host.disk mid.output.host.disk
      → (kind.works_in_place ≡ false → commits old.session.in_transaction a.command ≡ false → KeepsCounts old.output.host.disk mid.output.host.disk)
      → GoesOn old.output.host.disk mid.output.host.disk → GoesOn mid.output.host.disk new.output.host.disk
      → ((c : Image) → mid.output.host.disk.leaves c → kind.opens c mid.session.committed) → Prints reply mid.output new.output r → LeavesLine kind a old new result
  line_leaves result r may sound disk idle om mn opens prints = line_replied kind a old mid new reply result r may sound is_done after joined nothing disk idle om mn opens prints

pub line_refused_leaves : (kind : DbKind) (a : Asked) (old new : LineMoment) (fault : DbFault) → is_placed old.session.in_transaction a.command ≡ true → old.session.is_broken ≡ false
    → DoesLine {T = Unit {0}} kind a.word a.command (over old.output.host.disk old.session) (over new.output.host.disk new.session) (Err fault) → LeavesLine kind a old new (Some (change_note Host fault))
line_refused_leaves kind a old new fault placed sound does =
    line_given_up kind a old new fault sound (λ owed. placed_note kind old.session a placed ∙ ap (option_map (change_note Host)) owed) does

-- ---- the end

pub failed_or_not : (note : Note) → IsFault note ⊎ (IsFault note → ⊥)
failed_or_not Done = inr (λ is. is)
failed_or_not Answer = inr (λ is. is)
failed_or_not Usage = inr (λ is. is)
failed_or_not (BadLine number) = inr (λ is. is)
failed_or_not Absent = inr (λ is. is)
failed_or_not (Limit limit number) = inr (λ is. is)
failed_or_not Exists = inr (λ is. is)
failed_or_not (DeviceFault device) = inl tt
failed_or_not Memory = inr (λ is. is)
failed_or_not (Damaged at flaw) = inr (λ is. is)

-- a line ended with this note, and then the script with that one
pub stops_at : (kind : DbKind) (a : Asked) (old mid new : LineMoment) (note result : Note) → LineEnds kind a old mid note
    → (IsFault note → (result ≡ note) × (new.output.host ≡ mid.output.host)) → ((IsFault result → ⊥) → result ≡ note)
    → PrintsSome mid.output.held mid.output.host new.output.host → ((IsFault result → ⊥) → EndsWhole mid new) → EndsAtLine kind a old new result
stops_at kind a old mid new note result ends failed same some whole = ⊎_elim cut calm (failed_or_not note)
  where
    stated : IsFault result ⊎ (IsFault result → ⊥) → IsCutOff result ⊎ (line_note kind old.session a ≡ Some result)
    stated (inl is) = inl (inl is)
    stated (inr sound) = subst (λ (n : Note). IsCutOff n ⊎ (line_note kind old.session a ≡ Some n)) (sym (same sound)) ends.stated

    cut : IsFault note → EndsAtLine kind a old new result
    cut is = record {
      stated = stated (failed_or_not result);
      prints = ⊎_elim
          (λ some. inl (subst (λ (h : HostMoment). PrintsSome old.output.held old.output.host h) (sym (failed is).1) some))
          (λ both. inr (both.0, subst (λ (h : HostMoment). PrintsSome (old.output.held ++ reply_of old.session a.command) old.output.host h) (sym (failed is).1) both.1))
          ends.prints;
      whole = λ sound. absurd (sound (subst IsFault (sym (failed is).0) is));
    }

    calm : (IsFault note → ⊥) → EndsAtLine kind a old new result
    calm sound = record {
      stated = stated (failed_or_not result);
      prints = inl (some_behind old.output.host mid.output.host new.output.host _ _ (ends.kept sound).1 (ends.silent sound) some);
      whole = λ well. record {
        printed = printed_then old.output.host mid.output.host new.output.host [] old.output.held (ends.silent sound)
            (subst (λ (l : List ℕ). Printed l mid.output.host new.output.host) (ends.kept sound).1 (whole well).printed);
        session = (whole well).session ∙ ap (λ (s : DbState). aborted s) (ends.kept sound).0;
      };
    }
