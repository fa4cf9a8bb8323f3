-- A line of a script as it is done, and how the script ends there: the session, and what is gathered and printed.
use Rattle.std.specs.Option.{option_map}
use Rattle.std.specs.Prelude.{◌≡◌, ◌⊎◌, ℕ, List, [], ◌++◌, Option, None, Some, if◌then◌else◌}
use Rattle.base_notes.specs.declared.note.Device.TheVariants.{Host}
use Rattle.base_notes.specs.declared.note.Note.{Note}
use Rattle.base_notes.specs.declared.note.Note.TheVariants.{BadLine}
use Rattle.db_core.specs.Sessions.{DbKind, DbState, aborted}
use Rattle.db_tool.specs.Printing.{PrintsSome, Printed, PrintMoment}
use Rattle.db_tool.specs.ToolNotes.{IsFault, IsCutOff, change_note}
use Rattle.db_script.specs.Lines.{Command}
use Rattle.db_script.specs.Replies.{is_placed, change_of, owed_by, reply_of, session_after}

-- a line that is to be done: its number, the random word that it may draw, and what it asks for
pub record Asked : Type 0 where
  pub number : ℕ
  pub word : ℕ
  pub command : Command

abbrev pub asked : ℕ → ℕ → Command → Asked
asked number word command = record { number = number; word = word; command = command }

-- a session, and the host with what is gathered for its output
pub record LineMoment : Type 1 where
  pub session : DbState
  pub output : PrintMoment

abbrev pub gathered : DbState → PrintMoment → LineMoment
gathered session output = record { session = session; output = output }

-- the note with which the script ends at this line, or none where the line is done
abbrev pub line_note : DbKind → DbState → Asked → Option Note
line_note kind s a =
    if is_placed s.in_transaction a.command then option_map (change_note Host) (owed_by kind s (change_of a.word a.command))
    else Some (BadLine a.number)

-- Of what was gathered and of these bytes a prefix was printed, and the others are gathered.
pub record JoinsOutput (bytes : List ℕ) (old new : PrintMoment) : Type 0 where
  pub some : PrintsSome (old.held ++ bytes) old.host new.host
  pub rest : new.held ≡ some.unprinted

-- The line was done, and its reply joined what is gathered.
pub record LineDone (kind : DbKind) (a : Asked) (old new : LineMoment) : Type 0 where
  pub stated : line_note kind old.session a ≡ None
  pub session : new.session ≡ session_after kind a.word old.session a.command
  pub replies : JoinsOutput (reply_of old.session a.command) old.output new.output

-- Of what was gathered a prefix was printed, or the line was done and a prefix of it and of the reply was.
abbrev pub PrintsPart : DbKind → Asked → LineMoment → LineMoment → Type 0
PrintsPart kind a old new =
    PrintsSome old.output.held old.output.host new.output.host
    ⊎ ((line_note kind old.session a ≡ None) × PrintsSome (old.output.held ++ reply_of old.session a.command) old.output.host new.output.host)

-- The line was not done, or its reply was cut off: the note is the stated one, unless it was cut off.
pub record LineEnds (kind : DbKind) (a : Asked) (old new : LineMoment) (note : Note) : Type 0 where
  pub stated : IsCutOff note ⊎ (line_note kind old.session a ≡ Some note)
  pub prints : PrintsPart kind a old new
  -- where no device failed, nothing was printed, and session and what is gathered are as they were
  pub silent : (IsFault note → ⊥) → Printed [] old.output.host new.output.host
  pub kept : (IsFault note → ⊥) → (new.session ≡ old.session) × (new.output.held ≡ old.output.held)

abbrev pub DoesOne : DbKind → Asked → LineMoment → LineMoment → Option Note → Type 0
DoesOne kind a old new None = LineDone kind a old new
DoesOne kind a old new (Some note) = LineEnds kind a old new note

-- all that was gathered is printed, and an open transaction is given up
pub record EndsWhole (old new : LineMoment) : Type 0 where
  pub printed : Printed old.output.held old.output.host new.output.host
  pub session : new.session ≡ aborted old.session

-- The script ended at the line.
pub record EndsAtLine (kind : DbKind) (a : Asked) (old new : LineMoment) (note : Note) : Type 0 where
  pub stated : IsCutOff note ⊎ (line_note kind old.session a ≡ Some note)
  pub prints : PrintsPart kind a old new
  pub whole : (IsFault note → ⊥) → EndsWhole old new

abbrev pub DoesOrEnds : DbKind → Asked → LineMoment → LineMoment → Option Note → Type 0
DoesOrEnds kind a old new None = LineDone kind a old new
DoesOrEnds kind a old new (Some note) = EndsAtLine kind a old new note
