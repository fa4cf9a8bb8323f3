-- The course of a script: how what was done so far leads to its end.
use Rattle.std.specs.Prelude.{◌≡◌, ◌⊎◌, ℕ, ◌+◌, ◌-◌, ◌≤◌, false, List, ◌++◌, length, Option, None, Some}
use Rattle.base_devices.specs.CrashImages.{Image, LeavesOnly}
use Rattle.base_devices.specs.Frames.{KeepsCounts}
use Rattle.base_notes.specs.declared.note.Note.{Note}
use Rattle.db_core.specs.Sessions.{DbKind, DbState}
use Rattle.db_tool.specs.Doing.{ToolMoment, IsStated}
use Rattle.db_tool.specs.Printing.{PrintsSome, PrintMoment}
use Rattle.db_tool.specs.Tasks.{Task, KeepsPrefix, words_after}
use Rattle.db_tool.specs.ToolNotes.{IsFault, IsCutOff}
use Rattle.rand_core.specs.Stream.{Stream}
use Rattle.db_script.specs.Lines.{lines_of}
use Rattle.db_script.specs.Moments.{Stands, KeepsFew}
use Rattle.db_script.specs.Reading.{ScriptState, to_come}
use Rattle.db_script.specs.Scripts.{Progress, Ending, ending_of, joined, task_of_ending}
use Rattle.db_script.specs.Steps.{LineMoment, JoinsOutput, EndsWhole}

-- a script, what its source has left where it shows that, and the random words to come
pub record ToRead : Type 0 where
  pub script : ScriptState
  pub left : Option (List ℕ)
  pub words : Stream

abbrev pub to_read : ScriptState → Option (List ℕ) → Stream → ToRead
to_read script left words = record { script = script; left = left; words = words }

-- a script and what it is done over, at one moment
pub record ScriptMoment : Type 1 where
  pub reads : ToRead
  pub line : LineMoment

abbrev pub script_over : ToRead → LineMoment → ScriptMoment
script_over reads line = record { reads = reads; line = line }

-- this is what the lines so far have come to
pub record IsAt (p : Progress) (m : ScriptMoment) : Type 0 where
  pub lines : p.lines ≡ m.reads.script.lines
  pub size : p.size ≡ m.reads.script.size
  pub session : p.session ≡ m.line.session
  pub words : p.words ≡ m.reads.words

-- The image opens to the map committed by the lines so far, or by one more where that may be; and no more is printed than
-- their replies.
pub record IsLeft (kind : DbKind) (p : Progress) (e : Ending) (MayBe : Progress → Type 0) (old : PrintMoment) (c : Image) (n : ℕ) : Type 0 where
  pub reached : Progress
  pub rest : List (List ℕ)
  pub leads : ending_of kind reached rest ≡ e
  pub which : (reached ≡ p) ⊎ MayBe reached
  pub stands : (start : DbState) → Stands start p → Stands start reached
  pub opens : kind.opens c reached.session.committed
  pub reply : List ℕ
  pub replies : joined reached.replies ≡ joined p.replies ++ reply
  pub within : n ≤ old.host.disk.mark + length (old.held ++ reply)

-- at each moment meanwhile
pub record LeavesNext (kind : DbKind) (p : Progress) (e : Ending) (MayBe : Progress → Type 0) (old new : ScriptMoment) : Type 0 where
  pub later : old.line.output.host.disk.mark ≤ new.line.output.host.disk.mark
  pub each : LeavesOnly old.line.output.host.disk new.line.output.host.disk
      (λ c n. (old.line.output.host.disk.mark ≤ n) × (n ≤ new.line.output.host.disk.mark) × IsLeft kind p e MayBe old.line.output c n)

-- One more line was done: what it came to leads to the same end, and its reply joined what is gathered.
pub record NextDone (kind : DbKind) (p : Progress) (e : Ending) (old new : ScriptMoment) : Type 0 where
  pub left : List ℕ
  pub shown : new.reads.left ≡ Some left
  pub next : Progress
  pub leads : ending_of kind next (lines_of (to_come new.reads.script left)) ≡ e
  pub at : IsAt next new
  pub reply : List ℕ
  pub replies : joined next.replies ≡ joined p.replies ++ reply
  pub output : JoinsOutput reply old.line.output new.line.output
  pub words : (start : Stream) → p.words ≡ words_after p.drawn start → next.words ≡ words_after next.drawn start
  pub stands : (start : DbState) → Stands start p → Stands start next
  pub more : length p.transactions ≤ length next.transactions
  pub moments : LeavesNext kind p e (λ q. q ≡ next) old new
  pub idle : kind.works_in_place ≡ false → length next.transactions ≡ 0 → KeepsCounts old.line.output.host.disk new.line.output.host.disk

-- the stated end: no line is done besides these, and all that was gathered is printed
pub record EndsStated (p : Progress) (e : Ending) (old new : ScriptMoment) (note : Note) : Type 0 where
  pub ends : note ≡ e.note
  pub done : e.done ≡ p
  pub whole : EndsWhole old.line new.line
  pub words : (start : Stream) → p.words ≡ words_after p.drawn start → new.reads.words ≡ words_after e.drawn start

-- so many random words were drawn at most
pub record DrawsFew (most : ℕ) (old new : Stream) : Type 0 where
  pub count : ℕ
  pub drawn : new ≡ words_after count old
  pub within : count ≤ most

-- The script ended: as stated, or it was cut off, perhaps within the next line's reply.
pub record NextEnds (kind : DbKind) (p : Progress) (e : Ending) (old new : ScriptMoment) (note : Note) : Type 0 where
  pub reached : Progress
  pub rest : List (List ℕ)
  pub leads : ending_of kind reached rest ≡ e
  pub reply : List ℕ
  pub replies : joined reached.replies ≡ joined p.replies ++ reply
  pub prints : PrintsSome (old.line.output.held ++ reply) old.line.output.host new.line.output.host
  pub stated : IsCutOff note ⊎ EndsStated p e old new note
  pub moments : LeavesNext kind p e (λ _. IsFault note) old new
  pub whole : (IsFault note → ⊥) → EndsWhole old.line new.line
  pub draws : (start : Stream) → p.words ≡ words_after p.drawn start → DrawsFew e.drawn start new.reads.words
  pub idle : kind.works_in_place ≡ false → (IsFault note → ⊥) → KeepsCounts old.line.output.host.disk new.line.output.host.disk

abbrev pub DoesNext : DbKind → Progress → Ending → ScriptMoment → ScriptMoment → Option Note → Type 0
DoesNext kind p e old new None = NextDone kind p e old new
DoesNext kind p e old new (Some note) = NextEnds kind p e old new note

-- The next line is done, or the script ends, whatever it came to so far.
abbrev pub GoesOnFrom : DbKind → ScriptMoment → ScriptMoment → Option Note → Type 0
GoesOnFrom kind old new result =
    (left : List ℕ) → old.reads.left ≡ Some left → (p : Progress) → IsAt p old
    → DoesNext kind p (ending_of kind p (lines_of (to_come old.reads.script left))) old new result

-- ---- a whole script

-- What was done so far leads to this end, and its replies were printed or are gathered. At each moment since the start the
-- image opens to the map after some first of its transactions, those acknowledged by then among them.
pub record Leads (kind : DbKind) (e : Ending) (words : Stream) (start : LineMoment) (m : ScriptMoment) : Type 0 where
  pub left : List ℕ
  pub shown : m.reads.left ≡ Some left
  pub done : Progress
  pub leads : ending_of kind done (lines_of (to_come m.reads.script left)) ≡ e
  pub at : IsAt done m
  pub output : JoinsOutput (joined done.replies) start.output m.line.output
  pub drawn : done.words ≡ words_after done.drawn words
  pub stands : Stands start.session done
  pub later : start.output.host.disk.mark ≤ m.line.output.host.disk.mark
  pub moments : LeavesOnly start.output.host.disk m.line.output.host.disk
      (λ c n. (start.output.host.disk.mark ≤ n) × (n ≤ m.line.output.host.disk.mark)
      × KeepsFew kind (task_of_ending e) start.session (length done.transactions) (n - start.output.host.disk.mark) c)
  pub idle : kind.works_in_place ≡ false → length done.transactions ≡ 0 → KeepsCounts start.output.host.disk m.line.output.host.disk

-- The stated end was reached unless the script was cut off, and at any end a prefix of the stated output was printed.
pub record EndsAsStated (task : Task) (old new : ToolMoment) (note : Note) : Type 0 where
  pub stated : IsCutOff note ⊎ IsStated task old new note
  pub prints : PrintsSome task.output old.host new.host

-- At each moment a crash leaves the map after some first of the task's transactions, those acknowledged by what is printed
-- then among them, and none in part.
abbrev pub KeepsPrefixes : DbKind → Task → ToolMoment → ToolMoment → Type 0
KeepsPrefixes kind task old new = LeavesOnly old.host.disk new.host.disk
    (λ c n. (old.host.disk.mark ≤ n) × (n ≤ new.host.disk.mark) × KeepsPrefix kind task old.session.committed (n - old.host.disk.mark) c)
