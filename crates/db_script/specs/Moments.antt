-- At each moment of a script: what is committed by the lines so far, and what a crash leaves while a line is done.
use Rattle.std.specs.Prelude.{◌≡◌, ◌⊎◌, ℕ, ◌+◌, ◌≤◌, false, List, [], ◌∷◌, ◌++◌, length, Option, None, Some, if◌then◌else◌}
use Rattle.base_bytes.specs.Transactions.{after_transaction, after_transactions}
use Rattle.base_devices.specs.CrashImages.{Image, LeavesOnly}
use Rattle.base_devices.specs.Frames.{KeepsCounts}
use Rattle.base_notes.specs.declared.note.Note.{Note}
use Rattle.db_core.specs.Sessions.{DbKind, DbState, aborted}
use Rattle.db_tool.specs.Tasks.{Task, KeepsPrefix}
use Rattle.db_tool.specs.ToolNotes.{IsFault}
use Rattle.db_script.specs.Replies.{commits, reply_of, session_after}
use Rattle.db_script.specs.Scripts.{Progress, Reply}
use Rattle.db_script.specs.Steps.{Asked, LineMoment, line_note}

-- ---- what is committed

-- how many of the replies say that a transaction is committed
unfoldable pub committing : List Reply → ℕ
committing [] = 0
committing (reply ∷ replies) = (if reply.commits then 1 else 0) + committing replies

-- From this session the lines so far came to their transactions, each with its reply, and to the changes of the open one.
pub record Stands (start : DbState) (p : Progress) : Type 0 where
  pub replied : committing p.replies ≡ length p.transactions
  pub committed : p.session.committed ≡ after_transactions start.committed p.transactions
  pub seen : p.session.seen ≡ after_transaction p.session.committed p.waiting
  pub outside : p.session.in_transaction ≡ false → p.waiting ≡ []
  -- where none is committed the session goes back to its start
  pub same : length p.transactions ≡ 0 → aborted p.session ≡ aborted start

-- The image opens to the map after the first few of the task's transactions, no more than these.
pub record KeepsFew (kind : DbKind) (task : Task) (start : DbState) (most printed : ℕ) (c : Image) : Type 0 where
  pub prefix : KeepsPrefix kind task start.committed printed c
  pub few : prefix.count ≤ most

-- ---- while a line is done

-- the line may have been done: it was, or a device failed
abbrev pub MayBeDone : Option Note → Type 0
MayBeDone None = Unit {0}
MayBeDone (Some note) = IsFault note

-- the image opens to the map committed before the line, and no more is printed than was gathered then
abbrev pub IsFromBefore : DbKind → LineMoment → Image → ℕ → Type 0
IsFromBefore kind old c n = kind.opens c old.session.committed × (n ≤ old.output.host.disk.mark + length old.output.held)

-- the image opens to the map committed by the line, which owes no note, and no more is printed than that and its reply
pub record IsFromAfter (kind : DbKind) (a : Asked) (old : LineMoment) (c : Image) (n : ℕ) : Type 0 where
  pub stated : line_note kind old.session a ≡ None
  pub opens : kind.opens c (session_after kind a.word old.session a.command).committed
  pub within : n ≤ old.output.host.disk.mark + length (old.output.held ++ reply_of old.session a.command)

-- nothing was committed: the line is no committing one, or it was not done and no device failed
abbrev pub CommitsNothing : Asked → LineMoment → Option Note → Type 0
CommitsNothing a old None = commits old.session.in_transaction a.command ≡ false
CommitsNothing a old (Some note) = IsFault note → ⊥

-- At each moment of a line the image is from before it, or from after it where it may be done.
pub record LeavesLine (kind : DbKind) (a : Asked) (old new : LineMoment) (result : Option Note) : Type 0 where
  pub later : old.output.host.disk.mark ≤ new.output.host.disk.mark
  pub each : LeavesOnly old.output.host.disk new.output.host.disk
      (λ c n. (old.output.host.disk.mark ≤ n) × (n ≤ new.output.host.disk.mark) × (IsFromBefore kind old c n ⊎ (MayBeDone result × IsFromAfter kind a old c n)))
  -- a file that is rewritten whole is begun only where a transaction is committed
  pub idle : kind.works_in_place ≡ false → CommitsNothing a old result → KeepsCounts old.output.host.disk new.output.host.disk
