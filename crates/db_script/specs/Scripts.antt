-- What a script comes to over a session at rest: the task that it is.
use Rattle.std.specs.Prelude.{ℕ, ◌+◌, ◌-◌, ◌≤◌, nat_lt, leb, Bool, false, List, [], ◌∷◌, ◌++◌, length, Option, Some, None, Result, Ok, Err, if◌then◌else◌}
use Rattle.base_bytes.specs.Transactions.{Transaction}
use Rattle.base_bytes.specs.declared.change.Change.{Change}
use Rattle.base_bytes.specs.declared.limits.TheConstants.{SCRIPT_LIMIT}
use Rattle.base_notes.specs.declared.note.Device.TheVariants.{Host}
use Rattle.base_notes.specs.declared.note.LimitName.TheVariants.{Script}
use Rattle.base_notes.specs.declared.note.Note.{Note}
use Rattle.base_notes.specs.declared.note.Note.TheVariants.{Done, BadLine, Limit}
use Rattle.db_core.specs.Sessions.{DbKind, DbState, aborted}
use Rattle.db_core.specs.declared.fault.DbFault.{DbFault}
use Rattle.db_tool.specs.Tasks.{Task}
use Rattle.db_tool.specs.ToolNotes.{change_note}
use Rattle.rand_core.specs.Stream.{Stream, next_u32}
use Rattle.db_script.specs.Fields.{before}
use Rattle.db_script.specs.Lines.{Command, set, lines_of, read_line}
use Rattle.db_script.specs.Replies.{is_placed, change_of, session_after, owed_by, reply_of, commits}

-- a reply, and whether it says that a transaction is committed
pub record Reply : Type 0 where
  pub text : List ℕ
  pub commits : Bool

-- What the lines so far have come to.
pub record Progress : Type 0 where
  -- how many they are, and how many bytes they have
  pub lines : ℕ
  pub size : ℕ
  pub session : DbState
  -- the random words to come, and how many were drawn
  pub words : Stream
  pub drawn : ℕ
  -- the transactions that are committed, and the changes of the open one
  pub transactions : List Transaction
  pub waiting : List Change
  pub replies : List Reply

abbrev pub nothing_done : DbState → Stream → Progress
nothing_done s words = record { lines = 0; size = 0; session = s; words = words; drawn = 0; transactions = []; waiting = []; replies = [] }

-- ---- one line

-- a pair that is to be put takes one random word
abbrev pub words_of : Command → ℕ
words_of (set key value) = 1
words_of command = 0

abbrev pub words_behind : Command → Stream → Stream
words_behind (set key value) words = (next_u32 words).1
words_behind command words = words

abbrev pub joined_to : List Change → Option Change → List Change
joined_to changes None = changes
joined_to changes (Some change) = changes ++ (change ∷ [])

abbrev pub word_of : Progress → ℕ
word_of p = (next_u32 p.words).0

-- the changes of the open transaction once the line is done: those that it commits, if it does
abbrev pub waiting_after : Progress → Command → List Change
waiting_after p command = if p.session.in_transaction then joined_to p.waiting (change_of (word_of p) command) else joined_to [] (change_of (word_of p) command)

-- the line is done
abbrev pub after_line : DbKind → Progress → List ℕ → Command → Progress
after_line kind p line command =
    let closes = commits p.session.in_transaction command in
    let changes = waiting_after p command in
    let after = session_after kind (word_of p) p.session command in
    record {
      lines = p.lines + 1;
      size = p.size + length line;
      session = after;
      words = words_behind command p.words;
      drawn = p.drawn + words_of command;
      transactions = if closes then p.transactions ++ (changes ∷ []) else p.transactions;
      waiting = if after.in_transaction then changes else [];
      replies = p.replies ++ (record { text = reply_of p.session command; commits = closes } ∷ []);
    }

-- ---- how a script ends

-- after these lines, with this note, when so many random words were drawn
pub record Ending : Type 0 where
  pub done : Progress
  pub note : Note
  pub drawn : ℕ

abbrev pub ends : Progress → Note → Ending
ends p note = record { done = p; note = note; drawn = p.drawn }

-- a change that is refused has drawn its word
abbrev pub unless_owed : Option DbFault → Progress → Command → Progress → Result Progress Ending
unless_owed None p command after = Ok after
unless_owed (Some fault) p command after = Err (record { done = p; note = change_note Host fault; drawn = p.drawn + words_of command })

-- the command is done, or its line is wrong, or its change is refused
abbrev pub do_command : DbKind → Progress → List ℕ → Option Command → Result Progress Ending
do_command kind p line None = Err (ends p (BadLine (p.lines + 1)))
do_command kind p line (Some command) =
    if is_placed p.session.in_transaction command then unless_owed (owed_by kind p.session (change_of (word_of p) command)) p command (after_line kind p line command)
    else Err (ends p (BadLine (p.lines + 1)))

-- a line that holds the byte behind the last one that a script may have is not looked at
abbrev pub do_line : DbKind → Progress → List ℕ → Result Progress Ending
do_line kind p line =
    if nat_lt SCRIPT_LIMIT (p.size + length line) then Err (ends p (Limit Script (SCRIPT_LIMIT + 1)))
    else do_command kind p line (read_line (before 10 line))

abbrev pub goes_on : (Progress → Ending) → Result Progress Ending → Ending
goes_on later (Ok p) = later p
goes_on later (Err ending) = ending

-- the lines are done one by one; a script that ends in a transaction is wrong at the line after its last
unfoldable pub ending_of : DbKind → Progress → List (List ℕ) → Ending
ending_of kind p [] = ends p (if p.session.in_transaction then BadLine (p.lines + 1) else Done)
ending_of kind p (line ∷ lines) = goes_on (λ q. ending_of kind q lines) (do_line kind p line)

-- ---- its task

unfoldable pub joined : List Reply → List ℕ
joined [] = []
joined (reply ∷ replies) = reply.text ++ joined replies

-- How many committing lines have their reply within so many first bytes. It counts by positions, and looks at no text.
unfoldable pub acknowledged : List Reply → ℕ → ℕ
acknowledged [] printed = 0
acknowledged (reply ∷ replies) printed =
    if leb (length reply.text) printed then (if reply.commits then 1 else 0) + acknowledged replies (printed - length reply.text) else 0

abbrev pub task_of_ending : Ending → Task
task_of_ending e = record {
  transactions = e.done.transactions;
  acknowledged = acknowledged e.done.replies;
  output = joined e.done.replies;
  note = e.note;
  end = aborted e.done.session;
  words = e.drawn;
  only_prints = false;
  may_stand = λ printed stand. acknowledged e.done.replies printed ≤ stand;
}

abbrev pub script_task : DbKind → DbState → Stream → List ℕ → Task
script_task kind s words script = task_of_ending (ending_of kind (nothing_done s words) (lines_of script))
