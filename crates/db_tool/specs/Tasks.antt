-- The task that an action is over a map: its transactions, its output, its note and its end.
use Rattle.std.specs.Prelude.{◌≡◌, ℕ, zero, suc, ◌≤◌, Bool, true, false, List, [], ◌∷◌, Option, Some, None, is_some, codes, length, if◌then◌else◌}
use Rattle.base_bytes.specs.OrderedMap.{Map, value_at, with_prefix}
use Rattle.base_bytes.specs.Transactions.{Transaction, after_first}
use Rattle.base_bytes.specs.declared.change.Change.{Change}
use Rattle.base_bytes.specs.declared.change.Change.TheVariants.{Put, Del}
use Rattle.base_devices.specs.CrashImages.{Image}
use Rattle.base_notes.specs.declared.action.Action.{Action}
use Rattle.base_notes.specs.declared.action.Action.TheVariants.{Show, Get, Set, Delete, Consistent}
use Rattle.base_notes.specs.declared.note.Device.TheVariants.{Host}
use Rattle.base_notes.specs.declared.note.Note.{Note}
use Rattle.base_notes.specs.declared.note.Note.TheVariants.{Done, Answer, BadLine}
use Rattle.db_core.specs.Sessions.{DbKind, DbState}
use Rattle.db_core.specs.WholeTransactions.{run_after, run_refusal}
use Rattle.db_core.specs.declared.fault.DbFault.{DbFault}
use Rattle.db_tool.specs.Printing.{value_line, shown}
use Rattle.db_tool.specs.ToolNotes.{change_note}
use Rattle.rand_core.specs.Stream.{Stream, next_u32}

-- What a run is given besides its words and its files.
pub record Given : Type 0 where
  -- the random words to come
  pub words : Stream
  -- standard input
  pub script : List ℕ

abbrev pub given : Stream → List ℕ → Given
given words script = record { words = words; script = script }

-- What is stated of an action over a session at rest. It is so where no device fails and memory does not run out.
pub record Task : Type 1 where
  -- the transactions that it commits, in order
  pub transactions : List Transaction
  -- how many of them are acknowledged once so many bytes of output are printed
  pub acknowledged : ℕ → ℕ
  -- all that it prints to standard output
  pub output : List ℕ
  -- how it ends, and the session then
  pub note : Note
  pub end : DbState
  -- how many random words it draws
  pub words : ℕ
  -- it only prints, and does nothing to the database
  pub only_prints : Bool
  -- where memory runs out once so many bytes are printed, so many transactions may stand
  pub may_stand : ℕ → ℕ → Type 0

-- ---- the tasks of the actions

-- something is printed, and the database stays as it is
abbrev pub printing : DbState → List ℕ → Note → Task
printing s output note = record {
  transactions = [];
  acknowledged = λ _. 0;
  output = output;
  note = note;
  end = s;
  words = 0;
  only_prints = true;
  may_stand = λ printed stand. (printed ≡ 0) × (stand ≡ 0);
}

-- one transaction of one change is made, or refused
abbrev pub changing_by : Option DbFault → DbKind → DbState → Change → ℕ → Task
changing_by None kind s change words = record {
  transactions = (change ∷ []) ∷ [];
  acknowledged = λ _. 0;
  output = [];
  note = Done;
  end = run_after kind s (change ∷ []);
  words = words;
  only_prints = false;
  may_stand = λ printed stand. (printed ≡ 0) × (stand ≡ 0);
}
changing_by (Some fault) kind s change words = record {
  transactions = [];
  acknowledged = λ _. 0;
  output = [];
  note = change_note Host fault;
  end = s;
  words = words;
  only_prints = false;
  may_stand = λ printed stand. (printed ≡ 0) × (stand ≡ 0);
}

abbrev pub changing : DbKind → DbState → Change → ℕ → Task
changing kind s change words = changing_by (run_refusal kind s (change ∷ [])) kind s change words

abbrev pub is_empty : List ℕ → Bool
is_empty [] = true
is_empty (byte ∷ bytes) = false

abbrev pub lacks_key : Action → Bool
lacks_key (Get key) = is_empty key
lacks_key (Set key value) = is_empty key
lacks_key (Delete key) = is_empty key
lacks_key action = false

-- how `get` ends, and what it prints, where its key has this value
abbrev pub found_note : List ℕ → Option (List ℕ) → Note
found_note key value = if is_empty key then BadLine 1 else (if is_some value then Done else Answer)

abbrev pub found_output : List ℕ → Option (List ℕ) → List ℕ
found_output key value = if is_empty key then [] else value_line value

-- the task of an action that has a key where it needs one
abbrev pub task_with_key : DbKind → DbState → Given → Action → Task
task_with_key kind s g (Show prefix) = printing s (shown (with_prefix s.seen prefix)) Done
task_with_key kind s g (Get key) = printing s (value_line (value_at s.seen key)) (if is_some (value_at s.seen key) then Done else Answer)
task_with_key kind s g (Set key value) = changing kind s (Put (next_u32 g.words).0 key value) 1
task_with_key kind s g (Delete key) = changing kind s (Del key) 0
task_with_key kind s g Consistent = printing s (codes "consistent\n") Done
task_with_key kind s g action = printing s [] Done

-- an action that lacks its key is refused as line 1
abbrev pub task_if : Bool → DbKind → DbState → Given → Action → Task
task_if true kind s g action = printing s [] (BadLine 1)
task_if false kind s g action = task_with_key kind s g action

abbrev pub task_of : DbKind → DbState → Given → Action → Task
task_of kind s g action = task_if (lacks_key action) kind s g action

-- the actions that are done over an open database, so far
abbrev pub CanAct : Action → Type 0
CanAct (Show prefix) = Unit {0}
CanAct (Get key) = Unit {0}
CanAct (Set key value) = Unit {0}
CanAct (Delete key) = Unit {0}
CanAct action = ⊥

-- ---- what is left of a task

-- The image opens to the map after the first few of the task's transactions, those acknowledged by the printed bytes among
-- them, none in part.
pub record KeepsPrefix (kind : DbKind) (task : Task) (m : Map) (printed : ℕ) (c : Image) : Type 0 where
  pub count : ℕ
  pub within : count ≤ length task.transactions
  pub acknowledged : task.acknowledged printed ≤ count
  pub holds : kind.opens c (after_first count m task.transactions)

-- the image opens to the map after no more of the transactions than these
pub record KeepsUpTo (kind : DbKind) (task : Task) (m : Map) (stands : ℕ) (c : Image) : Type 0 where
  pub count : ℕ
  pub within : count ≤ stands
  pub holds : kind.opens c (after_first count m task.transactions)

-- the random words that are left after so many
abbrev pub words_after : ℕ → Stream → Stream
words_after zero words = words
words_after (suc count) words = words_after count (next_u32 words).1
