-- What an exercise comes to over a session at rest: the task that it is.
use Rattle.std.specs.Prelude.{◌≡◌, ℕ, zero, suc, ◌+◌, ◌≤◌, ◌==◌, false, List, [], ◌∷◌, ◌++◌, length, codes, decimal, Option, None, Some, if◌then◌else◌}
use Rattle.base_bytes.specs.OrderedMap.{Map}
use Rattle.base_bytes.specs.Transactions.{Transaction}
use Rattle.base_notes.specs.declared.note.Device.TheVariants.{Host}
use Rattle.base_notes.specs.declared.note.Note.{Note}
use Rattle.base_notes.specs.declared.note.Note.TheVariants.{Done}
use Rattle.db_core.specs.Sessions.{DbKind, DbState}
use Rattle.db_core.specs.WholeTransactions.{run_after, run_refusal}
use Rattle.db_core.specs.declared.fault.DbFault.{DbFault}
use Rattle.db_exercise.specs.Changes.{transaction_at, words_left, words_in}
use Rattle.db_tool.specs.Printing.{shown}
use Rattle.db_tool.specs.Tasks.{Task}
use Rattle.db_tool.specs.ToolNotes.{change_note}
use Rattle.hex.specs.Hex.{encode_lower}
use Rattle.rand_core.specs.Stream.{Stream}
use Rattle.sha1.specs.Sha1.{sha1}

-- What the rounds so far have come to.
pub record Progress : Type 0 where
  pub rounds : ℕ
  pub session : DbState
  -- the random words to come, and how many were drawn
  pub words : Stream
  pub drawn : ℕ
  pub transactions : List Transaction

abbrev pub nothing_done : DbState → Stream → Progress
nothing_done s words = record { rounds = 0; session = s; words = words; drawn = 0; transactions = [] }

-- the transaction of the next round, and what it comes to where it is made
abbrev pub next_of : Progress → Transaction
next_of p = transaction_at p.rounds p.words

abbrev pub after_round : DbKind → Progress → Progress
after_round kind p = record {
  rounds = p.rounds + 1;
  session = run_after kind p.session (next_of p);
  words = words_left p.rounds p.words;
  drawn = p.drawn + words_in p.rounds;
  transactions = p.transactions ++ (next_of p ∷ []);
}

-- ---- how it ends

-- three lines: the rounds, how many pairs the map has, and the digest of all that is shown of it
abbrev pub report_text : ℕ → Map → List ℕ
report_text rounds m =
    (codes "transactions " ++ (decimal rounds ++ codes "\n"))
    ++ ((codes "pairs " ++ (decimal (length m) ++ codes "\n"))
    ++ (codes "sha1 " ++ (encode_lower (sha1 (shown m)) ++ codes "\n")))

-- after these rounds, with this output and note, when so many random words were drawn
pub record Ending : Type 0 where
  pub done : Progress
  pub output : List ℕ
  pub note : Note
  pub drawn : ℕ

abbrev pub ends_done : Progress → Ending
ends_done p = record { done = p; output = report_text p.rounds p.session.seen; note = Done; drawn = p.drawn }

-- a transaction that is refused has drawn its words, and ends the exercise without output
abbrev pub ends_refused : DbFault → Progress → Ending
ends_refused fault p = record { done = p; output = []; note = change_note Host fault; drawn = p.drawn + words_in p.rounds }

abbrev pub unless_owed : Option DbFault → Progress → Ending → Ending
unless_owed None p later = later
unless_owed (Some fault) p later = ends_refused fault p

-- so many rounds more are made, one by one
unfoldable pub ending_of : DbKind → ℕ → Progress → Ending
ending_of kind zero p = ends_done p
ending_of kind (suc left) p = unless_owed (run_refusal kind p.session (next_of p)) p (ending_of kind left (after_round kind p))

-- ---- its task

-- nothing is printed before each transaction is committed
abbrev pub task_of_ending : Ending → Task
task_of_ending e = record {
  transactions = e.done.transactions;
  acknowledged = λ printed. if printed == 0 then 0 else length e.done.transactions;
  output = e.output;
  note = e.note;
  end = e.done.session;
  words = e.drawn;
  only_prints = false;
  may_stand = λ printed stand. (printed ≡ 0) × (stand ≤ length e.done.transactions);
}

abbrev pub exercise_task : DbKind → ℕ → DbState → Stream → Task
exercise_task kind rounds s words = task_of_ending (ending_of kind rounds (nothing_done s words))
