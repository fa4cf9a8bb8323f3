-- What a command line asks of a database, and which jobs are built. What it asks of a folder stands in Rebuilding, of two
-- files in Converting, and what a repack owes in Repacking.
use Rattle.std.specs.Prelude.{◌≡◌, Bool, true, false, List, [], ℕ, leb, Option, None, Some, option_and_then, if◌then◌else◌}
use Rattle.base_notes.specs.declared.action.Action.{Action}
use Rattle.base_notes.specs.declared.action.Action.TheVariants.{Batch, Consistent, Exercise, Repack, Show, Get, Set, Delete}
use Rattle.base_notes.specs.declared.action.Backend.{Backend}
use Rattle.base_notes.specs.declared.action.Backend.TheVariants.{Flat, Twoskip}
use Rattle.db_core.specs.Sessions.{DbKind, DbState}
use Rattle.db_exercise.specs.Exercise.{exercise_task}
use Rattle.db_exercise.specs.declared.changes.TheConstants.{ROUND_LIMIT}
use Rattle.db_fill.specs.Filling.{FillKind}
use Rattle.db_repack.specs.Repacking.{RepackKind}
use Rattle.db_script.specs.Scripts.{script_task}
use Rattle.db_tool.specs.Tasks.{Given, Task, given, task_of}
use Rattle.flat_db.specs.Filling.{flat_fill}
use Rattle.flat_db.specs.Repacking.{flat_repack}
use Rattle.flat_db.specs.Sessions.{flat_kind}
use Rattle.skip_kind.specs.Kind.{skip_kind}
use Rattle.rand_core.specs.Stream.{Stream}
use Rattle.tool_words.specs.JobOf.{job_of}
use Rattle.tool_words.specs.declared.jobs.Job.{Job}
use Rattle.tool_words.specs.declared.jobs.Job.TheVariants.{Convert, Dbtool, Reconstruct}
use Rattle.twoskip.specs.Filling.{skip_fill}
use Rattle.twoskip.specs.Repacking.{skip_repack}

-- An action over a database of some kind, which is made where it is absent if `make` says so.
pub record Asked : Type 1 where
  pub kind : DbKind
  pub make : Bool
  pub action : Action
  pub given : Given

abbrev pub asking : DbKind → Bool → Action → Given → Asked
asking kind make action given = record { kind = kind; make = make; action = action; given = given }

-- the task of an action: that of the lines of a script, of generated transactions, or of one action
abbrev pub task_by : Action → DbKind → DbState → Given → Task
task_by Batch kind s given = script_task kind s given.words given.script
task_by (Exercise rounds) kind s given = exercise_task kind rounds s given.words
task_by action kind s given = task_of kind s given action

-- the task that is asked for, over the session with which the database opens
abbrev pub task_for : Asked → DbState → Task
task_for asked s = task_by asked.action asked.kind s asked.given

-- ---- backends: this is the one place that chooses the kind of a file

abbrev pub kind_of : Backend → DbKind
kind_of Flat = flat_kind
kind_of Twoskip = skip_kind

abbrev pub fill_of : Backend → FillKind
fill_of Flat = flat_fill
fill_of Twoskip = skip_fill

abbrev pub repack_of : Backend → RepackKind
repack_of Flat = flat_repack
repack_of Twoskip = skip_repack

-- ---- the jobs that are built, in one place: all others end with `usage` as wrong words do

abbrev pub is_done : Action → Bool
is_done (Show prefix) = true
is_done (Get key) = true
is_done (Set key value) = true
is_done (Delete key) = true
is_done Consistent = true
is_done (Exercise rounds) = leb rounds ROUND_LIMIT
is_done action = false

abbrev pub reads_script : Action → Bool
reads_script Batch = true
reads_script action = false

abbrev pub is_repack : Action → Bool
is_repack Repack = true
is_repack action = false

abbrev pub is_ready : Action → Bool
is_ready action = if reads_script action then true else (if is_repack action then true else is_done action)

abbrev pub is_built : Job → Bool
is_built (Dbtool make file backend action) = is_ready action
is_built (Convert from from_kind to to_kind) = true
is_built (Reconstruct options folder) = true
is_built job = false

abbrev pub if_built : Job → Option Job
if_built job = if is_built job then Some job else None

-- the job of the words, where it is built
abbrev pub built_job_of : List (List ℕ) → Option Job
built_job_of words = option_and_then if_built (job_of words)

-- ---- what a run is given besides its words and its files

-- the random words to come, and what standard input has left where it shows that
pub record Inputs : Type 0 where
  pub words : Stream
  pub left : Option (List ℕ)

abbrev pub inputs : Stream → Option (List ℕ) → Inputs
inputs words left = record { words = words; left = left }

-- P holds of the script that an action reads, where its source shows it; the other actions read none
abbrev pub OnScript : Action → Option (List ℕ) → (List ℕ → Type 0) → Type 0
OnScript Batch left P = (script : List ℕ) → left ≡ Some script → P script
OnScript action left P = P []

-- P holds of a repack, and of every other action: what a repack owes stands in Repacking
abbrev pub IfRepack : Action → Type 0 → Type 0
IfRepack Repack P = P
IfRepack action P = Unit {0}

abbrev pub UnlessRepack : Action → Type 0 → Type 0
UnlessRepack Repack P = Unit {0}
UnlessRepack action P = P

-- P holds of a job over one database, by the kind of its backend
abbrev pub OnDatabase : Inputs → (Asked → Type 0) → Job → Type 0
OnDatabase given_by P (Dbtool make file backend action) = OnScript action given_by.left (λ script. P (asking (kind_of backend) make action (given given_by.words script)))
OnDatabase given_by P job = Unit {0}

-- P holds of what the words ask of a database
abbrev pub WhereAsked : List (List ℕ) → Inputs → (Asked → Type 0) → Type 0
WhereAsked words given_by P = (job : Job) → built_job_of words ≡ Some job → OnDatabase given_by P job

-- P holds of a job over one database, whatever its input
abbrev pub OnOneDatabase : Type 0 → Job → Type 0
OnOneDatabase P (Dbtool make file backend action) = P
OnOneDatabase P job = Unit {0}

-- P holds of an action that does not read standard input, and of a job that does not
abbrev pub IfUnread : Type 0 → Action → Type 0
IfUnread P Batch = Unit {0}
IfUnread P action = P

abbrev pub IfUnasked : Type 0 → Job → Type 0
IfUnasked P (Dbtool make file backend action) = IfUnread P action
IfUnasked P job = P

-- P holds of the job of the words, where it is built
abbrev pub WhereBuilt : List (List ℕ) → (Job → Type 0) → Type 0
WhereBuilt words P = (job : Job) → built_job_of words ≡ Some job → P job
