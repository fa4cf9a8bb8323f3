-- The one job that a command line stands for, or none: what clap gives of the tool's command, taken
-- through the tables of backends, actions and numbers.
use Rattle.std.specs.Prelude.{ℕ, Bool, true, false, List, [], ◌∷◌, Option, None, Some, codes, if◌then◌else◌, map, option_and_then}
use Rattle.std.specs.Option.{option_map}
use Rattle.std.specs.Str.{bytes_eq}
use Rattle.base_notes.specs.declared.action.Backend.{Backend}
use Rattle.base_notes.specs.declared.action.Backend.TheVariants.{Twoskip, Flat}
use Rattle.base_notes.specs.declared.action.Action.{Action}
use Rattle.base_notes.specs.declared.action.Action.TheVariants.{Show, Get, Set, Delete, Consistent, Repack, Batch, Exercise}
use Rattle.base_notes.specs.declared.action.Options.{Options}
use Rattle.clap.specs.Walk.{Row, all_of, first_of}
use Rattle.tool_words.specs.Commands.{dbtool_app, convert_app, reconstruct_app, unexpunge_app, purge_app, check_app}
use Rattle.tool_words.specs.Numbers.{number_of, rounds_of, uid_of}
use Rattle.tool_words.specs.Reading.{has_flag, rest_of, rows_by}
use Rattle.tool_words.specs.declared.jobs.Job.{Job}
use Rattle.tool_words.specs.declared.jobs.Job.TheVariants.{Dbtool, Convert, Reconstruct, Recurse, Unexpunge, Purge, Check}
use Rattle.tool_words.specs.declared.mailbox.What.{What}
use Rattle.tool_words.specs.declared.mailbox.What.TheVariants as what
use Rattle.tool_words.specs.declared.mailbox.Measure.{Measure}
use Rattle.tool_words.specs.declared.mailbox.Measure.TheVariants.{Days, Bytes, Kilo, Mega}
use Rattle.tool_words.specs.declared.mailbox.Test.{Test}

-- ---- databases

abbrev pub backend_of : List ℕ → Option Backend
backend_of name = if bytes_eq name (codes "twoskip") then Some Twoskip
    else (if bytes_eq name (codes "flat") then Some Flat else None)

-- the action of a name and the words behind it
abbrev pub action_of : List ℕ → List (List ℕ) → Option Action
action_of name [] = if bytes_eq name (codes "show") then Some (Show [])
    else (if bytes_eq name (codes "consistent") then Some Consistent
    else (if bytes_eq name (codes "repack") then Some Repack
    else (if bytes_eq name (codes "batch") then Some Batch else None)))
action_of name (word ∷ []) = if bytes_eq name (codes "show") then Some (Show word)
    else (if bytes_eq name (codes "get") then Some (Get word)
    else (if bytes_eq name (codes "delete") then Some (Delete word)
    else (if bytes_eq name (codes "exercise") then option_map Exercise (rounds_of word) else None)))
action_of name (key ∷ value ∷ []) = if bytes_eq name (codes "set") then Some (Set key value) else None
action_of name words = None

abbrev pub backend_in : List ℕ → List Row → Option Backend
backend_in id rows = option_and_then backend_of (first_of id rows)

abbrev pub action_in : List Row → Option Action
action_in rows = option_and_then (λ name. action_of name (rest_of (codes "operands") rows)) (first_of (codes "action") rows)

abbrev pub dbtool_job : Bool → Option (List ℕ) → Option Backend → Option Action → Option Job
dbtool_job make (Some file) (Some backend) (Some action) = Some (Dbtool make file backend action)
dbtool_job make file backend action = None

abbrev pub dbtool_of : List Row → Option Job
dbtool_of rows = dbtool_job (has_flag (codes "make") rows) (first_of (codes "file") rows)
    (backend_in (codes "backend") rows) (action_in rows)

abbrev pub convert_job : Option (List ℕ) → Option Backend → Option (List ℕ) → Option Backend → Option Job
convert_job (Some old) (Some old_kind) (Some new) (Some new_kind) = Some (Convert old old_kind new new_kind)
convert_job old old_kind new new_kind = None

abbrev pub convert_of : List Row → Option Job
convert_of rows = convert_job (first_of (codes "old") rows) (backend_in (codes "old_backend") rows)
    (first_of (codes "new") rows) (backend_in (codes "new_backend") rows)

-- ---- folders of messages

abbrev pub options_in : List Row → Options
options_in rows = record {
  dry = has_flag (codes "dry") rows;
  quiet = has_flag (codes "quiet") rows;
  skip_odd = has_flag (codes "skip_odd") rows;
  force = has_flag (codes "force") rows;
}

-- with `-r` there are two words, and without it one
abbrev pub reconstruct_job : Options → Option (List ℕ) → Bool → Option (List ℕ) → Option Job
reconstruct_job options (Some folder) false None = Some (Reconstruct options folder)
reconstruct_job options (Some list) true (Some prefix) = Some (Recurse options list prefix)
reconstruct_job options folder recurse prefix = None

abbrev pub reconstruct_of : List Row → Option Job
reconstruct_of rows = reconstruct_job (options_in rows) (first_of (codes "folder") rows)
    (has_flag (codes "recurse") rows) (first_of (codes "prefix") rows)

-- every word is a uid
abbrev pub uids_of : List (List ℕ) → Option (List ℕ)
uids_of [] = Some []
uids_of (word ∷ words) = option_and_then (λ uid. option_map (λ uids. uid ∷ uids) (uids_of words)) (uid_of word)

-- just one of `-l`, `-a` and `-u`, and uids with `-u` alone
abbrev pub what_of : Bool → Bool → Bool → Option (List (List ℕ)) → Option What
what_of true false false None = Some what.List
what_of false true false None = Some what.All
what_of false false true (Some words) = option_map what.Uids (uids_of words)
what_of list all by_uid words = None

abbrev pub what_in : List Row → Option What
what_in rows = what_of (has_flag (codes "list") rows) (has_flag (codes "all") rows)
    (has_flag (codes "by_uid") rows) (all_of (codes "uids") rows)

abbrev pub unexpunge_job : Option (List ℕ) → Option What → Option Job
unexpunge_job (Some folder) (Some what) = Some (Unexpunge folder what)
unexpunge_job folder what = None

abbrev pub unexpunge_of : List Row → Option Job
unexpunge_of rows = unexpunge_job (first_of (codes "folder") rows) (what_in rows)

-- just one of `-d`, `-b`, `-k` and `-m`, and its number
abbrev pub measure_of : Option (List ℕ) → Option (List ℕ) → Option (List ℕ) → Option (List ℕ)
    → Option (Measure × List ℕ)
measure_of (Some number) None None None = Some (Days, number)
measure_of None (Some number) None None = Some (Bytes, number)
measure_of None None (Some number) None = Some (Kilo, number)
measure_of None None None (Some number) = Some (Mega, number)
measure_of days bytes kilo mega = None

abbrev pub measure_in : List Row → Option (Measure × List ℕ)
measure_in rows = measure_of (first_of (codes "days") rows) (first_of (codes "bytes") rows)
    (first_of (codes "kilo") rows) (first_of (codes "mega") rows)

abbrev pub test_by : List Row → Measure → ℕ → Test
test_by rows by number = record {
  by = by;
  number = number;
  invert = has_flag (codes "invert") rows;
  exact = has_flag (codes "exact") rows;
  skip_flagged = has_flag (codes "skip_flagged") rows;
}

abbrev pub test_in : List Row → Option Test
test_in rows = option_and_then (λ m. option_map (test_by rows m.0) (number_of m.1)) (measure_in rows)

abbrev pub purge_job : Option (List ℕ) → Option Test → Option Job
purge_job (Some folder) (Some test) = Some (Purge folder test)
purge_job folder test = None

abbrev pub purge_of : List Row → Option Job
purge_of rows = purge_job (first_of (codes "folder") rows) (test_in rows)

abbrev pub check_job : Bool → Option (List ℕ) → Option Job
check_job true (Some folder) = Some (Check folder)
check_job mailbox folder = None

abbrev pub check_of : List Row → Option Job
check_of rows = check_job (has_flag (codes "mailbox") rows) (first_of (codes "folder") rows)

-- ---- all tools

abbrev pub job_of_tool : List ℕ → List (List ℕ) → Option Job
job_of_tool tool words = if bytes_eq tool (codes "cyr_dbtool") then option_and_then dbtool_of (rows_by dbtool_app words)
    else (if bytes_eq tool (codes "cvt_cyrusdb") then option_and_then convert_of (rows_by convert_app words)
    else (if bytes_eq tool (codes "reconstruct") then option_and_then reconstruct_of (rows_by reconstruct_app words)
    else (if bytes_eq tool (codes "unexpunge") then option_and_then unexpunge_of (rows_by unexpunge_app words)
    else (if bytes_eq tool (codes "ipurge") then option_and_then purge_of (rows_by purge_app words)
    else (if bytes_eq tool (codes "chk_cyrus") then option_and_then check_of (rows_by check_app words)
    else None)))))

-- The first word names the tool.
abbrev pub job_of : List (List ℕ) → Option Job
job_of [] = None
job_of (tool ∷ words) = job_of_tool tool (tool ∷ words)
