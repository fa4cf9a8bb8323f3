-- What each line does to a session, and what it is answered.
use Rattle.std.specs.Prelude.{ℕ, Bool, true, false, not, List, [], ◌∷◌, ◌++◌, Option, Some, None, codes, if◌then◌else◌}
use Rattle.base_bytes.specs.Escapes.{escaped}
use Rattle.base_bytes.specs.OrderedMap.{Map, value_at, with_prefix}
use Rattle.base_bytes.specs.declared.change.Change.{Change}
use Rattle.base_bytes.specs.declared.change.Change.TheVariants.{Put, Del}
use Rattle.db_core.specs.Refusals.{change_refusal}
use Rattle.db_core.specs.Sessions.{DbKind, DbState, begun, change_after, committed, aborted}
use Rattle.db_core.specs.declared.fault.DbFault.{DbFault}
use Rattle.db_script.specs.Lines.{Command, begin, commit, abort, show, get, set, delete}

-- ---- sessions

-- `BEGIN` stands outside a transaction, `COMMIT` and `ABORT` in one
abbrev pub is_placed : Bool → Command → Bool
is_placed in_one begin = not in_one
is_placed in_one commit = in_one
is_placed in_one abort = in_one
is_placed in_one command = true

-- the change that a line makes, with this random word
abbrev pub change_of : ℕ → Command → Option Change
change_of word (set key value) = Some (Put word key value)
change_of word (delete key) = Some (Del key)
change_of word command = None

-- a change in the open transaction, or else as one of its own
abbrev pub changed : DbKind → DbState → Change → DbState
changed kind s change = if s.in_transaction then change_after kind s change else committed kind (change_after kind (begun s) change)

abbrev pub session_after : DbKind → ℕ → DbState → Command → DbState
session_after kind word s begin = begun s
session_after kind word s commit = committed kind s
session_after kind word s abort = aborted s
session_after kind word s (set key value) = changed kind s (Put word key value)
session_after kind word s (delete key) = changed kind s (Del key)
session_after kind word s command = s

-- the refusal that a change owes, in the open transaction or in one of its own
abbrev pub owed_by : DbKind → DbState → Option Change → Option DbFault
owed_by kind s None = None
owed_by kind s (Some change) = change_refusal kind (if s.in_transaction then s else begun s) change

-- ---- replies

-- a value, escaped, or that there is none
abbrev pub value_reply : Option (List ℕ) → List ℕ
value_reply None = codes "NONE\n"
value_reply (Some value) = codes "VALUE\t" ++ (escaped value ++ (10 ∷ []))

abbrev pub pair_fields : List ℕ × List ℕ → List ℕ
pair_fields p = (escaped p.0 ++ (9 ∷ [])) ++ (escaped p.1 ++ (10 ∷ []))

abbrev pub pair_reply : List ℕ × List ℕ → List ℕ
pair_reply p = codes "PAIR\t" ++ pair_fields p

abbrev pub pair_replies : Map → List ℕ
pair_replies [] = []
pair_replies (p ∷ m) = pair_reply p ++ pair_replies m

abbrev pub change_reply : Bool → List ℕ
change_reply in_one = if in_one then codes "OK\n" else codes "COMMITTED\n"

-- what a line is answered, by whether it stands in a transaction and by the map seen
abbrev pub reply_in : Bool → Map → Command → List ℕ
reply_in in_one seen begin = codes "BEGUN\n"
reply_in in_one seen commit = codes "COMMITTED\n"
reply_in in_one seen abort = codes "ABORTED\n"
reply_in in_one seen (show prefix) = pair_replies (with_prefix seen prefix) ++ codes "END\n"
reply_in in_one seen (get key) = value_reply (value_at seen key)
reply_in in_one seen (set key value) = change_reply in_one
reply_in in_one seen (delete key) = change_reply in_one

-- what a line is answered that is done over this session
abbrev pub reply_of : DbState → Command → List ℕ
reply_of s command = reply_in s.in_transaction s.seen command

-- the line's reply says that a transaction is committed
abbrev pub commits : Bool → Command → Bool
commits in_one commit = true
commits in_one (set key value) = not in_one
commits in_one (delete key) = not in_one
commits in_one command = false
