-- The end of a script: its note, and that no byte acknowledges a transaction by itself.
use Rattle.std.proofs.Common.{◌≡◌, ℕ, ◌-◌, ◌≤◌, Bool, true, false, List, [], ◌∷◌, ◌++◌, rules, Option, None, Some, Result, Ok, Err, length, refl, sym, subst, arith}
use Rattle.std.specs.Prelude.{leb, nat_lt, ◌+◌, if◌then◌else◌}
use Rattle.base_bytes.specs.declared.limits.TheConstants.{SCRIPT_LIMIT}
use Rattle.base_notes.specs.declared.note.Device.TheVariants.{Host}
use Rattle.base_notes.specs.declared.note.Note.TheVariants.{BadLine, Done}
use Rattle.db_core.specs.Sessions.{DbKind, DbState}
use Rattle.db_core.specs.declared.fault.DbFault.{DbFault}
use Rattle.db_core.specs.declared.fault.DbFault.TheVariants.{Broken, KeyEmpty, KeyTooLong, ValueTooLong, Full, NoMemory, DiskFault}
use Rattle.db_script.specs.Batch.{IsScriptNote}
use Rattle.db_script.specs.Fields.{before}
use Rattle.db_script.specs.Lines.{Command, begin, commit, abort, show, get, set, delete, lines_of, read_line}
use Rattle.db_script.specs.Replies.{change_of, commits, is_placed, owed_by, reply_of}
use Rattle.db_script.specs.Scripts.{Ending, Progress, Reply, acknowledged, after_line, do_command, do_line, ending_of, goes_on, nothing_done, script_task, unless_owed, word_of}
use Rattle.db_tool.specs.ToolNotes.{change_note}
use Rattle.rand_core.specs.Stream.{Stream}

-- a reply that says that a transaction is committed has a byte
abbrev IsLoud : Reply → Type 0
IsLoud r = r.commits ≡ true → 1 ≤ length r.text

abbrev AreLoud : List Reply → Type 0
AreLoud [] = Unit {0}
AreLoud (r ∷ rs) = IsLoud r × AreLoud rs

loud_more : (rs : List Reply) (r : Reply) → AreLoud rs → IsLoud r → AreLoud (rs ++ (r ∷ []))
loud_more [] r loud more = (more, tt)
loud_more (x ∷ rs) r loud more = (loud.0, loud_more rs r loud.1 more)

silent : (rs : List Reply) → AreLoud rs → acknowledged rs 0 ≡ 0
unfolding acknowledged
silent [] loud = refl
silent (r ∷ rs) loud = by (silent rs loud.1) (leb (length r.text) 0) refl
  where
    quiet : (acknowledged rs 0 ≡ 0) → (c : Bool) → r.commits ≡ c → length r.text ≤ 0 → (if c then 1 else 0) + acknowledged rs (0 - length r.text) ≡ 0
    quiet later true is none = absurd (omega (arith, loud.0 is, none))
    quiet later false is none =
        let start : 0 - length r.text ≡ 0 = omega arith in
        let none_later : acknowledged rs (0 - length r.text) ≡ 0 = subst (λ (n : ℕ). acknowledged rs n ≡ 0) (sym start) later in
        omega (arith, none_later)

    by : (acknowledged rs 0 ≡ 0) → (b : Bool) → leb (length r.text) 0 ≡ b → (if b then (if r.commits then 1 else 0) + acknowledged rs (0 - length r.text) else 0) ≡ 0
    by later true is = quiet later r.commits refl (search (rules, is))
    by later false is = refl

committing_is_loud : (s : DbState) (c : Command) → commits s.in_transaction c ≡ true → 1 ≤ length (reply_of s c)
committing_is_loud s begin is = absurd (cc is)
committing_is_loud s commit is = omega arith
committing_is_loud s abort is = absurd (cc is)
committing_is_loud s (show prefix) is = absurd (cc is)
committing_is_loud s (get key) is = absurd (cc is)
committing_is_loud s (set key value) is = by s.in_transaction
  where
    by : (b : Bool) → 1 ≤ length (Rattle.db_script.specs.Replies.change_reply b)
    by true = omega arith
    by false = omega arith
committing_is_loud s (delete key) is = by s.in_transaction
  where
    by : (b : Bool) → 1 ≤ length (Rattle.db_script.specs.Replies.change_reply b)
    by true = omega arith
    by false = omega arith

change_good : (fault : DbFault) → IsScriptNote (change_note Host fault)
change_good Broken = tt
change_good KeyEmpty = tt
change_good (KeyTooLong n) = tt
change_good (ValueTooLong n) = tt
change_good (Full n) = tt
change_good NoMemory = tt
change_good DiskFault = tt

abbrev IsGoodEnding : Ending → Type 0
IsGoodEnding e = AreLoud e.done.replies × IsScriptNote e.note

abbrev IsGood : Result Progress Ending → Type 0
IsGood (Ok p) = AreLoud p.replies
IsGood (Err e) = IsGoodEnding e

module _ (kind : DbKind) where
  command_good : (p : Progress) (line : List ℕ) (c : Option Command) → AreLoud p.replies → IsGood (do_command kind p line c)
  command_good p line None loud = (loud, tt)
  command_good p line (Some c) loud = by (is_placed p.session.in_transaction c)
    where
      owed : (o : Option DbFault) → IsGood (unless_owed o p c (after_line kind p line c))
      owed None = loud_more p.replies _ loud (committing_is_loud p.session c)
      owed (Some fault) = (loud, change_good fault)

      by : (b : Bool) → IsGood (if b then unless_owed (owed_by kind p.session (change_of (word_of p) c)) p c (after_line kind p line c) else Err (Rattle.db_script.specs.Scripts.ends p (BadLine (p.lines + 1))))
      by true = owed (owed_by kind p.session (change_of (word_of p) c))
      by false = (loud, tt)

  line_good : (p : Progress) (line : List ℕ) → AreLoud p.replies → IsGood (do_line kind p line)
  line_good p line loud = by (nat_lt SCRIPT_LIMIT (p.size + length line))
    where
      by : (b : Bool) → IsGood (if b then Err (Rattle.db_script.specs.Scripts.ends p (Rattle.base_notes.specs.declared.note.Note.TheVariants.Limit Rattle.base_notes.specs.declared.note.LimitName.TheVariants.Script (SCRIPT_LIMIT + 1))) else do_command kind p line (read_line (before 10 line)))
      by true = (loud, tt)
      by false = command_good p line (read_line (before 10 line)) loud

  ending_good : (p : Progress) (lines : List (List ℕ)) → AreLoud p.replies → IsGoodEnding (ending_of kind p lines)
  unfolding ending_of
  ending_good p [] loud = (loud, by p.session.in_transaction)
    where
      by : (b : Bool) → IsScriptNote (if b then BadLine (p.lines + 1) else Done)
      by true = tt
      by false = tt
  ending_good p (line ∷ lines) loud = by (λ q good. ending_good q lines good) (do_line kind p line) (line_good p line loud)
    where
      by : ((q : Progress) → AreLoud q.replies → IsGoodEnding (ending_of kind q lines)) → (r : Result Progress Ending) → IsGood r → IsGoodEnding (goes_on (λ q. ending_of kind q lines) r)
      by later (Ok q) good = later q good
      by later (Err e) good = good

pub script_good : (kind : DbKind) (s : DbState) (words : Stream) (script : List ℕ) → IsScriptNote (script_task kind s words script).note
script_good kind s words script = (ending_good kind (nothing_done s words) (lines_of script) tt).1

pub script_silent : (kind : DbKind) (s : DbState) (words : Stream) (script : List ℕ) → (script_task kind s words script).acknowledged 0 ≡ 0
script_silent kind s words script = silent _ (ending_good kind (nothing_done s words) (lines_of script) tt).0
