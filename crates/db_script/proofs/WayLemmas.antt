-- What is done so far is on the way to the stated end.
use Rattle.std.proofs.Common.{◌≡◌, ◌∙◌, ℕ, ◌+◌, ◌≤◌, ◌<◌, Bool, true, false, List, [], ◌∷◌, ◌++◌, Option, Some, None, Err, length, take, refl, sym, ap, subst, arith, length-append, append_assoc}
use Rattle.std.proofs.lemmas.List.{append-nil, take-append-le, take_all}
use Rattle.std.specs.Prelude.{if◌then◌else◌, nat_lt}
use Rattle.base_bytes.specs.OrderedMap.{Map}
use Rattle.base_bytes.specs.Transactions.{Transaction, after_first, after_transactions}
use Rattle.base_bytes.specs.declared.limits.TheConstants.{SCRIPT_LIMIT}
use Rattle.base_devices.specs.CrashImages.{Image}
use Rattle.base_notes.specs.declared.note.LimitName.TheVariants.{Script}
use Rattle.base_notes.specs.declared.note.Note.TheVariants.{BadLine, Limit}
use Rattle.db_core.specs.Sessions.{DbKind, DbState}
use Rattle.db_core.specs.declared.fault.DbFault.{DbFault}
use Rattle.db_script.specs.Fields.{before}
use Rattle.db_script.specs.Lines.{Command, begin, commit, abort, show, get, set, delete, read_line}
use Rattle.db_script.specs.Moments.{Stands, KeepsFew}
use Rattle.db_script.specs.Replies.{is_placed, change_of, change_reply, commits, owed_by, reply_of}
use Rattle.db_script.specs.Scripts.{Progress, Reply, Ending, ends, unless_owed, do_command, do_line, goes_on, after_line, acknowledged, ending_of, joined, task_of_ending, waiting_after, word_of}
use Rattle.db_script.proofs.AcknowledgeLemmas.{AreSpoken, within_first}

-- the end has the replies and transactions of the lines so far, and those of the others
pub record Grows (p : Progress) (e : Ending) : Type 0 where
  pub more : List Reply
  pub replies : e.done.replies ≡ p.replies ++ more
  pub spoken : AreSpoken more
  pub later : List Transaction
  pub transactions : e.done.transactions ≡ p.transactions ++ later
  pub drawn : p.drawn ≤ e.drawn

-- ---- one line

change_spoken : (b : Bool) → 0 < length (change_reply b)
change_spoken true = omega arith
change_spoken false = omega arith

reply_spoken : (s : DbState) (command : Command) → commits s.in_transaction command ≡ true → 0 < length (reply_of s command)
reply_spoken s begin is = absurd (cc is)
reply_spoken s commit is = omega arith
reply_spoken s abort is = absurd (cc is)
reply_spoken s (show prefix) is = absurd (cc is)
reply_spoken s (get key) is = absurd (cc is)
reply_spoken s (set key value) is = change_spoken s.in_transaction
reply_spoken s (delete key) is = change_spoken s.in_transaction

behind_one : (b : Bool) (first : List Transaction) (t : Transaction) (later : List Transaction) → (if b then first ++ (t ∷ []) else first) ++ later ≡ first ++ (if b then t ∷ later else later)
behind_one true first t later = append_assoc first (t ∷ []) later
behind_one false first t later = refl

grows_line : (kind : DbKind) (p : Progress) (line : List ℕ) (lines : List (List ℕ)) → ((q : Progress) → Grows q (ending_of kind q lines)) → Grows p (goes_on (λ q. ending_of kind q lines) (do_line kind p line))
grows_line kind p line lines later = by_size (nat_lt SCRIPT_LIMIT (p.size + length line))
  where
    here : (e : Ending) → e.done ≡ p → p.drawn ≤ e.drawn → Grows p e
    here e same drawn = record {
      more = [];
      replies = ap (λ (q : Progress). q.replies) same ∙ sym (append-nil p.replies);
      spoken = tt;
      later = [];
      transactions = ap (λ (q : Progress). q.transactions) same ∙ sym (append-nil p.transactions);
      drawn = drawn;
    }

    by_place : (command : Command) (b : Bool) (o : Option DbFault)
        → Grows p (goes_on (λ q. ending_of kind q lines) (if b then unless_owed o p command (after_line kind p line command) else Err (ends p (BadLine (p.lines + 1)))))
    by_place command true None =
        let on = later (after_line kind p line command) in
        let closes = commits p.session.in_transaction command in
        let reply : Reply = record { text = reply_of p.session command; commits = closes } in
        record {
          more = reply ∷ on.more;
          replies = on.replies ∙ append_assoc p.replies (reply ∷ []) on.more;
          spoken = (reply_spoken p.session command, on.spoken);
          later = if closes then waiting_after p command ∷ on.later else on.later;
          transactions = on.transactions ∙ behind_one closes p.transactions (waiting_after p command) on.later;
          drawn = omega (arith, on.drawn);
        }
    by_place command true (Some fault) = here _ refl (omega arith)
    by_place command false o = here _ refl (omega arith)

    by_command : (o : Option Command) → Grows p (goes_on (λ q. ending_of kind q lines) (do_command kind p line o))
    by_command None = here _ refl (omega arith)
    by_command (Some command) = by_place command (is_placed p.session.in_transaction command) (owed_by kind p.session (change_of (word_of p) command))

    by_size : (b : Bool) → Grows p (goes_on (λ q. ending_of kind q lines) (if b then Err (ends p (Limit Script (SCRIPT_LIMIT + 1))) else do_command kind p line (read_line (before 10 line))))
    by_size true = here _ refl (omega arith)
    by_size false = by_command (read_line (before 10 line))

pub grows : (kind : DbKind) (p : Progress) (lines : List (List ℕ)) → Grows p (ending_of kind p lines)
unfolding ending_of
grows kind p [] = record { more = []; replies = sym (append-nil p.replies); spoken = tt; later = []; transactions = sym (append-nil p.transactions); drawn = omega arith }
grows kind p (line ∷ lines) = grows_line kind p line lines (λ q. grows kind q lines)

-- ---- what is left on the way

all_first : (first later : List Transaction) → take (length first) (first ++ later) ≡ first
all_first first later = take-append-le (length first) first later (omega arith) ∙ take_all (length first) first (omega arith)

-- the committed map is the one after the first few of the end's transactions
pub first_of : (start : DbState) (q : Progress) (e : Ending) → Stands start q → Grows q e → q.session.committed ≡ after_first (length q.transactions) start.committed e.done.transactions
first_of start q e stands on = stands.committed
    ∙ ap (after_transactions start.committed) (sym (all_first q.transactions on.later))
    ∙ ap (λ (l : List Transaction). after_transactions start.committed (take (length q.transactions) l)) (sym on.transactions)

-- the end is on the way from these lines
pub grows_to : (kind : DbKind) (q : Progress) (rest : List (List ℕ)) (e : Ending) → ending_of kind q rest ≡ e → Grows q e
grows_to kind q rest e leads = subst (λ (f : Ending). Grows q f) leads (grows kind q rest)

-- while no more is printed than the replies of these lines, no more is acknowledged than they committed
pub acknowledged_so_far : (start : DbState) (q : Progress) (e : Ending) (printed : ℕ) → Stands start q → Grows q e → printed ≤ length (joined q.replies) → acknowledged e.done.replies printed ≤ length q.transactions
acknowledged_so_far start q e printed stands on within =
    omega (arith, ap (λ (replies : List Reply). acknowledged replies printed) on.replies, within_first q.replies on.more printed on.spoken within, stands.replied)

-- an image that opens to their map
pub keeps_few : (kind : DbKind) (start : DbState) (e : Ending) (q : Progress) (rest : List (List ℕ)) (most printed : ℕ) (c : Image) → ending_of kind q rest ≡ e → Stands start q → kind.opens c q.session.committed
    → printed ≤ length (joined q.replies) → length q.transactions ≤ most → KeepsFew kind (task_of_ending e) start most printed c
keeps_few kind start e q rest most printed c leads stands opens within few =
    let on = grows_to kind q rest e leads in
    record {
      prefix = record {
        count = length q.transactions;
        within = omega (arith, ap length on.transactions, length-append q.transactions on.later);
        acknowledged = acknowledged_so_far start q e printed stands on within;
        holds = subst (λ (m : Map). kind.opens c m) (first_of start q e stands on) opens;
      };
      few = few;
    }
