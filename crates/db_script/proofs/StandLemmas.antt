-- What is committed by the lines so far, from line to line.
use Rattle.std.proofs.Common.{◌≡◌, ◌∙◌, ℕ, ◌+◌, ◌≤◌, Bool, true, false, List, [], ◌∷◌, ◌++◌, Some, length, refl, sym, ap, arith, length-append}
use Rattle.std.proofs.lemmas.List.Sums.{fold_push}
use Rattle.std.specs.Prelude.{if◌then◌else◌, not}
use Rattle.base_bytes.specs.Transactions.{Transaction, after_change, after_transaction, after_transactions}
use Rattle.base_bytes.specs.OrderedMap.{Map}
use Rattle.base_bytes.specs.declared.change.Change.{Change}
use Rattle.base_bytes.specs.declared.change.Change.TheVariants.{Put, Del}
use Rattle.db_core.specs.Sessions.{DbKind, DbState, begun, change_after, committed, aborted}
use Rattle.rand_core.specs.Stream.{Stream}
use Rattle.db_script.specs.Lines.{Command, begin, commit, abort, show, get, set, delete}
use Rattle.db_script.specs.Moments.{committing, Stands}
use Rattle.db_script.specs.Replies.{change_reply, commits}
use Rattle.db_script.specs.Scripts.{Progress, nothing_done, joined_to, after_line, waiting_after, words_of, words_behind, word_of}
use Rattle.db_script.proofs.AcknowledgeLemmas.{committing_more}

pub stands_start : (s : DbState) (words : Stream) → s.seen ≡ s.committed → Stands s (nothing_done s words)
unfolding committing
stands_start s words same = record { replied = refl; committed = refl; seen = same; outside = λ _. refl; same = λ _. refl }

-- ---- one change

changed_seen : (kind : DbKind) (s : DbState) (change : Change) → (change_after kind s change).seen ≡ after_change s.seen change
changed_seen kind s (Put word key value) = refl
changed_seen kind s (Del key) = refl

changed_committed : (kind : DbKind) (s : DbState) (change : Change) → (change_after kind s change).committed ≡ s.committed
changed_committed kind s (Put word key value) = refl
changed_committed kind s (Del key) = refl

changed_stands : (kind : DbKind) (s : DbState) (change : Change) → (change_after kind s change).in_transaction ≡ s.in_transaction
changed_stands kind s (Put word key value) = refl
changed_stands kind s (Del key) = refl

changed_base : (kind : DbKind) (s : DbState) (change : Change) → aborted (change_after kind s change) ≡ aborted s
changed_base kind s (Put word key value) = refl
changed_base kind s (Del key) = refl

-- ---- one line

module _ (kind : DbKind) (start : DbState) (p : Progress) (line : List ℕ) (so : Stands start p) where
  abbrev s : DbState
  s = p.session

  -- a reply that commits nothing, and one with its transaction
  quiet : (text : List ℕ) → committing (p.replies ++ (record { text = text; commits = false } ∷ [])) ≡ length p.transactions
  quiet text = omega (arith, committing_more p.replies (record { text = text; commits = false }), so.replied)

  spoken : (text : List ℕ) (t : Transaction) → committing (p.replies ++ (record { text = text; commits = true } ∷ [])) ≡ length (p.transactions ++ (t ∷ []))
  spoken text t = omega (arith, committing_more p.replies (record { text = text; commits = true }), so.replied, length-append p.transactions (t ∷ []))

  some_behind : (t : Transaction) → length (p.transactions ++ (t ∷ [])) ≡ 0 → ⊥
  some_behind t none = absurd (omega (arith, none, length-append p.transactions (t ∷ [])))

  -- the changes of the open transaction, if one is open
  kept_by : (b : Bool) → s.in_transaction ≡ b → (if b then p.waiting else []) ≡ p.waiting
  kept_by true is = refl
  kept_by false is = sym (so.outside is)

  kept : (if s.in_transaction then p.waiting else []) ≡ p.waiting
  kept = kept_by s.in_transaction refl

  twice_by : (b : Bool) → s.in_transaction ≡ b → (if b then (if b then p.waiting else []) else []) ≡ p.waiting
  twice_by true is = refl
  twice_by false is = sym (so.outside is)

  twice : (if s.in_transaction then (if s.in_transaction then p.waiting else []) else []) ≡ p.waiting
  twice = twice_by s.in_transaction refl

  -- a change, in the open transaction or in one of its own
  abbrev after : Bool → Change → DbState
  after b change = if b then change_after kind s change else committed kind (change_after kind (begun s) change)

  abbrev changes : Bool → Change → List Change
  changes b change = if b then joined_to p.waiting (Some change) else joined_to [] (Some change)

  abbrev made : Bool → Change → Stream → ℕ → List ℕ → Progress
  made b change words drawn text = record {
    lines = p.lines + 1;
    size = p.size + length line;
    session = after b change;
    words = words;
    drawn = drawn;
    transactions = if not b then p.transactions ++ (changes b change ∷ []) else p.transactions;
    waiting = if (after b change).in_transaction then changes b change else [];
    replies = p.replies ++ (record { text = text; commits = not b } ∷ []);
  }

  stands_change : (change : Change) (words : Stream) (drawn : ℕ) (text : List ℕ) (b : Bool) → s.in_transaction ≡ b → Stands start (made b change words drawn text)
  stands_change change words drawn text true is =
      let still : (change_after kind s change).in_transaction ≡ true = changed_stands kind s change ∙ is in
      let base : (change_after kind s change).committed ≡ s.committed = changed_committed kind s change in
      record {
        replied = quiet text;
        committed = base ∙ so.committed;
        seen = changed_seen kind s change ∙ ap (λ (m : Map). after_change m change) so.seen ∙ sym (fold_push after_change s.committed p.waiting change)
            ∙ ap (λ (m : Map). after_transaction m (p.waiting ++ (change ∷ []))) (sym base)
            ∙ ap (λ (b : Bool). after_transaction (change_after kind s change).committed (if b then p.waiting ++ (change ∷ []) else [])) (sym still);
        outside = λ out. absurd (cc (still, out));
        same = λ none. changed_base kind s change ∙ so.same none;
      }
  stands_change change words drawn text false is = record {
    replied = spoken text (change ∷ []);
    committed = changed_seen kind (begun s) change
        ∙ ap (λ (m : Map). after_change m change) (so.seen ∙ ap (after_transaction s.committed) (so.outside is) ∙ so.committed)
        ∙ sym (fold_push after_transaction start.committed p.transactions (change ∷ []));
    seen = refl;
    outside = λ _. refl;
    same = λ none. absurd (some_behind (change ∷ []) none);
  }

  pub stands_line : (command : Command) → Stands start (after_line kind p line command)
  stands_line begin = record {
    replied = quiet _;
    committed = so.committed;
    seen = so.seen ∙ ap (after_transaction s.committed) (sym kept);
    outside = λ out. absurd (cc out);
    same = λ none. so.same none;
  }
  stands_line commit = record {
    replied = spoken _ _;
    committed = so.seen ∙ ap (λ (m : Map). after_transaction m p.waiting) so.committed
        ∙ ap (after_transaction (after_transactions start.committed p.transactions)) (sym kept)
        ∙ sym (fold_push after_transaction start.committed p.transactions (if s.in_transaction then p.waiting else []));
    seen = refl;
    outside = λ _. refl;
    same = λ none. absurd (some_behind _ none);
  }
  stands_line abort = record { replied = quiet _; committed = so.committed; seen = refl; outside = λ _. refl; same = λ none. so.same none }
  stands_line (show prefix) = record {
    replied = quiet _;
    committed = so.committed;
    seen = so.seen ∙ ap (after_transaction s.committed) (sym twice);
    outside = λ out. twice ∙ so.outside out;
    same = λ none. so.same none;
  }
  stands_line (get key) = record {
    replied = quiet _;
    committed = so.committed;
    seen = so.seen ∙ ap (after_transaction s.committed) (sym twice);
    outside = λ out. twice ∙ so.outside out;
    same = λ none. so.same none;
  }
  stands_line (set key value) =
      stands_change (Put (word_of p) key value) (words_behind (set key value) p.words) (p.drawn + words_of (set key value)) (change_reply s.in_transaction) s.in_transaction refl
  stands_line (delete key) =
      stands_change (Del key) (words_behind (delete key) p.words) (p.drawn + words_of (delete key)) (change_reply s.in_transaction) s.in_transaction refl

-- no transaction is taken back
some_more : (b : Bool) (transactions : List Transaction) (t : Transaction) → length transactions ≤ length (if b then transactions ++ (t ∷ []) else transactions)
some_more true transactions t = omega (arith, length-append transactions (t ∷ []))
some_more false transactions t = omega arith

pub more_by : (kind : DbKind) (p : Progress) (line : List ℕ) (command : Command) → length p.transactions ≤ length (after_line kind p line command).transactions
more_by kind p line command = some_more _ p.transactions _

none_behind : (b : Bool) (transactions : List Transaction) (t : Transaction) → length (if b then transactions ++ (t ∷ []) else transactions) ≡ 0 → b ≡ false
none_behind true transactions t none = absurd (omega (arith, none, length-append transactions (t ∷ [])))
none_behind false transactions t none = refl

-- where none stands the line commits none
pub commits_none : (kind : DbKind) (p : Progress) (line : List ℕ) (command : Command) → length (after_line kind p line command).transactions ≡ 0 → commits p.session.in_transaction command ≡ false
commits_none kind p line command none = none_behind (commits p.session.in_transaction command) p.transactions (waiting_after p command) none
