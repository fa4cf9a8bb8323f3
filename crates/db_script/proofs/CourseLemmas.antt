-- One line after the other, to the stated end.
use Rattle.std.proofs.Common.{zero, suc, ◌≡◌, ◌∙◌, ◌⊎◌, inl, inr, ⊎_elim, ℕ, ◌+◌, ◌≤◌, ◌<◌, Bool, true, false, List, [], ◌∷◌, ◌++◌, Option, Some, None, Result, Ok, Err, length, refl, sym, ap, subst, arith, append_assoc, length-append}
use Rattle.std.proofs.lemmas.List.{append-nil}
use Rattle.std.proofs.lemmas.Bool.{ltb-true, lt-ltb}
use Rattle.std.specs.Option.{option_map}
use Rattle.std.specs.Prelude.{if◌then◌else◌, nat_lt}
use Rattle.base_bytes.specs.declared.change.Change.{Change}
use Rattle.base_bytes.specs.declared.limits.TheConstants.{SCRIPT_LIMIT}
use Rattle.base_devices.specs.CrashImages.{Image, GoesOn}
use Rattle.base_devices.specs.Frames.{KeepsCounts, LeavesBetween}
use Rattle.base_devices.specs.HostCalls.{HostMoment}
use Rattle.base_devices.proofs.Moments.{each_then}
use Rattle.base_notes.specs.declared.note.Device.TheVariants.{Host}
use Rattle.base_notes.specs.declared.note.LimitName.TheVariants.{Script}
use Rattle.base_notes.specs.declared.note.Note.{Note}
use Rattle.base_notes.specs.declared.note.Note.TheVariants.{Done, BadLine, Limit, DeviceFault}
use Rattle.base_notes.specs.declared.note.Device.TheVariants.{Input}
use Rattle.db_core.specs.Calls.{OpensCommitted}
use Rattle.db_core.specs.Sessions.{DbKind, DbState, aborted}
use Rattle.db_core.specs.declared.fault.DbFault.{DbFault}
use Rattle.db_tool.specs.Printing.{Printed, PrintsSome, PrintMoment, Prints}
use Rattle.db_tool.specs.Tasks.{words_after}
use Rattle.db_tool.specs.ToolNotes.{IsFault, IsCutOff, change_note}
use Rattle.db_tool.proofs.PrintLemmas.{printed_then}
use Rattle.db_script.specs.Fields.{before}
use Rattle.db_script.specs.Lines.{Command, begin, commit, abort, show, get, set, delete, lines_of, read_line}
use Rattle.db_script.specs.Replies.{is_placed, change_of, commits, owed_by, reply_of, session_after}
use Rattle.db_script.specs.Scripts.{Reply, Progress, Ending, ends, unless_owed, do_command, do_line, goes_on, after_line, ending_of, joined, word_of, words_of, words_behind}
use Rattle.db_script.specs.Steps.{asked, LineMoment, line_note, JoinsOutput, LineDone, EndsWhole, EndsAtLine, DoesOrEnds}
use Rattle.db_script.specs.Course.{ScriptMoment, DrawsFew, IsAt, IsLeft, LeavesNext, NextDone, NextEnds, EndsStated, DoesNext}
use Rattle.db_script.specs.Moments.{MayBeDone, CommitsNothing, IsFromAfter, LeavesLine}
use Rattle.db_script.specs.Batch.{end_note, found_or_note}
use Rattle.db_script.specs.Reading.{ScriptState, HandsOut, AnswersLine, to_come}
use Rattle.db_script.specs.declared.script.ScriptFault.{ScriptFault}
use Rattle.db_script.specs.declared.script.ScriptFault.TheVariants.{TooLong, BadLine as IsBad, NoMemory, InputFault}
use Rattle.rand_core.specs.Stream.{Stream, next_u32}
use Rattle.db_script.proofs.LineLemmas.{no_lines}
use Rattle.db_script.proofs.WayLemmas.{grows}
use Rattle.db_script.proofs.StandLemmas.{commits_none, more_by, stands_line}
use Rattle.db_script.proofs.MomentLemmas.{counts_then}
use Rattle.db_script.proofs.StepLemmas.{failed_or_not}

-- ---- the replies of more lines

pub replies_more : (replies : List Reply) (reply : Reply) → joined (replies ++ (reply ∷ [])) ≡ joined replies ++ reply.text
unfolding joined
replies_more [] reply = append-nil reply.text
replies_more (first ∷ replies) reply = ap (λ (l : List ℕ). first.text ++ l) (replies_more replies reply) ∙ sym (append_assoc first.text (joined replies) reply.text)

-- ---- the line's random word

put_same : (word other : ℕ) (key value : List ℕ) (kind : DbKind) (s : DbState) → change_of word (set key value) ≡ change_of other (set key value)
    → session_after kind word s (set key value) ≡ session_after kind other s (set key value)
put_same word other key value kind s is = ap (λ (w : ℕ). session_after kind w s (set key value)) (cc is)

pub same_session : (kind : DbKind) (word other : ℕ) (s : DbState) (command : Command) → change_of word command ≡ change_of other command → session_after kind word s command ≡ session_after kind other s command
same_session kind word other s begin is = refl
same_session kind word other s commit is = refl
same_session kind word other s abort is = refl
same_session kind word other s (show prefix) is = refl
same_session kind word other s (get key) is = refl
same_session kind word other s (set key value) is = put_same word other key value kind s is
same_session kind word other s (delete key) is = refl

pub same_note : (kind : DbKind) (s : DbState) (number word other count : ℕ) (command : Command) → number ≡ count → change_of word command ≡ change_of other command
    → line_note kind s (asked number word command) ≡ line_note kind s (asked count other command)
same_note kind s number word other count command is drawn =
    ap (λ (o : Option Change). if is_placed s.in_transaction command then option_map (change_note Host) (owed_by kind s o) else Some (BadLine number)) drawn
    ∙ ap (λ (n : ℕ). if is_placed s.in_transaction command then option_map (change_note Host) (owed_by kind s (change_of other command)) else Some (BadLine n)) is

-- a line out of its place draws none
misplaced_draws : (in_one : Bool) (command : Command) → is_placed in_one command ≡ false → words_of command ≡ 0
misplaced_draws in_one begin is = refl
misplaced_draws in_one commit is = refl
misplaced_draws in_one abort is = refl
misplaced_draws in_one (show prefix) is = refl
misplaced_draws in_one (get key) is = refl
misplaced_draws in_one (set key value) is = absurd (cc is)
misplaced_draws in_one (delete key) is = refl

one_more : (n : ℕ) → suc (n + 1) ≡ suc n + 1
one_more n = omega arith

no_more : (n : ℕ) → n ≡ n + 0
no_more n = omega arith

next_after : (n : ℕ) (words : Stream) → (next_u32 (words_after n words)).1 ≡ words_after (n + 1) words
next_after zero words = refl
next_after (suc n) words = next_after n (next_u32 words).1 ∙ ap (λ (k : ℕ). words_after k words) (one_more n)

words_on : (command : Command) (n : ℕ) (now start : Stream) → now ≡ words_after n start → words_behind command now ≡ words_after (n + words_of command) start
words_on begin n now start is = is ∙ ap (λ (k : ℕ). words_after k start) (no_more n)
words_on commit n now start is = is ∙ ap (λ (k : ℕ). words_after k start) (no_more n)
words_on abort n now start is = is ∙ ap (λ (k : ℕ). words_after k start) (no_more n)
words_on (show prefix) n now start is = is ∙ ap (λ (k : ℕ). words_after k start) (no_more n)
words_on (get key) n now start is = is ∙ ap (λ (k : ℕ). words_after k start) (no_more n)
words_on (set key value) n now start is = ap (λ (w : Stream). (next_u32 w).1) is ∙ next_after n start
words_on (delete key) n now start is = is ∙ ap (λ (k : ℕ). words_after k start) (no_more n)

-- ---- one step of the end

module _ (kind : DbKind) (p : Progress) (line : List ℕ) (command : Command) where
  abbrev noted : Option Note
  noted = line_note kind p.session (asked (p.lines + 1) (word_of p) command)

  done_by : (b : Bool) (o : Option DbFault) (q : Progress) → (if b then option_map (change_note Host) o else Some (BadLine (p.lines + 1))) ≡ None
      → (if b then unless_owed o p command q else Err (ends p (BadLine (p.lines + 1)))) ≡ Ok q
  done_by true None q is = refl
  done_by true (Some fault) q is = absurd (cc is)
  done_by false o q is = absurd (cc is)

  pub command_done : line_note kind p.session (asked (p.lines + 1) (word_of p) command) ≡ None → do_command kind p line (Some command) ≡ Ok (after_line kind p line command)
  command_done is = done_by (is_placed p.session.in_transaction command) (owed_by kind p.session (change_of (word_of p) command)) (after_line kind p line command) is

  -- the script ends so, with no line done besides
  pub record EndsSo (note : Note) (result : Result Progress Ending) : Type 0 where
    pub end : Ending
    pub is : result ≡ Err end
    pub noted : end.note ≡ note
    pub done : end.done ≡ p
    pub drawn : end.drawn ≡ p.drawn + words_of command

  ended_by : (b : Bool) (o : Option DbFault) (q : Progress) (note : Note) → (if b then option_map (change_note Host) o else Some (BadLine (p.lines + 1))) ≡ Some note
      → (b ≡ false → words_of command ≡ 0) → EndsSo note (if b then unless_owed o p command q else Err (ends p (BadLine (p.lines + 1))))
  ended_by true None q note is few = absurd (cc is)
  ended_by true (Some fault) q note is few = record { end = _; is = refl; noted = cc is; done = refl; drawn = refl }
  ended_by false o q note is few = record { end = _; is = refl; noted = cc is; done = refl; drawn = omega (arith, few refl) }

  pub command_ended : (note : Note) → line_note kind p.session (asked (p.lines + 1) (word_of p) command) ≡ Some note → EndsSo note (do_command kind p line (Some command))
  command_ended note is = ended_by (is_placed p.session.in_transaction command) (owed_by kind p.session (change_of (word_of p) command)) (after_line kind p line command) note is
      (misplaced_draws p.session.in_transaction command)

short : (p : Progress) (line : List ℕ) → p.size + length line ≤ SCRIPT_LIMIT → nat_lt SCRIPT_LIMIT (p.size + length line) ≡ false
short p line within = by (nat_lt SCRIPT_LIMIT (p.size + length line)) refl
  where
    by : (b : Bool) → nat_lt SCRIPT_LIMIT (p.size + length line) ≡ b → b ≡ false
    by true is = absurd (omega (arith, ltb-true SCRIPT_LIMIT (p.size + length line) is, within))
    by false is = refl

long : (p : Progress) (line : List ℕ) → SCRIPT_LIMIT < p.size + length line → nat_lt SCRIPT_LIMIT (p.size + length line) ≡ true
long p line over = lt-ltb SCRIPT_LIMIT (p.size + length line) over

line_within : (kind : DbKind) (p : Progress) (line : List ℕ) (o : Option Command) → p.size + length line ≤ SCRIPT_LIMIT → read_line (before 10 line) ≡ o → do_line kind p line ≡ do_command kind p line o
line_within kind p line o within is =
    ap (λ (b : Bool). if b then Err (ends p (Limit Script (SCRIPT_LIMIT + 1))) else do_command kind p line (read_line (before 10 line))) (short p line within)
    ∙ ap (do_command kind p line) is

ending_first : (kind : DbKind) (p : Progress) (script line : List ℕ) (lines : List (List ℕ)) → lines_of script ≡ line ∷ lines
    → ending_of kind p (lines_of script) ≡ goes_on (λ q. ending_of kind q lines) (do_line kind p line)
unfolding ending_of
ending_first kind p script line lines is = ap (ending_of kind p) is

pub ending_done : (kind : DbKind) (p : Progress) (script line : List ℕ) (lines : List (List ℕ)) (command : Command) → lines_of script ≡ line ∷ lines → p.size + length line ≤ SCRIPT_LIMIT
    → read_line (before 10 line) ≡ Some command → line_note kind p.session (asked (p.lines + 1) (word_of p) command) ≡ None
    → ending_of kind (after_line kind p line command) lines ≡ ending_of kind p (lines_of script)
ending_done kind p script line lines command is within asks none =
    sym (ending_first kind p script line lines is
    ∙ ap (goes_on (λ q. ending_of kind q lines)) (line_within kind p line (Some command) within asks ∙ command_done kind p line command none))

-- the end of a script, where no line is done besides
pub record StatedHere (p : Progress) (e : Ending) (count : ℕ) (note : Note) : Type 0 where
  pub ends : note ≡ e.note
  pub done : e.done ≡ p
  pub drawn : e.drawn ≡ p.drawn + count

ending_here : (kind : DbKind) (p : Progress) (script line : List ℕ) (lines : List (List ℕ)) (count : ℕ) (note : Note) (end : Ending) → lines_of script ≡ line ∷ lines → do_line kind p line ≡ Err end
    → end.note ≡ note → end.done ≡ p → end.drawn ≡ p.drawn + count → StatedHere p (ending_of kind p (lines_of script)) count note
ending_here kind p script line lines count note end is err noted done drawn =
    let all : ending_of kind p (lines_of script) ≡ end = ending_first kind p script line lines is ∙ ap (goes_on (λ q. ending_of kind q lines)) err in
    record { ends = sym (ap (λ (e : Ending). e.note) all ∙ noted); done = ap (λ (e : Ending). e.done) all ∙ done; drawn = ap (λ (e : Ending). e.drawn) all ∙ drawn }

pub ending_refused : (kind : DbKind) (p : Progress) (script line : List ℕ) (lines : List (List ℕ)) (command : Command) (note : Note) → lines_of script ≡ line ∷ lines → p.size + length line ≤ SCRIPT_LIMIT
    → read_line (before 10 line) ≡ Some command → line_note kind p.session (asked (p.lines + 1) (word_of p) command) ≡ Some note → StatedHere p (ending_of kind p (lines_of script)) (words_of command) note
ending_refused kind p script line lines command note is within asks some =
    let so = command_ended kind p line command note some in
    ending_here kind p script line lines _ note so.end is (line_within kind p line (Some command) within asks ∙ so.is) so.noted so.done so.drawn

pub ending_wrong : (kind : DbKind) (p : Progress) (script line : List ℕ) (lines : List (List ℕ)) → lines_of script ≡ line ∷ lines → p.size + length line ≤ SCRIPT_LIMIT
    → read_line (before 10 line) ≡ None → StatedHere p (ending_of kind p (lines_of script)) 0 (BadLine (p.lines + 1))
ending_wrong kind p script line lines is within wrong = ending_here kind p script line lines 0 _ _ is (line_within kind p line None within wrong) refl refl (no_more p.drawn)

pub ending_too_long : (kind : DbKind) (p : Progress) (script line : List ℕ) (lines : List (List ℕ)) → lines_of script ≡ line ∷ lines → SCRIPT_LIMIT < p.size + length line
    → StatedHere p (ending_of kind p (lines_of script)) 0 (Limit Script (SCRIPT_LIMIT + 1))
ending_too_long kind p script line lines is over =
    ending_here kind p script line lines 0 _ _ is
    (ap (λ (b : Bool). if b then Err (ends p (Limit Script (SCRIPT_LIMIT + 1))) else do_command kind p line (read_line (before 10 line))) (long p line over)) refl refl (no_more p.drawn)

pub ending_over : (kind : DbKind) (p : Progress) (script : List ℕ) → lines_of script ≡ [] → StatedHere p (ending_of kind p (lines_of script)) 0 (if p.session.in_transaction then BadLine (p.lines + 1) else Done)
unfolding ending_of
ending_over kind p script none =
    let all = ap (ending_of kind p) none in
    record { ends = sym (ap (λ (e : Ending). e.note) all); done = ap (λ (e : Ending). e.done) all; drawn = ap (λ (e : Ending). e.drawn) all ∙ no_more p.drawn }

-- ---- output

pub joins_then : (m n o : PrintMoment) (x : List ℕ) → JoinsOutput [] m n → JoinsOutput x n o → JoinsOutput x m o
joins_then m n o x first second = record {
  some = record {
    printed = first.some.printed ++ second.some.printed;
    unprinted = second.some.unprinted;
    whole = append_assoc first.some.printed second.some.printed second.some.unprinted ∙ ap (λ (l : List ℕ). first.some.printed ++ l) second.some.whole
        ∙ ap (λ (l : List ℕ). first.some.printed ++ (l ++ x)) first.rest ∙ sym (append_assoc first.some.printed first.some.unprinted x)
        ∙ ap (λ (l : List ℕ). l ++ x) (first.some.whole ∙ append-nil m.held);
    grew = printed_then m.host n.host o.host first.some.printed second.some.printed first.some.grew second.some.grew;
  };
  rest = second.rest;
}

pub some_then : (m n : PrintMoment) (o : HostMoment) (x : List ℕ) → JoinsOutput [] m n → PrintsSome (n.held ++ x) n.host o → PrintsSome (m.held ++ x) m.host o
some_then m n o x first second = record {
  printed = first.some.printed ++ second.printed;
  unprinted = second.unprinted;
  whole = append_assoc first.some.printed second.printed second.unprinted ∙ ap (λ (l : List ℕ). first.some.printed ++ l) second.whole
      ∙ ap (λ (l : List ℕ). first.some.printed ++ (l ++ x)) first.rest ∙ sym (append_assoc first.some.printed first.some.unprinted x)
      ∙ ap (λ (l : List ℕ). l ++ x) (first.some.whole ∙ append-nil m.held);
  grew = printed_then m.host n.host o first.some.printed second.printed first.some.grew second.grew;
}

pub all_then : (m n : PrintMoment) (o : HostMoment) → JoinsOutput [] m n → Printed n.held n.host o → Printed m.held m.host o
all_then m n o first second =
    subst (λ (l : List ℕ). Printed l m.host o)
    (ap (λ (l : List ℕ). first.some.printed ++ l) first.rest ∙ first.some.whole ∙ append-nil m.held)
    (printed_then m.host n.host o first.some.printed n.held first.some.grew second)

pub joins_of : {T E : Type 0} (bytes : List ℕ) (m n : PrintMoment) (x : T) → Prints {E = E} bytes m n (Ok x) → JoinsOutput bytes m n
joins_of bytes m n x prints = record { some = prints.some; rest = prints.rest }

whole_then : (old mid new : LineMoment) → mid.session ≡ old.session → JoinsOutput [] old.output mid.output → EndsWhole mid new → EndsWhole old new
whole_then old mid new same joins whole = record {
  printed = all_then old.output mid.output new.output.host joins whole.printed;
  session = whole.session ∙ ap (λ (s : DbState). aborted s) same;
}

-- ---- what is left

-- how much is printed, with what is gathered
pub joins_most : (bytes : List ℕ) (m n : PrintMoment) → JoinsOutput bytes m n → n.host.disk.mark + length n.held ≤ m.host.disk.mark + length (m.held ++ bytes)
joins_most bytes m n joins =
    omega (arith, joins.some.grew.most, ap length joins.rest, ap length joins.some.whole, length-append joins.some.printed joins.some.unprinted)

-- an image of what was committed before
left_here : (kind : DbKind) (p : Progress) (e : Ending) (rest : List (List ℕ)) (MayBe : Progress → Type 0) (old : PrintMoment) (c : Image) (n : ℕ) → ending_of kind p rest ≡ e → kind.opens c p.session.committed
    → n ≤ old.host.disk.mark + length old.held → IsLeft kind p e MayBe old c n
left_here kind p e rest MayBe old c n leads opens within = record {
  reached = p;
  rest = rest;
  leads = leads;
  which = inl refl;
  stands = λ start so. so;
  opens = opens;
  reply = [];
  replies = sym (append-nil (joined p.replies));
  within = omega (arith, within, length-append old.held []);
}

-- no word was drawn
draws_none : (kind : DbKind) (p : Progress) (lines : List (List ℕ)) (start words : Stream) → words ≡ p.words → p.words ≡ words_after p.drawn start → DrawsFew (ending_of kind p lines).drawn start words
draws_none kind p lines start words still drawn = record { count = p.drawn; drawn = still ∙ drawn; within = (grows kind p lines).drawn }

-- what is gathered was printed in part
pub ends_printing : {T E : Type 0} (kind : DbKind) (p : Progress) (old new : ScriptMoment) (left : List ℕ) (note : Note) (fault : E) → IsAt p old → IsFault note → new.reads.words ≡ old.reads.words
    → LeavesBetween old.line.output.host.disk new.line.output.host.disk (OpensCommitted kind old.line.session) → Prints {T = T} [] old.line.output new.line.output (Err fault)
    → NextEnds kind p (ending_of kind p (lines_of (to_come old.reads.script left))) old new note
ends_printing kind p old new left note fault at failed still way prints = record {
  reached = p;
  rest = lines_of (to_come old.reads.script left);
  leads = refl;
  reply = [];
  replies = sym (append-nil (joined p.replies));
  prints = prints.some;
  stated = inl (inl failed);
  moments = record {
    later = prints.some.grew.later;
    each = record {
      each = λ c n left_now.
          let q = way.each c n left_now in (
            q.0,
            q.1,
            left_here kind p _ (lines_of (to_come old.reads.script left)) (λ _. IsFault note) old.line.output c n refl (subst (λ (s : DbState). kind.opens c s.committed) (sym at.session) q.2)
                (omega (arith, q.1, prints.some.grew.most, ap length prints.some.whole, length-append prints.some.printed prints.some.unprinted, length-append old.line.output.held [])),
          );
    };
  };
  whole = λ sound. absurd (sound failed);
  draws = λ start drawn. draws_none kind p (lines_of (to_come old.reads.script left)) start new.reads.words (still ∙ sym at.words) drawn;
  idle = λ _ sound. absurd (sound failed);
}

-- what is gathered was printed first
module _ (kind : DbKind) (p : Progress) (e : Ending) (rest : List (List ℕ)) (MayBe : Progress → Type 0) (old new : ScriptMoment) (mid : LineMoment) (leads : ending_of kind p rest ≡ e) (at : IsAt p old)
    (joins : JoinsOutput [] old.line.output mid.output) (way : LeavesBetween old.line.output.host.disk mid.output.host.disk (OpensCommitted kind old.line.session)) where
  most : mid.output.host.disk.mark + length mid.output.held ≤ old.line.output.host.disk.mark + length old.line.output.held
  most = omega (arith, joins_most [] old.line.output mid.output joins, length-append old.line.output.held [])

  first_left : (c : Image) (n : ℕ) → mid.output.host.disk.left_since old.line.output.host.disk.clock c n
      → (old.line.output.host.disk.mark ≤ n) × (n ≤ mid.output.host.disk.mark) × IsLeft kind p e MayBe old.line.output c n
  first_left c n left =
      let q = way.each c n left in
      (q.0, q.1, left_here kind p e rest MayBe old.line.output c n leads (subst (λ (s : DbState). kind.opens c s.committed) (sym at.session) q.2) (omega (arith, q.1, most)))

  -- no more was done
  pub left_printed : new.line.output.host ≡ mid.output.host → LeavesNext kind p e MayBe old new
  left_printed same =
      subst (λ (h : HostMoment). LeavesNext kind p e MayBe old (record { reads = new.reads; line = record { session = new.line.session; output = record { held = new.line.output.held; host = h } } })) (sym same)
      (record { later = joins.some.grew.later; each = record { each = first_left } })

  module _ (om : GoesOn old.line.output.host.disk mid.output.host.disk) (mn : GoesOn mid.output.host.disk new.line.output.host.disk) (later : mid.output.host.disk.mark ≤ new.line.output.host.disk.mark) where
    pub left_then : ((c : Image) (n : ℕ) → new.line.output.host.disk.left_since mid.output.host.disk.clock c n
        → (mid.output.host.disk.mark ≤ n) × (n ≤ new.line.output.host.disk.mark) × IsLeft kind p e MayBe old.line.output c n) → LeavesNext kind p e MayBe old new
    left_then behind = record {
      later = omega (arith, joins.some.grew.later, later);
      each = each_then old.line.output.host.disk mid.output.host.disk new.line.output.host.disk _ om mn
          (record { each = λ c n left. let q = first_left c n left in (q.0, omega (arith, q.1, later), q.2) })
          (record { each = λ c n left. let q = behind c n left in (omega (arith, q.0, joins.some.grew.later), q.1, q.2) });
    }

    -- what is gathered was printed, and an open transaction given up
    pub left_stopped : mid.session ≡ old.line.session → PrintsSome mid.output.held mid.output.host new.line.output.host → LeavesBetween mid.output.host.disk new.line.output.host.disk (OpensCommitted kind mid.session)
        → LeavesNext kind p e MayBe old new
    left_stopped same some rest_left = left_then (λ c n left.
        let q = rest_left.each c n left in (
          q.0,
          q.1,
          left_here kind p e rest MayBe old.line.output c n leads (subst (λ (s : DbState). kind.opens c s.committed) (same ∙ sym at.session) q.2)
              (omega (arith, q.1, most, some.grew.most, ap length some.whole, length-append some.printed some.unprinted)),
        ))

-- ---- the next line

module _ (kind : DbKind) (p : Progress) (old new : ScriptMoment) (mid : LineMoment) (number word : ℕ) (command : Command) (left now : List ℕ)
    (at : IsAt p old) (joins : JoinsOutput [] old.line.output mid.output) (same : mid.session ≡ old.line.session) (shown : new.reads.left ≡ Some now)
    (hands : HandsOut old.reads.script new.reads.script (to_come old.reads.script left) (to_come new.reads.script now) command) (is : number ≡ old.reads.script.lines + 1)
    (drawn : change_of word command ≡ change_of (next_u32 old.reads.words).0 command) (words : new.reads.words ≡ words_behind command old.reads.words) where
  abbrev script : List ℕ
  script = to_come old.reads.script left

  abbrev rest : List (List ℕ)
  rest = lines_of (to_come new.reads.script now)

  session : mid.session ≡ p.session
  session = same ∙ sym at.session

  word_drawn : change_of word command ≡ change_of (word_of p) command
  word_drawn = drawn ∙ ap (λ (w : Stream). change_of (next_u32 w).0 command) (sym at.words)

  noted_so : line_note kind p.session (asked (p.lines + 1) (word_of p) command) ≡ line_note kind mid.session (asked number word command)
  noted_so = sym (ap (λ (s : DbState). line_note kind s (asked number word command)) session
      ∙ same_note kind p.session number word (word_of p) (p.lines + 1) command (is ∙ ap (λ (n : ℕ). n + 1) (sym at.lines)) word_drawn)

  within : p.size + length hands.line ≤ SCRIPT_LIMIT
  within = omega (arith, at.size, hands.size, hands.within)

  leads_on : line_note kind mid.session (asked number word command) ≡ None → ending_of kind (after_line kind p hands.line command) (lines_of (to_come new.reads.script now)) ≡ ending_of kind p (lines_of (to_come old.reads.script left))
  leads_on none = ending_done kind p script hands.line rest command hands.is within hands.asks (noted_so ∙ none)

  replied : reply_of mid.session command ≡ reply_of p.session command
  replied = ap (λ (s : DbState). reply_of s command) session

  abbrev to_end : Ending
  to_end = ending_of kind p (lines_of (to_come old.reads.script left))

  abbrev next : Progress
  next = after_line kind p hands.line command

  session_next : session_after kind word mid.session command ≡ next.session
  session_next = ap (λ (s : DbState). session_after kind word s command) session ∙ same_session kind word (word_of p) p.session command word_drawn

  module _ (way : LeavesBetween old.line.output.host.disk mid.output.host.disk (OpensCommitted kind old.line.session)) (om : GoesOn old.line.output.host.disk mid.output.host.disk)
      (mn : GoesOn mid.output.host.disk new.line.output.host.disk) (still : KeepsCounts old.line.output.host.disk mid.output.host.disk) where
    left_after : (MayBe : Progress → Type 0) (c : Image) (n : ℕ) → MayBe next → IsFromAfter kind (asked number word command) mid c n → IsLeft kind p to_end MayBe old.line.output c n
    left_after MayBe c n may is = record {
      reached = next;
      rest = rest;
      leads = leads_on is.stated;
      which = inr may;
      stands = λ start so. stands_line kind start p hands.line so command;
      opens = subst (λ (s : DbState). kind.opens c s.committed) session_next is.opens;
      reply = reply_of p.session command;
      replies = replies_more p.replies _;
      within = omega (
        arith,
        is.within,
        joins_most [] old.line.output mid.output joins,
        length-append old.line.output.held [],
        length-append mid.output.held (reply_of mid.session command),
        length-append old.line.output.held (reply_of p.session command),
        ap length replied,
      );
    }

    leaves_next : (MayBe : Progress → Type 0) (result : Option Note) → (MayBeDone result → MayBe next) → LeavesLine kind (asked number word command) mid new.line result → LeavesNext kind p to_end MayBe old new
    leaves_next MayBe result may leaves = left_then kind p to_end (lines_of script) MayBe old new mid refl at joins way om mn leaves.later (λ c n left.
        let q = leaves.each.each c n left in (
          q.0,
          q.1,
          ⊎_elim
              (λ was. left_here kind p to_end (lines_of script) MayBe old.line.output c n refl (subst (λ (s : DbState). kind.opens c s.committed) session was.0)
              (omega (arith, was.1, joins_most [] old.line.output mid.output joins, length-append old.line.output.held [])))
              (λ both. left_after MayBe c n (may both.0) both.1) q.2,
        ))

    idle_next : (result : Option Note) → LeavesLine kind (asked number word command) mid new.line result → kind.works_in_place ≡ false → CommitsNothing (asked number word command) mid result
        → KeepsCounts old.line.output.host.disk new.line.output.host.disk
    idle_next result leaves whole nothing = counts_then old.line.output.host.disk mid.output.host.disk new.line.output.host.disk still (leaves.idle whole nothing)

  drawn_within : p.drawn + words_of command ≤ to_end.drawn
  drawn_within = by (line_note kind mid.session (asked number word command)) refl
    where
      by : (o : Option Note) → line_note kind mid.session (asked number word command) ≡ o → p.drawn + words_of command ≤ to_end.drawn
      by None none = omega (arith, (grows kind next rest).drawn, ap (λ (f : Ending). f.drawn) (leads_on none))
      by (Some note) some = omega (arith, (ending_refused kind p script hands.line rest command note hands.is within hands.asks (noted_so ∙ some)).drawn)

  words_next : (start : Stream) → p.words ≡ words_after p.drawn start → new.reads.words ≡ words_after (p.drawn + words_of command) start
  words_next start drawn = words ∙ ap (words_behind command) (sym at.words) ∙ words_on command p.drawn p.words start drawn

  commits_so : length next.transactions ≡ 0 → commits mid.session.in_transaction command ≡ false
  commits_so none = ap (λ (s : DbState). commits s.in_transaction command) session ∙ commits_none kind p hands.line command none

  next_done : LineDone kind (asked number word command) mid new.line → LeavesNext kind p (ending_of kind p (lines_of (to_come old.reads.script left))) (λ q. q ≡ next) old new
      → (kind.works_in_place ≡ false → length next.transactions ≡ 0 → KeepsCounts old.line.output.host.disk new.line.output.host.disk)
      → NextDone kind p (ending_of kind p (lines_of (to_come old.reads.script left))) old new
  next_done done leaves idle = record {
    left = now;
    shown = shown;
    next = after_line kind p hands.line command;
    leads = leads_on done.stated;
    at = record {
      lines = ap (λ (n : ℕ). n + 1) at.lines ∙ sym hands.lines;
      size = ap (λ (n : ℕ). n + length hands.line) at.size ∙ sym hands.size;
      session = sym (done.session ∙ session_next);
      words = ap (words_behind command) at.words ∙ sym words;
    };
    reply = reply_of p.session command;
    replies = replies_more p.replies _;
    words = λ start drawn. words_on command p.drawn p.words start drawn;
    output = joins_then old.line.output mid.output new.line.output _ joins (subst (λ (l : List ℕ). JoinsOutput l mid.output new.line.output) replied done.replies);
    stands = λ start so. stands_line kind start p hands.line so command;
    more = more_by kind p hands.line command;
    moments = leaves;
    idle = idle;
  }

  next_ends : (note : Note) → EndsAtLine kind (asked number word command) mid new.line note → LeavesNext kind p (ending_of kind p (lines_of (to_come old.reads.script left))) (λ _. IsFault note) old new
      → (kind.works_in_place ≡ false → (IsFault note → ⊥) → KeepsCounts old.line.output.host.disk new.line.output.host.disk)
      → NextEnds kind p (ending_of kind p (lines_of (to_come old.reads.script left))) old new note
  next_ends note end leaves idle = ⊎_elim
      (λ some. record {
        reached = p;
        rest = lines_of script;
        leads = refl;
        reply = [];
        replies = sym (append-nil (joined p.replies));
        prints = some_then old.line.output mid.output new.line.output.host [] joins (subst (λ (l : List ℕ). PrintsSome l mid.output.host new.line.output.host) (sym (append-nil mid.output.held)) some);
        stated = stated (failed_or_not note);
        moments = leaves;
        whole = λ sound. whole_then old.line mid new.line same joins (end.whole sound);
        draws = λ start drawn. record { count = p.drawn + words_of command; drawn = words_next start drawn; within = drawn_within };
        idle = idle;
      })
      (λ both. record {
        reached = after_line kind p hands.line command;
        rest = rest;
        leads = leads_on both.0;
        reply = reply_of p.session command;
        replies = replies_more p.replies _;
        prints = some_then old.line.output mid.output new.line.output.host (reply_of p.session command) joins
            (subst (λ (l : List ℕ). PrintsSome (mid.output.held ++ l) mid.output.host new.line.output.host) replied both.1);
        stated = stated (failed_or_not note);
        moments = leaves;
        whole = λ sound. whole_then old.line mid new.line same joins (end.whole sound);
        draws = λ start drawn. record { count = p.drawn + words_of command; drawn = words_next start drawn; within = drawn_within };
        idle = idle;
      })
      end.prints
    where
      met : (IsFault note → ⊥) → line_note kind mid.session (asked number word command) ≡ Some note → EndsStated p (ending_of kind p (lines_of script)) old new note
      met sound some =
          let here = ending_refused kind p script hands.line rest command note hands.is within hands.asks (noted_so ∙ some) in
          record { ends = here.ends; done = here.done; whole = whole_then old.line mid new.line same joins (end.whole sound); words = λ start drawn. words_next start drawn ∙ ap (λ (k : ℕ). words_after k start) (sym here.drawn) }

      stated : IsFault note ⊎ (IsFault note → ⊥) → IsCutOff note ⊎ EndsStated p (ending_of kind p (lines_of script)) old new note
      stated (inl failed) = inl (inl failed)
      stated (inr sound) = ⊎_elim inl (λ some. inr (met sound some)) end.stated

  pub goes_next : LeavesBetween old.line.output.host.disk mid.output.host.disk (OpensCommitted kind old.line.session) → GoesOn old.line.output.host.disk mid.output.host.disk
      → GoesOn mid.output.host.disk new.line.output.host.disk → KeepsCounts old.line.output.host.disk mid.output.host.disk → (result : Option Note) → DoesOrEnds kind (asked number word command) mid new.line result → LeavesLine kind (asked number word command) mid new.line result
      → DoesNext kind p (ending_of kind p (lines_of (to_come old.reads.script left))) old new result
  goes_next way om mn still None does leaves =
      next_done does (leaves_next way om mn still (λ q. q ≡ next) None (λ _. refl) leaves) (λ whole none. idle_next way om mn still None leaves whole (commits_so none))
  goes_next way om mn still (Some note) does leaves =
      next_ends note does (leaves_next way om mn still (λ _. IsFault note) (Some note) (λ failed. failed) leaves) (idle_next way om mn still (Some note) leaves)

-- the line that was found is the one that was handed out
pub found_handed : {T : Type 0} (said : T → Command) (s t : ScriptState) (script rest : List ℕ) (in_one : Bool) (lines : ℕ) (found : T) (command : Command) (answer : Result (Option T) ScriptFault)
    → AnswersLine said s t script rest answer → Ok found ≡ found_or_note in_one lines answer → command ≡ said found → HandsOut s t script rest command
found_handed said s t script rest in_one lines found command (Ok (Some other)) is says asks = subst (λ (c : Command). HandsOut s t script rest c) (sym (asks ∙ ap said (cc says))) is
found_handed said s t script rest in_one lines found command (Ok None) is says asks = absurd (cc says)
found_handed said s t script rest in_one lines found command (Err fault) is says asks = absurd (cc says)

-- ---- no next line

found_note : {T : Type 0} (said : T → Command) (kind : DbKind) (p : Progress) (s t : ScriptState) (script rest : List ℕ) (in_one : Bool) (note : Note) (answer : Result (Option T) ScriptFault)
    → p.lines ≡ s.lines → p.size ≡ s.size → in_one ≡ p.session.in_transaction → AnswersLine said s t script rest answer → Err note ≡ found_or_note in_one s.lines answer
    → IsCutOff note ⊎ StatedHere p (ending_of kind p (lines_of script)) 0 note
found_note said kind p s t script rest in_one note (Ok None) lines size one is says =
    let here = ending_over kind p script (ap lines_of is.0 ∙ no_lines) in
    let same : note ≡ end_note in_one (s.lines + 1) = cc says in
    let stated : end_note in_one (s.lines + 1) ≡ end_note p.session.in_transaction (p.lines + 1) = ap (λ (b : Bool). end_note b (s.lines + 1)) one ∙ ap (λ (n : ℕ). end_note p.session.in_transaction (n + 1)) (sym lines) in
    inr (record { ends = same ∙ stated ∙ here.ends; done = here.done; drawn = here.drawn })
found_note said kind p s t script rest in_one note (Ok (Some found)) lines size one is says = absurd (cc says)
found_note said kind p s t script rest in_one note (Err TooLong) lines size one is says =
    let same : note ≡ Limit Script (SCRIPT_LIMIT + 1) = cc says in
    let here = ending_too_long kind p script is.line is.first.others is.first.is (omega (arith, is.why, size)) in
    inr (record { ends = same ∙ here.ends; done = here.done; drawn = here.drawn })
found_note said kind p s t script rest in_one note (Err (IsBad number)) lines size one is says =
    let same : note ≡ BadLine number = cc says in
    let here = ending_wrong kind p script is.line is.first.others is.first.is (omega (arith, is.why.0, size)) is.why.1 in
    inr (record { ends = same ∙ ap BadLine (is.why.2 ∙ ap (λ (n : ℕ). n + 1) (sym lines)) ∙ here.ends; done = here.done; drawn = here.drawn })
found_note said kind p s t script rest in_one note (Err NoMemory) lines size one is says = inl (inr (cc says))
found_note said kind p s t script rest in_one note (Err InputFault) lines size one is says =
    let same : note ≡ DeviceFault Input = cc says in
    inl (inl (subst IsFault (sym same) tt))

pub ends_next : {T : Type 0} (said : T → Command) (kind : DbKind) (p : Progress) (old new : ScriptMoment) (mid : LineMoment) (t : ScriptState) (left now : List ℕ) (in_one : Bool) (note result : Note) (answer : Result (Option T) ScriptFault)
    → IsAt p old → JoinsOutput [] old.line.output mid.output → mid.session ≡ old.line.session → new.reads.words ≡ old.reads.words → in_one ≡ old.line.session.in_transaction
    → AnswersLine said old.reads.script t (to_come old.reads.script left) (to_come t now) answer → Err note ≡ found_or_note in_one old.reads.script.lines answer
    → ((IsFault result → ⊥) → result ≡ note) → PrintsSome mid.output.held mid.output.host new.line.output.host → ((IsFault result → ⊥) → EndsWhole mid new.line)
    → LeavesNext kind p (ending_of kind p (lines_of (to_come old.reads.script left))) (λ _. IsFault result) old new
    → (kind.works_in_place ≡ false → KeepsCounts old.line.output.host.disk new.line.output.host.disk)
    → NextEnds kind p (ending_of kind p (lines_of (to_come old.reads.script left))) old new result
ends_next said kind p old new mid t left now in_one note result answer at joins same still one answers says kept some whole leaves idle = record {
  reached = p;
  rest = lines_of (to_come old.reads.script left);
  leads = refl;
  reply = [];
  replies = sym (append-nil (joined p.replies));
  prints = some_then old.line.output mid.output new.line.output.host [] joins (subst (λ (l : List ℕ). PrintsSome l mid.output.host new.line.output.host) (sym (append-nil mid.output.held)) some);
  stated = stated (failed_or_not result);
  moments = leaves;
  whole = λ sound. whole_then old.line mid new.line same joins (whole sound);
  draws = λ start drawn. draws_none kind p (lines_of (to_come old.reads.script left)) start new.reads.words (still ∙ sym at.words) drawn;
  idle = λ in_place _. idle in_place;
}
  where
    met : (IsFault result → ⊥) → StatedHere p (ending_of kind p (lines_of (to_come old.reads.script left))) 0 note → IsCutOff result ⊎ EndsStated p (ending_of kind p (lines_of (to_come old.reads.script left))) old new result
    met sound here = inr (record { ends = kept sound ∙ here.ends; done = here.done; whole = whole_then old.line mid new.line same joins (whole sound); words = λ start drawn. still ∙ sym at.words ∙ drawn ∙ ap (λ (k : ℕ). words_after k start) (no_more p.drawn ∙ sym here.drawn) })

    stated : IsFault result ⊎ (IsFault result → ⊥) → IsCutOff result ⊎ EndsStated p (ending_of kind p (lines_of (to_come old.reads.script left))) old new result
    stated (inl failed) = inl (inl failed)
    stated (inr sound) = ⊎_elim (λ cut. inl (subst IsCutOff (sym (kept sound)) cut)) (met sound)
        (found_note said kind p old.reads.script t (to_come old.reads.script left) (to_come t now) in_one note answer at.lines at.size (one ∙ ap (λ (s : DbState). s.in_transaction) (sym at.session)) answers says)
