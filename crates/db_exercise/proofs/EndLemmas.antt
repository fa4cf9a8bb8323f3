-- The rounds come to the stated end, or are cut off.
use Rattle.std.proofs.Common.{◌≡◌, ◌∙◌, ◌⊎◌, inl, inr, ⊎_elim, zero, suc, ℕ, ◌+◌, ◌-◌, ◌<◌, ◌≤◌, false, List, [], ◌∷◌, ◌++◌, Option, None, Some, Result, Ok, Err, length, refl, sym, ap, subst, arith, append_assoc, length-append}
use Rattle.std.proofs.lemmas.List.{append-nil}
use Rattle.std.specs.Prelude.{◌==◌, if◌then◌else◌}
use Rattle.base_bytes.specs.OrderedMap.{Map}
use Rattle.base_bytes.specs.Transactions.{Transaction, after_transactions, after_first}
use Rattle.base_devices.specs.CrashImages.{DiskState, GoesOn, LeavesOnly}
use Rattle.base_devices.specs.Frames.{KeepsCounts}
use Rattle.base_notes.specs.declared.note.Device.TheVariants.{Host}
use Rattle.base_notes.specs.declared.note.Note.{Note}
use Rattle.base_notes.specs.declared.note.Note.TheVariants.{DeviceFault, Memory}
use Rattle.db_core.specs.Calls.{OnDisk, OpensCommitted, KeepsInPlace}
use Rattle.db_core.specs.Refusals.{IsDiskFault}
use Rattle.db_core.specs.Sessions.{DbKind, DbState, over, at_rest}
use Rattle.db_core.specs.WholeTransactions.{MakesWhole, run_after, run_refusal}
use Rattle.db_core.specs.declared.fault.DbFault.{DbFault}
use Rattle.db_core.specs.declared.fault.DbFault.TheVariants.{Broken, KeyEmpty, KeyTooLong, ValueTooLong, Full, NoMemory, DiskFault}
use Rattle.db_exercise.specs.Changes.{transaction_at, words_left, words_in}
use Rattle.db_exercise.specs.Exercise.{Progress, Ending, nothing_done, next_of, after_round, ends_done, ends_refused, unless_owed, ending_of, task_of_ending, exercise_task}
use Rattle.db_exercise.specs.Rounds.{RoundMoment, OpensAfterSome, MakesAll, MakesRounds}
use Rattle.db_exercise.proofs.MadeLemmas.{after_within, after_all, each_kept, each_whole, makes_more, sound}
use Rattle.db_exercise.proofs.RefusalLemmas.{run_not_broken}
use Rattle.db_exercise.proofs.WordLemmas.{round_on}
use Rattle.db_tool.specs.Doing.{StandsAfter, DoesTask, DrawsWords, IsStated}
use Rattle.db_tool.specs.Printing.{Printed}
use Rattle.db_tool.specs.Tasks.{KeepsPrefix, words_after}
use Rattle.db_tool.specs.ToolNotes.{IsFault, IsCutOff, Faults, change_note}
use Rattle.db_tool.proofs.PrintLemmas.{printed_still, some_none}

-- ---- an end has all that was done before it

pub record Grows (p : Progress) (e : Ending) : Type 0 where
  pub rest : List Transaction
  pub is : e.done.transactions ≡ p.transactions ++ rest
  pub drawn : p.drawn ≤ e.drawn

grows_by : (p later : Progress) (o : Option DbFault) (e : Ending) (t : Transaction) → later.transactions ≡ p.transactions ++ (t ∷ []) → p.drawn ≤ later.drawn → Grows later e → Grows p (unless_owed o p e)
grows_by p later None e t one more on = record {
  rest = t ∷ on.rest;
  is = on.is ∙ ap (λ (l : List Transaction). l ++ on.rest) one ∙ append_assoc p.transactions (t ∷ []) on.rest;
  drawn = omega (arith, more, on.drawn);
}
grows_by p later (Some fault) e t one more on = record { rest = []; is = sym (append-nil p.transactions); drawn = omega arith }

pub grows : (kind : DbKind) (left : ℕ) (p : Progress) → Grows p (ending_of kind left p)
unfolding ending_of
grows kind zero p = record { rest = []; is = sym (append-nil p.transactions); drawn = omega arith }
grows kind (suc left) p =
    grows_by p (after_round kind p) (run_refusal kind p.session (next_of p)) (ending_of kind left (after_round kind p)) (next_of p) refl (omega arith) (grows kind left (after_round kind p))

-- a round draws its words, whether it is made or refused
draws_by : (p later : Progress) (o : Option DbFault) (e : Ending) → later.drawn ≡ p.drawn + words_in p.rounds → Grows later e → p.drawn + words_in p.rounds ≤ (unless_owed o p e).drawn
draws_by p later None e is on = omega (arith, is, on.drawn)
draws_by p later (Some fault) e is on = omega arith

draws : (kind : DbKind) (left : ℕ) (p : Progress) → p.drawn + words_in p.rounds ≤ (ending_of kind (suc left) p).drawn
unfolding ending_of
draws kind left p = draws_by p (after_round kind p) (run_refusal kind p.session (next_of p)) (ending_of kind left (after_round kind p)) refl (grows kind left (after_round kind p))

pub ending_over : (kind : DbKind) (p : Progress) → ending_of kind 0 p ≡ ends_done p
unfolding ending_of
ending_over kind p = refl

ending_by : (kind : DbKind) (left : ℕ) (p : Progress) (o : Option DbFault) → run_refusal kind p.session (next_of p) ≡ o → ending_of kind (suc left) p ≡ unless_owed o p (ending_of kind left (after_round kind p))
unfolding ending_of
ending_by kind left p o is = ap (λ (o : Option DbFault). unless_owed o p (ending_of kind left (after_round kind p))) is

-- ---- no round, and one more

all_left : (rounds : ℕ) → rounds - 0 ≡ rounds
all_left rounds = omega arith

pub rounds_none : (kind : DbKind) (rounds : ℕ) (m : RoundMoment) → MakesAll kind [] m.tool m.tool → MakesRounds kind rounds 0 m m
rounds_none kind rounds m made = record {
  done = nothing_done m.tool.session m.words;
  leads = ap (λ (n : ℕ). ending_of kind n (nothing_done m.tool.session m.words)) (all_left rounds);
  counted = refl;
  session = refl;
  words = refl;
  drawn = refl;
  made = made;
}

one_less : (rounds count : ℕ) → count < rounds → suc (rounds - (count + 1)) ≡ rounds - count
one_less rounds count within = omega (arith, within)

-- The next round over what was made so far.
module _ (kind : DbKind) (rounds count : ℕ) (old mid new : RoundMoment) (so : MakesRounds kind rounds count old mid) (within : count < rounds)
    (om : GoesOn old.tool.host.disk mid.tool.host.disk) (mn : GoesOn mid.tool.host.disk new.tool.host.disk)
    (streams : new.tool.host.streams ≡ mid.tool.host.streams) (left : new.words ≡ words_left count mid.words) where
  abbrev p : Progress
  p = so.done

  abbrev e : Ending
  e = ending_of kind rounds (nothing_done old.tool.session old.words)

  abbrev before : DiskState
  before = old.tool.host.disk

  abbrev after : DiskState
  after = new.tool.host.disk

  next_is : transaction_at count mid.words ≡ next_of p
  next_is = sym (ap (λ (n : ℕ). transaction_at n p.words) so.counted ∙ ap (transaction_at count) so.words)

  left_is : new.words ≡ words_left p.rounds p.words
  left_is = left ∙ sym (ap (λ (n : ℕ). words_left n p.words) so.counted ∙ ap (words_left count) so.words)

  drawn_is : new.words ≡ words_after (p.drawn + words_in p.rounds) old.words
  drawn_is = left_is ∙ round_on p.rounds p.drawn p.words old.words (so.words ∙ so.drawn)

  owed_is : run_refusal kind mid.tool.session (next_of p) ≡ run_refusal kind p.session (next_of p)
  owed_is = ap (λ (s : DbState). run_refusal kind s (next_of p)) (sym so.session)

  here : ending_of kind (suc (rounds - (count + 1))) p ≡ e
  here = ap (λ (n : ℕ). ending_of kind n p) (one_less rounds count within) ∙ so.leads

  pub rounds_more : (v : Unit {0}) → MakesWhole {T = Unit {0}} kind (transaction_at count mid.words) (over mid.tool.host.disk mid.tool.session) (over after new.tool.session) (Ok v) → MakesRounds kind rounds (count + 1) old new
  rounds_more v made =
      let whole = subst (λ (t : Transaction). MakesWhole {T = Unit {0}} kind t (over mid.tool.host.disk mid.tool.session) (over after new.tool.session) (Ok v)) next_is made in
      record {
        done = after_round kind p;
        leads = sym (ending_by kind (rounds - (count + 1)) p None (sym owed_is ∙ whole.ok)) ∙ here;
        counted = ap (λ (n : ℕ). n + 1) so.counted;
        session = sym (whole.done ∙ ap (λ (s : DbState). run_after kind s (next_of p)) (sym so.session));
        words = sym left_is;
        drawn = drawn_is;
        made = makes_more kind p.transactions (next_of p) old.tool mid.tool new.tool so.made om mn v streams whole;
      }

  -- ---- the next transaction is not made

  same_mark : {r : Result (Unit {0}) DbFault} → MakesWhole kind (next_of p) (over mid.tool.host.disk mid.tool.session) (over after new.tool.session) r → after.mark ≡ before.mark
  same_mark whole = whole.disk.mark ∙ so.made.mark

  nothing : after.mark ≡ before.mark → Printed [] old.tool.host new.tool.host
  nothing mark = printed_still old.tool.host new.tool.host (streams ∙ so.made.streams) mark

  none_acknowledged : (f : Ending) (n count : ℕ) → n ≡ 0 → (if n == 0 then 0 else length f.done.transactions) ≤ count
  none_acknowledged f n count is = subst (λ (k : ℕ). (if k == 0 then 0 else length f.done.transactions) ≤ count) (sym is) (omega arith)

  -- each image is one of the task's
  each_of_task : (f : Ending) (ts rest : List Transaction) → f.done.transactions ≡ ts ++ rest → after.mark ≡ before.mark
      → LeavesOnly before after (λ c n. (n ≡ before.mark) × OpensAfterSome kind old.tool.session.committed ts c)
      → LeavesOnly before after (λ c n. (before.mark ≤ n) × (n ≤ after.mark) × KeepsPrefix kind (task_of_ending f) old.tool.session.committed (n - before.mark) c)
  each_of_task f ts rest is mark only = record {
    each = λ c n at.
        let one = only.each c n at in (
          omega (arith, one.0),
          omega (arith, one.0, mark),
          record {
            count = one.1.count;
            within = omega (arith, one.1.within, ap length is, length-append ts rest);
            acknowledged = none_acknowledged f (n - before.mark) one.1.count (omega (arith, one.0));
            holds = subst (λ (x : Map). kind.opens c x)
                (sym (ap (after_first one.1.count old.tool.session.committed) is ∙ after_within one.1.count old.tool.session.committed ts rest one.1.within)) one.1.holds;
          },
        );
  }

  -- those that were made stand
  stands_of_task : (f : Ending) (rest : List Transaction) → f.done.transactions ≡ p.transactions ++ rest → after.mark ≡ before.mark → (note : Note) → ((note ≡ Memory → ⊥) → rest ≡ [])
      → new.tool.session ≡ mid.tool.session → (kind.works_in_place ≡ false → KeepsCounts mid.tool.host.disk after)
      → LeavesOnly before after (λ c n. (n ≡ before.mark) × OpensAfterSome kind old.tool.session.committed p.transactions c)
      → StandsAfter kind (task_of_ending f) old.tool new.tool note
  stands_of_task f rest is mark note all same idle only = record {
    count = length p.transactions;
    within = few;
    rests = same ∙ so.made.rests ∙ ap (λ (x : Map). at_rest x mid.tool.session.load) (sym first) ∙ ap (λ (s : DbState). at_rest (after_first (length p.transactions) old.tool.session.committed f.done.transactions) s.load) (sym same);
    whole = λ no_memory. sym (ap length (is ∙ ap (λ (l : List Transaction). p.transactions ++ l) (all no_memory) ∙ append-nil p.transactions));
    memory = λ _. (omega (arith, mark), few);
    no_more = record {
      each = λ c n at.
          let one = only.each c n at in
          record {
            count = one.1.count;
            within = one.1.within;
            holds = subst (λ (x : Map). kind.opens c x)
                (sym (ap (after_first one.1.count old.tool.session.committed) is ∙ after_within one.1.count old.tool.session.committed p.transactions rest one.1.within)) one.1.holds;
          };
    };
    same = λ none. same ∙ so.made.same none;
    idle = λ none rewrites.
        let one = so.made.idle none rewrites in
        let two = idle rewrites in
        record { fresh = two.fresh ∙ one.fresh; written = two.written ∙ one.written; publishes = two.publishes ∙ one.publishes };
  }
    where
      few : length p.transactions ≤ length f.done.transactions
      few = omega (arith, ap length is, length-append p.transactions rest)

      first : after_first (length p.transactions) old.tool.session.committed f.done.transactions ≡ after_transactions old.tool.session.committed p.transactions
      first =
          ap (after_first (length p.transactions) old.tool.session.committed) is
          ∙ after_within (length p.transactions) old.tool.session.committed p.transactions rest (omega arith)
          ∙ after_all old.tool.session.committed p.transactions

  in_place_of : {r : Result (Unit {0}) DbFault} → MakesWhole kind (next_of p) (over mid.tool.host.disk mid.tool.session) (over after new.tool.session) r → KeepsInPlace kind before after
  in_place_of whole = λ works. whole.in_place works ∙ so.made.in_place works

  -- the transaction is refused, or memory ran out
  is_kept : (f : Ending) (rest : List Transaction) → f.done.transactions ≡ p.transactions ++ rest → (fault : DbFault) → (IsDiskFault fault → ⊥) → (IsFault (change_note Host fault) → ⊥)
      → (IsCutOff (change_note Host fault) ⊎ IsStated (task_of_ending f) old.tool new.tool (change_note Host fault)) → ((change_note Host fault ≡ Memory → ⊥) → rest ≡ []) → new.tool.session ≡ mid.tool.session
      → MakesWhole {T = Unit {0}} kind (next_of p) (over mid.tool.host.disk mid.tool.session) (over after new.tool.session) (Err fault) → (kind.works_in_place ≡ false → IsDiskFault fault ⊎ KeepsCounts mid.tool.host.disk after)
      → DoesTask kind (task_of_ending f) old.tool new.tool (change_note Host fault)
  is_kept f rest is fault no_disk no_fault stated all same whole idle =
      let kept : OnDisk mid.tool.session (OpensCommitted kind mid.tool.session) mid.tool.host.disk after = ⊎_elim (λ failed. absurd (no_disk failed.0)) (λ kept. kept) whole.given_up in
      let only = each_kept kind p.transactions (next_of p) old.tool mid.tool new.tool so.made om mn kept in
      record {
        each = each_of_task f p.transactions rest is (same_mark whole) only;
        stated = stated;
        prints = some_none old.tool.host new.tool.host f.output (nothing (same_mark whole));
        stands = λ _. stands_of_task f rest is (same_mark whole) (change_note Host fault) all same (λ rewrites. ⊎_elim (λ failed. absurd (no_disk failed)) (λ kept. kept) (idle rewrites)) only;
        only_prints = λ is. absurd (cc is);
        in_place = in_place_of whole;
        faults = record {
          rose = λ is. absurd (no_fault (subst IsFault (sym is) tt));
          stood = λ _. ⊎_elim (λ failed. absurd (no_disk failed)) (λ same. same ∙ so.made.faults) whole.cause.stood;
        };
        device = λ device is. absurd (no_fault (subst IsFault (sym is) tt));
      }

  -- the disk failed, and each image is of these transactions
  is_failed : (f : Ending) (ts rest : List Transaction) → f.done.transactions ≡ ts ++ rest → MakesWhole {T = Unit {0}} kind (next_of p) (over mid.tool.host.disk mid.tool.session) (over after new.tool.session) (Err DiskFault)
      → LeavesOnly before after (λ c n. (n ≡ before.mark) × OpensAfterSome kind old.tool.session.committed ts c) → DoesTask kind (task_of_ending f) old.tool new.tool (DeviceFault Host)
  is_failed f ts rest is whole only = record {
    each = each_of_task f ts rest is (same_mark whole) only;
    stated = inl (inl tt);
    prints = some_none old.tool.host new.tool.host f.output (nothing (same_mark whole));
    stands = λ no_fault. absurd (no_fault tt);
    only_prints = λ is. absurd (cc is);
    in_place = in_place_of whole;
    faults = subst (λ (n : ℕ). Faults Host (DeviceFault Host) n after.faults) so.made.faults (record { rose = λ _. whole.cause.rose tt; stood = λ not. absurd (not refl) });
    device = λ device is. cc is;
  }

  -- each refusal, by what was owed
  refused : (fault : DbFault) → (IsDiskFault fault → ⊥) → (IsFault (change_note Host fault) → ⊥) → (change_note Host fault ≡ Memory → ⊥) → run_refusal kind p.session (next_of p) ≡ Some fault → new.tool.session ≡ mid.tool.session
      → MakesWhole {T = Unit {0}} kind (next_of p) (over mid.tool.host.disk mid.tool.session) (over after new.tool.session) (Err fault) → (kind.works_in_place ≡ false → IsDiskFault fault ⊎ KeepsCounts mid.tool.host.disk after)
      → DoesTask kind (task_of_ending e) old.tool new.tool (change_note Host fault)
  refused fault no_disk no_fault no_memory owed same whole idle =
      subst (λ (f : Ending). DoesTask kind (task_of_ending f) old.tool new.tool (change_note Host fault)) (sym (ending_by kind (rounds - (count + 1)) p (Some fault) owed) ∙ here)
      (is_kept (ends_refused fault p) [] (sym (append-nil p.transactions)) fault no_disk no_fault
      (inr (record { ends = refl; told = (nothing (same_mark whole)).told; session = same ∙ sym so.session })) (λ _. refl) same whole idle)

  ran_out : MakesWhole {T = Unit {0}} kind (next_of p) (over mid.tool.host.disk mid.tool.session) (over after new.tool.session) (Err NoMemory) → (kind.works_in_place ≡ false → IsDiskFault NoMemory ⊎ KeepsCounts mid.tool.host.disk after)
      → DoesTask kind (task_of_ending e) old.tool new.tool Memory
  ran_out whole idle =
      let on = subst (λ (f : Ending). Grows p f) so.leads (grows kind (rounds - count) p) in
      is_kept e on.rest on.is NoMemory (λ failed. failed) (λ failed. failed) (inl (inr refl)) (λ not. absurd (not refl)) whole.after whole idle

  failed : (o : Option DbFault) → run_refusal kind p.session (next_of p) ≡ o → MakesWhole {T = Unit {0}} kind (next_of p) (over mid.tool.host.disk mid.tool.session) (over after new.tool.session) (Err DiskFault)
      → DoesTask kind (task_of_ending e) old.tool new.tool (DeviceFault Host)
  failed None owed whole =
      let leads = sym (ending_by kind (rounds - (count + 1)) p None owed) ∙ here in
      let on = subst (λ (f : Ending). Grows (after_round kind p) f) leads (grows kind (rounds - (count + 1)) (after_round kind p)) in
      is_failed e (p.transactions ++ (next_of p ∷ [])) on.rest on.is whole (each_whole kind p.transactions (next_of p) old.tool mid.tool new.tool so.made om mn whole.disk)
  failed (Some fault) owed whole =
      let on = subst (λ (f : Ending). Grows p f) so.leads (grows kind (rounds - count) p) in
      let kept : OnDisk mid.tool.session (OpensCommitted kind mid.tool.session) mid.tool.host.disk after = ⊎_elim (λ met. absurd (cc (sym owed ∙ sym owed_is ∙ met.1))) (λ kept. kept) whole.given_up in
      is_failed e p.transactions on.rest on.is whole (each_kept kind p.transactions (next_of p) old.tool mid.tool new.tool so.made om mn kept)

  by_fault : (fault : DbFault) → MakesWhole {T = Unit {0}} kind (next_of p) (over mid.tool.host.disk mid.tool.session) (over after new.tool.session) (Err fault)
      → (kind.works_in_place ≡ false → IsDiskFault fault ⊎ KeepsCounts mid.tool.host.disk after) → DoesTask kind (task_of_ending e) old.tool new.tool (change_note Host fault)
  by_fault NoMemory whole idle = ran_out whole idle
  by_fault DiskFault whole idle = failed _ refl whole
  by_fault Broken whole idle = absurd (run_not_broken kind mid.tool.session (next_of p) (sound kind p.transactions (next_of p) old.tool mid.tool new.tool so.made om mn) whole.refused)
  by_fault KeyEmpty whole idle = refused KeyEmpty (λ is. is) (λ is. is) (λ is. cc is) (sym owed_is ∙ whole.refused) whole.after whole idle
  by_fault (KeyTooLong n) whole idle = refused (KeyTooLong n) (λ is. is) (λ is. is) (λ is. cc is) (sym owed_is ∙ whole.refused) whole.after whole idle
  by_fault (ValueTooLong n) whole idle = refused (ValueTooLong n) (λ is. is) (λ is. is) (λ is. cc is) (sym owed_is ∙ whole.refused) whole.after whole idle
  by_fault (Full n) whole idle = refused (Full n) (λ is. is) (λ is. is) (λ is. cc is) (sym owed_is ∙ whole.refused) whole.after whole idle

  pub rounds_end : (fault : DbFault) → MakesWhole {T = Unit {0}} kind (transaction_at count mid.words) (over mid.tool.host.disk mid.tool.session) (over after new.tool.session) (Err fault)
      → (kind.works_in_place ≡ false → IsDiskFault fault ⊎ KeepsCounts mid.tool.host.disk after)
      → DoesTask kind (exercise_task kind rounds old.tool.session old.words) old.tool new.tool (change_note Host fault)
  rounds_end fault made idle =
      by_fault fault (subst (λ (t : Transaction). MakesWhole {T = Unit {0}} kind t (over mid.tool.host.disk mid.tool.session) (over after new.tool.session) (Err fault)) next_is made) idle

  -- the words of the refused transaction are drawn, and no more
  some_drawn : p.drawn + words_in p.rounds ≤ e.drawn
  some_drawn = subst (λ (f : Ending). p.drawn + words_in p.rounds ≤ f.drawn) here (draws kind (rounds - (count + 1)) p)

  draws_so : (note : Note) → IsCutOff note ⊎ (p.drawn + words_in p.rounds ≡ e.drawn) → DrawsWords (task_of_ending e) old.words new.words note
  draws_so note whole = record { count = p.drawn + words_in p.rounds; drawn = drawn_is; within = some_drawn; whole = whole }

  all_drawn : (fault : DbFault) → run_refusal kind mid.tool.session (next_of p) ≡ Some fault → p.drawn + words_in p.rounds ≡ e.drawn
  all_drawn fault owed = ap (λ (f : Ending). f.drawn) (sym (ending_by kind (rounds - (count + 1)) p (Some fault) (sym owed_is ∙ owed)) ∙ here)

  draws_by_fault : (fault : DbFault) → MakesWhole {T = Unit {0}} kind (next_of p) (over mid.tool.host.disk mid.tool.session) (over after new.tool.session) (Err fault) → DrawsWords (task_of_ending e) old.words new.words (change_note Host fault)
  draws_by_fault NoMemory whole = draws_so Memory (inl (inr refl))
  draws_by_fault DiskFault whole = draws_so (DeviceFault Host) (inl (inl tt))
  draws_by_fault Broken whole = draws_so (DeviceFault Host) (inl (inl tt))
  draws_by_fault KeyEmpty whole = draws_so (change_note Host KeyEmpty) (inr (all_drawn KeyEmpty whole.refused))
  draws_by_fault (KeyTooLong n) whole = draws_so (change_note Host (KeyTooLong n)) (inr (all_drawn (KeyTooLong n) whole.refused))
  draws_by_fault (ValueTooLong n) whole = draws_so (change_note Host (ValueTooLong n)) (inr (all_drawn (ValueTooLong n) whole.refused))
  draws_by_fault (Full n) whole = draws_so (change_note Host (Full n)) (inr (all_drawn (Full n) whole.refused))

  pub rounds_draw : (fault : DbFault) → MakesWhole {T = Unit {0}} kind (transaction_at count mid.words) (over mid.tool.host.disk mid.tool.session) (over after new.tool.session) (Err fault)
      → DrawsWords (exercise_task kind rounds old.tool.session old.words) old.words new.words (change_note Host fault)
  rounds_draw fault made = draws_by_fault fault (subst (λ (t : Transaction). MakesWhole {T = Unit {0}} kind t (over mid.tool.host.disk mid.tool.session) (over after new.tool.session) (Err fault)) next_is made)
