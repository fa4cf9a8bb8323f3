-- All rounds were made, and the report printed.
use Rattle.std.proofs.Common.{◌≡◌, ◌∙◌, ◌⊎◌, inl, inr, ⊎_elim, ℕ, ◌-◌, ◌≤◌, Bool, true, false, List, [], length, refl, sym, ap, subst, arith}
use Rattle.std.specs.Prelude.{◌==◌, if◌then◌else◌}
use Rattle.base_bytes.specs.OrderedMap.{Map}
use Rattle.base_bytes.specs.Transactions.{after_first}
use Rattle.base_devices.specs.CrashImages.{Image, DiskState, GoesOn, LeavesOnly}
use Rattle.base_devices.specs.Frames.{KeepsCounts}
use Rattle.base_devices.specs.HostCalls.{HostState, HostMoment, told_with}
use Rattle.base_devices.proofs.Moments.{each_then}
use Rattle.base_notes.specs.declared.note.Device.TheVariants.{Host}
use Rattle.base_notes.specs.declared.note.Note.{Note}
use Rattle.base_notes.specs.declared.note.Note.TheVariants.{Done}
use Rattle.db_core.specs.Refusals.{IsDiskFault}
use Rattle.db_core.specs.Sessions.{DbKind, DbState, at_rest}
use Rattle.db_core.specs.declared.fault.DbFault.{DbFault}
use Rattle.db_exercise.specs.Exercise.{Progress, Ending, nothing_done, report_text, ends_done, ending_of, task_of_ending, exercise_task}
use Rattle.db_exercise.specs.Rounds.{RoundMoment, MakesRounds}
use Rattle.db_exercise.proofs.EndLemmas.{ending_over}
use Rattle.db_exercise.proofs.MadeLemmas.{after_all}
use Rattle.db_tool.specs.Doing.{DoesTask, DrawsWords, Looks}
use Rattle.db_tool.specs.Tasks.{KeepsPrefix, KeepsUpTo}
use Rattle.db_tool.specs.ToolNotes.{Faults}
use Rattle.db_tool.proofs.PrintLemmas.{printed_still, printed_then}

-- a disk that is as it was keeps its counts
pub leaves_counts : {D : Type 0} (state : D → DiskState) (x y : D) (fault : DbFault) → IsDiskFault fault ⊎ (y ≡ x) → IsDiskFault fault ⊎ KeepsCounts (state x) (state y)
leaves_counts state x y fault unharmed = ⊎_elim inl (λ same. inr (subst (λ z. KeepsCounts (state x) (state z)) (sym same) (record { fresh = refl; written = refl; publishes = refl }))) unharmed

none_left : (rounds : ℕ) → rounds - rounds ≡ 0
none_left rounds = omega arith

at_most : (b : Bool) (n : ℕ) → (if b then 0 else n) ≤ n
at_most true n = omega arith
at_most false n = omega arith

module _ (kind : DbKind) (rounds : ℕ) (old mid : RoundMoment) (so : MakesRounds kind rounds rounds old mid) where
  abbrev p : Progress
  p = so.done

  abbrev m : Map
  m = old.tool.session.committed

  end_is : ends_done p ≡ ending_of kind rounds (nothing_done old.tool.session old.words)
  end_is = sym (ap (λ (n : ℕ). ending_of kind n p) (none_left rounds) ∙ ending_over kind p) ∙ so.leads

  pub rounds_drawn : (note : Note) → DrawsWords (exercise_task kind rounds old.tool.session old.words) old.words mid.words note
  rounds_drawn note = subst (λ (e : Ending). DrawsWords (task_of_ending e) old.words mid.words note) end_is (record { count = p.drawn; drawn = so.drawn; within = omega arith; whole = inr refl })

  pub rounds_sound : mid.tool.session.is_broken ≡ false
  rounds_sound = ap (λ (s : DbState). s.is_broken) so.made.rests

  module _ (new : HostMoment) (note : Note) (om : GoesOn old.tool.host.disk mid.tool.host.disk) (mn : GoesOn mid.tool.host.disk new.disk)
      (opens : (c : Image) → mid.tool.host.disk.leaves c → kind.opens c mid.tool.session.committed)
      (looks : Looks Done (report_text rounds mid.tool.session.seen) mid.tool.host new note) where
    abbrev before : DiskState
    before = old.tool.host.disk

    here : Looks Done (report_text p.rounds p.session.seen) mid.tool.host new note
    here = subst (λ (l : List ℕ). Looks Done l mid.tool.host new note)
        (sym (ap (λ (n : ℕ). report_text n p.session.seen) so.counted ∙ ap (λ (s : DbState). report_text rounds s.seen) so.session)) looks

    opens_last : (c : Image) → mid.tool.host.disk.leaves c → kind.opens c (after_first (length p.transactions) m p.transactions)
    opens_last c left = subst (λ (x : Map). kind.opens c x) (ap (λ (s : DbState). s.committed) so.made.rests ∙ sym (after_all m p.transactions)) (opens c left)

    none_acknowledged : (n count : ℕ) → n ≡ 0 → (if n == 0 then 0 else length p.transactions) ≤ count
    none_acknowledged n count is = subst (λ (k : ℕ). (if k == 0 then 0 else length p.transactions) ≤ count) (sym is) (omega arith)

    each_of_task : LeavesOnly before new.disk (λ c n. (before.mark ≤ n) × (n ≤ new.disk.mark) × KeepsPrefix kind (task_of_ending (ends_done p)) m (n - before.mark) c)
    each_of_task = each_then before mid.tool.host.disk new.disk _ om mn
        (record {
          each = λ c n left.
              let one = so.made.each.each c n left in (
                omega (arith, one.0),
                omega (arith, one.0, so.made.mark, looks.disk.mark),
                record {
                  count = one.1.count;
                  within = one.1.within;
                  acknowledged = none_acknowledged (n - before.mark) one.1.count (omega (arith, one.0));
                  holds = one.1.holds;
                },
              );
        })
        (record {
          each = λ c n left.
              let one = looks.disk.each.each c n left in (
                omega (arith, one.1, so.made.mark),
                one.2,
                record {
                  count = length p.transactions;
                  within = omega arith;
                  acknowledged = at_most (n - before.mark == 0) (length p.transactions);
                  holds = opens_last c one.0;
                },
              );
        })

    no_more : LeavesOnly before new.disk (λ c n. KeepsUpTo kind (task_of_ending (ends_done p)) m (length p.transactions) c)
    no_more = each_then before mid.tool.host.disk new.disk _ om mn
        (record { each = λ c n left. let one = so.made.each.each c n left in record { count = one.1.count; within = one.1.within; holds = one.1.holds } })
        (record { each = λ c n left. record { count = length p.transactions; within = omega arith; holds = opens_last c (looks.disk.each.each c n left).0 } })

    does : DoesTask kind (task_of_ending (ends_done p)) old.tool (record { session = mid.tool.session; host = new }) note
    does = record {
      each = each_of_task;
      stated = ⊎_elim inl
          (λ met. inr (record {
            ends = met.0;
            told = met.1.told ∙ ap (λ (s : HostState). told_with s.told (report_text p.rounds p.session.seen)) so.made.streams;
            session = sym so.session;
          }))
          here.stated;
      prints = record {
        printed = here.prints.printed;
        unprinted = here.prints.unprinted;
        whole = here.prints.whole;
        grew = printed_then old.tool.host mid.tool.host new [] here.prints.printed (printed_still old.tool.host mid.tool.host so.made.streams so.made.mark) here.prints.grew;
      };
      stands = λ _. record {
        count = length p.transactions;
        within = omega arith;
        rests = so.made.rests ∙ ap (λ (x : Map). at_rest x mid.tool.session.load) (sym (after_all m p.transactions));
        whole = λ _. refl;
        memory = λ memory. (omega (arith, (looks.silent memory).1, so.made.mark), omega arith);
        no_more = no_more;
        same = so.made.same;
        idle = λ none rewrites.
            let one = so.made.idle none rewrites in
            let two = looks.disk.keeps in
            record { fresh = two.fresh ∙ one.fresh; written = two.written ∙ one.written; publishes = two.publishes ∙ one.publishes };
      };
      only_prints = λ is. absurd (cc is);
      in_place = λ works. looks.disk.keeps.publishes ∙ so.made.in_place works;
      faults = subst (λ (n : ℕ). Faults Host note n new.disk.faults) so.made.faults looks.faults;
      device = looks.device;
    }

    pub reported : DoesTask kind (exercise_task kind rounds old.tool.session old.words) old.tool (record { session = mid.tool.session; host = new }) note
    reported = subst (λ (e : Ending). DoesTask kind (task_of_ending e) old.tool (record { session = mid.tool.session; host = new }) note) end_is does
