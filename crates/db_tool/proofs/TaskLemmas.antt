-- What was looked at or changed is the task that was to be done.
use Rattle.std.proofs.Common.{◌≡◌, ◌⊎◌, inl, inr, ⊎_elim, ℕ, ◌-◌, ◌≤◌, Bool, true, false, List, [], ◌∷◌, Option, None, Some, Result, Ok, Err, length, refl, sym, ◌∙◌, ap, subst, arith}
use Rattle.std.specs.Option.{option_or}
use Rattle.std.specs.Prelude.{if◌then◌else◌, is_some, nat_lt, ◌==◌, IfErr}
use Rattle.base_bytes.specs.OrderedMap.{Map, value_at, with_prefix}
use Rattle.base_bytes.specs.declared.limits.TheConstants.{KEY_LIMIT, VALUE_LIMIT}
use Rattle.base_bytes.specs.Transactions.{after_first}
use Rattle.base_bytes.specs.declared.change.Change.{Change}
use Rattle.base_bytes.specs.declared.change.Change.TheVariants.{Put, Del}
use Rattle.base_devices.specs.CrashImages.{Image, LeavesOnly, IsMoment}
use Rattle.base_devices.specs.Frames.{OnlyPrints, KeepsCounts}
use Rattle.base_devices.specs.HostCalls.{HostMoment}
use Rattle.base_notes.specs.declared.note.Device.TheVariants.{Host}
use Rattle.base_notes.specs.declared.note.Note.{Note}
use Rattle.base_notes.specs.declared.action.Action.TheVariants.{Get, Show}
use Rattle.base_notes.specs.declared.note.Note.TheVariants.{Done, Answer, BadLine, DeviceFault, Memory}
use Rattle.db_core.specs.Calls.{OnDisk, OpensCommitted}
use Rattle.db_core.specs.Refusals.{IsDiskFault, pair_refusal, size_refusal, change_refusal, delete_refusal}
use Rattle.db_core.specs.Sessions.{DbKind, DbState, over, at_rest, begun, aborted}
use Rattle.db_core.specs.WholeTransactions.{MakesWhole, run_after, run_refusal}
use Rattle.db_core.specs.declared.fault.DbFault.{DbFault}
use Rattle.db_core.specs.declared.fault.DbFault.TheVariants.{Broken, KeyEmpty, KeyTooLong, ValueTooLong, Full, NoMemory, DiskFault}
use Rattle.db_tool.specs.Doing.{ToolMoment, StandsAfter, DoesTask, DrawsWords, Looks, ChangesOnce, note_of_whole}
use Rattle.db_tool.specs.Printing.{Printed, shown, value_line}
use Rattle.db_tool.specs.Tasks.{Task, Given, KeepsPrefix, printing, changing, changing_by, found_note, found_output, is_empty, task_if, task_of}
use Rattle.db_tool.specs.ToolNotes.{IsFault, Faults, change_note}
use Rattle.rand_core.specs.Stream.{Stream}
use Rattle.db_tool.proofs.PrefixLemmas.{prefix_none}
use Rattle.db_tool.proofs.PrintLemmas.{printed_still, some_none}

-- a session outside a transaction is at rest
pub rests_of : (s : DbState) → s.is_broken ≡ false → aborted s ≡ s → s ≡ at_rest s.committed s.load
rests_of s sound closed =
    sym closed ∙ ap (λ (b : Bool). record (aborted s) { is_broken = b }) sound ∙ ap (λ (n : ℕ). at_rest s.committed n) (ap (λ (t : DbState). t.load) closed)

-- ---- a task that only prints

pub looks_nothing : (m : HostMoment) (note : Note) → (IsFault note → ⊥) → (note ≡ Memory → ⊥) → IsMoment m.disk → OnlyPrints m.disk m.disk → Printed [] m m → Looks note [] m m note
looks_nothing m note no_fault no_memory is only nothing = record {
  stated = inr (refl, nothing);
  prints = some_none m m [] nothing;
  silent = λ memory. absurd (no_memory memory);
  disk = only;
  faults = record { rose = λ is. absurd (no_fault (subst IsFault (sym is) tt)); stood = λ _. refl };
  device = λ device is. absurd (no_fault (subst IsFault (sym is) tt));
}

pub looks_does : (kind : DbKind) (s : DbState) (old new : HostMoment) (output : List ℕ) (wanted note : Note) → s ≡ at_rest s.committed s.load → ((c : Image) → old.disk.leaves c → kind.opens c s.committed)
    → Looks wanted output old new note → DoesTask kind (printing s output wanted) (record { session = s; host = old }) (record { session = s; host = new }) note
looks_does kind s old new output wanted note rests opens looks = record {
  each = record {
    each = λ c n left.
        let p = looks.disk.each.each c n left in
        (p.1, p.2, record { count = 0; within = omega arith; acknowledged = omega arith; holds = opens c p.0 });
  };
  stated = ⊎_elim inl (λ met. inr (record { ends = met.0; told = met.1.told; session = refl })) looks.stated;
  prints = looks.prints;
  stands = λ _. record {
    count = 0;
    within = omega arith;
    rests = rests;
    whole = λ _. refl;
    memory = λ memory. (omega (arith, (looks.silent memory).1), refl);
    no_more = record { each = λ c n left. record { count = 0; within = omega arith; holds = opens c (looks.disk.each.each c n left).0 } };
    same = λ _. refl;
    idle = λ _ _. record { fresh = looks.disk.keeps.fresh; written = looks.disk.keeps.written; publishes = looks.disk.keeps.publishes };
  };
  only_prints = λ _. (looks.disk, refl);
  in_place = λ _. looks.disk.keeps.publishes;
  faults = looks.faults;
  device = looks.device;
}

-- a value that was looked for is printed as that of the session's map
pub found_does : (kind : DbKind) (s : DbState) (g : Given) (old new : HostMoment) (key : List ℕ) (value : Option (List ℕ)) (note : Note) → s ≡ at_rest s.committed s.load
    → ((c : Image) → old.disk.leaves c → kind.opens c s.committed) → value ≡ value_at s.seen key → Looks (found_note key value) (found_output key value) old new note
    → DoesTask kind (task_of kind s g (Get key)) (record { session = s; host = old }) (record { session = s; host = new }) note
found_does kind s g old new key value note rests opens is looks =
    by (is_empty key) (subst (λ (v : Option (List ℕ)). Looks (found_note key v) (found_output key v) old new note) is looks)
  where
    by : (b : Bool) → Looks (if b then BadLine 1 else (if is_some (value_at s.seen key) then Done else Answer)) (if b then [] else value_line (value_at s.seen key)) old new note
        → DoesTask kind (task_if b kind s g (Get key)) (record { session = s; host = old }) (record { session = s; host = new }) note
    by true looks = looks_does kind s old new [] (BadLine 1) note rests opens looks
    by false looks = looks_does kind s old new (value_line (value_at s.seen key)) (if is_some (value_at s.seen key) then Done else Answer) note rests opens looks

-- a text of all pairs as they are is what is shown without a prefix
pub shown_does : (kind : DbKind) (s : DbState) (g : Given) (old new : HostMoment) (text : List ℕ) (note : Note) → s ≡ at_rest s.committed s.load
    → ((c : Image) → old.disk.leaves c → kind.opens c s.committed) → text ≡ shown s.seen → Looks Done text old new note
    → DoesTask kind (task_of kind s g (Show [])) (record { session = s; host = old }) (record { session = s; host = new }) note
shown_does kind s g old new text note rests opens is looks =
    looks_does kind s old new (shown (with_prefix s.seen [])) Done note rests opens
    (subst (λ (l : List ℕ). Looks Done l old new note) (is ∙ ap shown (sym (prefix_none s.seen))) looks)

-- and no word is drawn for it
pub found_draws : (kind : DbKind) (s : DbState) (g : Given) (key : List ℕ) (words : Stream) (note : Note) → DrawsWords (task_of kind s g (Get key)) words words note
found_draws kind s g key words note = record { count = 0; drawn = refl; within = omega arith; whole = inr (none (is_empty key)) }
  where
    none : (b : Bool) → 0 ≡ (task_if b kind s g (Get key)).words
    none true = refl
    none false = refl

-- ---- a task of one change

-- a session that is not broken owes no `Broken`
size_not_broken : (kind : DbKind) (size : ℕ) → size_refusal kind size ≡ Some Broken → ⊥
size_not_broken kind size is = by (nat_lt kind.limit size) is
  where
    by : (b : Bool) → (if b then Some (Full size) else None) ≡ Some Broken → ⊥
    by true is = cc is
    by false is = cc is

pair_not_broken : (key value : List ℕ) (later : Option DbFault) → (later ≡ Some Broken → ⊥) → option_or (pair_refusal key value) later ≡ Some Broken → ⊥
pair_not_broken key value later not is = by (length key == 0) (nat_lt KEY_LIMIT (length key)) (nat_lt VALUE_LIMIT (length value)) is
  where
    by : (a b c : Bool)
        → option_or (if a then Some KeyEmpty else (if b then Some (KeyTooLong (length key)) else (if c then Some (ValueTooLong (length value)) else None))) later ≡ Some Broken → ⊥
    by true b c is = cc is
    by false true c is = cc is
    by false false true is = cc is
    by false false false is = not is

delete_not_broken : (kind : DbKind) (s : DbState) (key : List ℕ) → delete_refusal kind (record s { is_broken = false }) key ≡ Some Broken → ⊥
delete_not_broken kind s key is = by (is_some (value_at s.seen key)) is
  where
    by : (b : Bool) → (if b then size_refusal kind (kind.size_after s.seen s.load (Del key)) else None) ≡ Some Broken → ⊥
    by true is = size_not_broken kind (kind.size_after s.seen s.load (Del key)) is
    by false is = cc is

or_none : (o : Option DbFault) → option_or o None ≡ o
or_none None = refl
or_none (Some fault) = refl

never_broken : (kind : DbKind) (m : Map) (load : ℕ) (change : Change) → run_refusal kind (at_rest m load) (change ∷ []) ≡ Some Broken → ⊥
never_broken kind m load (Put word key value) is =
    pair_not_broken key value (size_refusal kind (kind.size_after m load (Put word key value))) (size_not_broken kind (kind.size_after m load (Put word key value)))
    (sym (or_none (change_refusal kind (begun (at_rest m load)) (Put word key value))) ∙ is)
never_broken kind m load (Del key) is = delete_not_broken kind (begun (at_rest m load)) key (sym (or_none (change_refusal kind (begun (at_rest m load)) (Del key))) ∙ is)

-- the session after the transaction is at rest
rests_after : (kind : DbKind) (m : Map) (load : ℕ) (change : Change) → run_after kind (at_rest m load) (change ∷ []) ≡ at_rest (after_first 1 m ((change ∷ []) ∷ [])) (run_after kind (at_rest m load) (change ∷ [])).load
rests_after kind m load (Put word key value) = refl
rests_after kind m load (Del key) = refl

module _ (kind : DbKind) (m : Map) (load : ℕ) (change : Change) (words : ℕ) (old new : HostMoment) (t : DbState) (streams : new.streams ≡ old.streams) where
  abbrev s : DbState
  s = at_rest m load

  abbrev before : ToolMoment
  before = record { session = s; host = old }

  abbrev after : ToolMoment
  after = record { session = t; host = new }

  -- what holds of a transaction that is not made
  module _ (task : Task) (fault : DbFault) (whole : MakesWhole {T = Unit {0}} kind (change ∷ []) (over old.disk s) (over new.disk t) (Err fault)) where
    no_mark : new.disk.mark ≡ old.disk.mark
    no_mark = whole.disk.mark

    pub is_kept : OnDisk s (OpensCommitted kind s) old.disk new.disk → t ≡ s → (note : Note) → ((note ≡ Memory → ⊥) → 0 ≡ length task.transactions) → (note ≡ Memory → task.may_stand 0 0)
        → (kind.works_in_place ≡ false → KeepsCounts old.disk new.disk) → StandsAfter kind task before after note
    is_kept kept same note none memory idle = record {
      count = 0;
      within = omega arith;
      rests = same ∙ ap (λ (n : ℕ). at_rest m n) (sym (ap (λ (x : DbState). x.load) same));
      whole = none;
      memory = λ is. let zero_more : 0 ≡ new.disk.mark - old.disk.mark = omega (arith, no_mark) in subst (λ (n : ℕ). task.may_stand n 0) zero_more (memory is);
      no_more = record { each = λ c n left. record { count = 0; within = omega arith; holds = ((kept.each refl).each c n left).1 } };
      same = λ _. same;
      idle = λ _. idle;
    }

    each_kept : OnDisk s (OpensCommitted kind s) old.disk new.disk → (task.acknowledged 0 ≡ 0) → LeavesOnly old.disk new.disk (λ c n. (old.disk.mark ≤ n) × (n ≤ new.disk.mark) × KeepsPrefix kind task m (n - old.disk.mark) c)
    each_kept kept none = record {
      each = λ c n left.
          let p = (kept.each refl).each c n left in
          (omega (arith, p.0), omega (arith, p.0, no_mark), record { count = 0; within = omega arith; acknowledged = few n p.0; holds = p.1 });
    }
      where
        few : (n : ℕ) → n ≡ old.disk.mark → task.acknowledged (n - old.disk.mark) ≤ 0
        few n is =
            let zero_more : 0 ≡ n - old.disk.mark = omega (arith, is) in
            let none_yet : task.acknowledged 0 ≤ 0 = omega (arith, none) in
            subst (λ (k : ℕ). task.acknowledged k ≤ 0) zero_more none_yet

  nothing : (new.disk.mark ≡ old.disk.mark) → Printed [] old new
  nothing mark = printed_still old new streams mark

  -- the change is refused
  refused : (fault : DbFault) → run_refusal kind s (change ∷ []) ≡ Some fault → (IsDiskFault fault → ⊥) → (IsFault (change_note Host fault) → ⊥) → (change_note Host fault ≡ Memory → ⊥) → t ≡ s
      → MakesWhole {T = Unit {0}} kind (change ∷ []) (over old.disk s) (over new.disk t) (Err fault) → (kind.works_in_place ≡ false → KeepsCounts old.disk new.disk)
      → DoesTask kind (changing_by (Some fault) kind s change words) before after (change_note Host fault)
  refused fault owed no_disk no_fault no_memory same whole idle =
      let task = changing_by (Some fault) kind s change words in
      let kept : OnDisk s (OpensCommitted kind s) old.disk new.disk = ⊎_elim (λ failed. absurd (no_disk failed.0)) (λ kept. kept) whole.given_up in
      record {
        each = each_kept task fault whole kept refl;
        stated = inr (record { ends = refl; told = (nothing whole.disk.mark).told; session = same });
        prints = some_none old new [] (nothing whole.disk.mark);
        stands = λ _. is_kept task fault whole kept same (change_note Host fault) (λ _. refl) (λ is. absurd (no_memory is)) idle;
        only_prints = λ is. absurd (cc is);
        in_place = whole.in_place;
        faults = record { rose = λ is. absurd (no_fault (subst IsFault (sym is) tt)); stood = λ _. ⊎_elim (λ failed. absurd (no_disk failed)) (λ same. same) whole.cause.stood };
        device = λ device is. absurd (no_fault (subst IsFault (sym is) tt));
      }

  -- memory ran out
  ran_out : (owed : Option DbFault) → (task : Task) → (task ≡ changing_by owed kind s change words) → MakesWhole {T = Unit {0}} kind (change ∷ []) (over old.disk s) (over new.disk t) (Err NoMemory) → (kind.works_in_place ≡ false → KeepsCounts old.disk new.disk)
      → DoesTask kind (changing_by owed kind s change words) before after Memory
  ran_out owed task is whole idle = by owed
    where
      kept : OnDisk s (OpensCommitted kind s) old.disk new.disk
      kept = ⊎_elim (λ failed. absurd failed.0) (λ kept. kept) whole.given_up

      stood : Faults Host Memory old.disk.faults new.disk.faults
      stood = record { rose = λ is. absurd (cc is); stood = λ _. ⊎_elim (λ failed. absurd failed) (λ same. same) whole.cause.stood }

      by : (owed : Option DbFault) → DoesTask kind (changing_by owed kind s change words) before after Memory
      by None = record {
        each = each_kept (changing_by None kind s change words) NoMemory whole kept refl;
        stated = inl (inr refl);
        prints = some_none old new [] (nothing whole.disk.mark);
        stands = λ _. is_kept (changing_by None kind s change words) NoMemory whole kept whole.after Memory (λ not. absurd (not refl)) (λ _. (refl, refl)) idle;
        only_prints = λ is. absurd (cc is);
        in_place = whole.in_place;
        faults = stood;
        device = λ device is. absurd (cc is);
      }
      by (Some fault) = record {
        each = each_kept (changing_by (Some fault) kind s change words) NoMemory whole kept refl;
        stated = inl (inr refl);
        prints = some_none old new [] (nothing whole.disk.mark);
        stands = λ _. is_kept (changing_by (Some fault) kind s change words) NoMemory whole kept whole.after Memory (λ not. absurd (not refl)) (λ _. (refl, refl)) idle;
        only_prints = λ is. absurd (cc is);
        in_place = whole.in_place;
        faults = stood;
        device = λ device is. absurd (cc is);
      }

  -- each image is from before the transaction or from after all of it
  either : (r : Result (Unit {0}) DbFault) → MakesWhole kind (change ∷ []) (over old.disk s) (over new.disk t) r
      → LeavesOnly old.disk new.disk (λ c n. (old.disk.mark ≤ n) × (n ≤ new.disk.mark) × KeepsPrefix kind (changing_by None kind s change words) m (n - old.disk.mark) c)
  either r whole = record {
    each = λ c n left.
        let p = (whole.disk.each refl).each c n left in (
          omega (arith, p.0),
          omega (arith, p.0, whole.disk.mark),
          ⊎_elim
              (λ opens. record { count = 0; within = omega arith; acknowledged = omega arith; holds = opens })
              (λ opens. record { count = 1; within = omega arith; acknowledged = omega arith; holds = opens }) p.1,
        );
  }

  made : (v : Unit {0}) → MakesWhole kind (change ∷ []) (over old.disk s) (over new.disk t) (Ok v) → DoesTask kind (changing_by None kind s change words) before after Done
  made v whole = record {
    each = either (Ok v) whole;
    stated = inr (record { ends = refl; told = (nothing whole.disk.mark).told; session = whole.done });
    prints = some_none old new [] (nothing whole.disk.mark);
    stands = λ _. record {
      count = 1;
      within = omega arith;
      rests = subst (λ (x : DbState). x ≡ at_rest (after_first 1 m ((change ∷ []) ∷ [])) x.load) (sym whole.done) (rests_after kind m load change);
      whole = λ _. refl;
      memory = λ is. absurd (cc is);
      no_more = record {
        each = λ c n left. ⊎_elim
            (λ opens. record { count = 0; within = omega arith; holds = opens })
            (λ opens. record { count = 1; within = omega arith; holds = opens }) ((whole.disk.each refl).each c n left).1;
      };
      same = λ is. absurd (omega (arith, is));
      idle = λ is _. absurd (omega (arith, is));
    };
    only_prints = λ is. absurd (cc is);
    in_place = whole.in_place;
    faults = record { rose = λ is. absurd (cc is); stood = λ _. whole.cause.kept };
    device = λ device is. absurd (cc is);
  }

  -- the disk failed
  failed : (owed : Option DbFault) → run_refusal kind s (change ∷ []) ≡ owed → MakesWhole {T = Unit {0}} kind (change ∷ []) (over old.disk s) (over new.disk t) (Err DiskFault) → DoesTask kind (changing_by owed kind s change words) before after (DeviceFault Host)
  failed None owed whole = record {
    each = either (Err DiskFault) whole;
    stated = inl (inl tt);
    prints = some_none old new [] (nothing whole.disk.mark);
    stands = λ no_fault. absurd (no_fault tt);
    only_prints = λ is. absurd (cc is);
    in_place = whole.in_place;
    faults = record { rose = λ _. whole.cause.rose tt; stood = λ not. absurd (not refl) };
    device = λ device is. cc is;
  }
  failed (Some fault) owed whole = record {
    each = each_kept (changing_by (Some fault) kind s change words) DiskFault whole (⊎_elim (λ failed. absurd (cc (owed, failed.1))) (λ kept. kept) whole.given_up) refl;
    stated = inl (inl tt);
    prints = some_none old new [] (nothing whole.disk.mark);
    stands = λ no_fault. absurd (no_fault tt);
    only_prints = λ is. absurd (cc is);
    in_place = whole.in_place;
    faults = record { rose = λ _. whole.cause.rose tt; stood = λ not. absurd (not refl) };
    device = λ device is. cc is;
  }

  -- each answer of the transaction
  by_answer : (owed : Option DbFault) → run_refusal kind s (change ∷ []) ≡ owed → (r : Result (Unit {0}) DbFault) → MakesWhole kind (change ∷ []) (over old.disk s) (over new.disk t) r
      → (kind.works_in_place ≡ false → IfErr r (λ fault. IsDiskFault fault ⊎ KeepsCounts old.disk new.disk)) → DoesTask kind (changing_by owed kind s change words) before after (note_of_whole r)
  by_answer None owed (Ok v) whole idle = made v whole
  by_answer (Some fault) owed (Ok v) whole idle = absurd (cc (owed, whole.ok))
  by_answer owes owed (Err NoMemory) whole idle = ran_out owes _ refl whole (λ is. ⊎_elim (λ failed. absurd failed) (λ kept. kept) (idle is))
  by_answer owes owed (Err DiskFault) whole idle = failed owes owed whole
  by_answer owes owed (Err Broken) whole idle = absurd (never_broken kind m load change whole.refused)
  by_answer owes owed (Err fault) whole idle =
      subst (λ (o : Option DbFault). DoesTask kind (changing_by o kind s change words) before after (change_note Host fault)) (sym whole.refused ∙ owed)
      (refused fault whole.refused (λ is. is) (λ is. is) (λ is. cc is) whole.after whole (λ is. ⊎_elim (λ failed. absurd failed) (λ kept. kept) (idle is)))

pub changes_does : (kind : DbKind) (s t : DbState) (change : Change) (words : ℕ) (old new : HostMoment) (note : Note) → s ≡ at_rest s.committed s.load
    → ChangesOnce kind change (record { session = s; host = old }) (record { session = t; host = new }) note → DoesTask kind (changing kind s change words) (record { session = s; host = old }) (record { session = t; host = new }) note
changes_does kind s t change words old new note rests changes =
    subst (λ (n : Note). DoesTask kind (changing kind s change words) (record { session = s; host = old }) (record { session = t; host = new }) n) (sym changes.says)
    (subst (λ (x : DbState). MakesWhole kind (change ∷ []) (over old.disk x) (over new.disk t) changes.result → DoesTask kind (changing kind x change words) (record { session = x; host = old }) (record { session = t; host = new }) (note_of_whole changes.result)) (sym rests)
    (λ whole. by_answer kind s.committed s.load change words old new t changes.streams _ refl changes.result whole changes.idle)
    changes.whole)

-- memory ran out before the transaction began
pub changes_none : (kind : DbKind) (change : Change) (s : DbState) (m : HostMoment) → IsMoment m.disk → (s.is_broken ≡ false → (c : Image) → m.disk.leaves c → kind.opens c s.committed) → ChangesOnce kind change (record { session = s; host = m }) (record { session = s; host = m }) Memory
changes_none kind change s m is opens = record {
  result = Err NoMemory;
  whole = record {
    ok = tt;
    done = tt;
    refused = tt;
    after = refl;
    disk = record { each = λ sound. record { each = λ c n left. let now = is.now c n left in (now.1, inl (opens sound c now.0)) }; mark = refl };
    given_up = inr (record { each = λ sound. record { each = λ c n left. let now = is.now c n left in (now.1, opens sound c now.0) }; mark = refl });
    in_place = λ _. refl;
    cause = record { later = omega arith; rose = λ failed. absurd failed; stood = inr refl; kept = tt };
  };
  idle = λ _. inr (record { fresh = refl; written = refl; publishes = refl });
  says = refl;
  streams = refl;
}

-- a change draws its words whether it is refused or not
pub words_of : (owed : Option DbFault) (kind : DbKind) (s : DbState) (change : Change) (words : ℕ) → (changing_by owed kind s change words).words ≡ words
words_of None kind s change words = refl
words_of (Some fault) kind s change words = refl
