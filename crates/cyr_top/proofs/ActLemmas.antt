-- An action over the main file as it is: the file is not opened, or it is and the task is done.
use Rattle.std.proofs.Common.{◌≡◌, ◌⊎◌, inl, inr, ⊎_elim, ℕ, ◌-◌, ◌≤◌, true, false, List, [], Option, Some, None, Ok, Err, refl, sym, ◌∙◌, ap, subst, arith}
use Rattle.std.specs.Prelude.{IsSome}
use Rattle.base_bytes.specs.OrderedMap.{Map}
use Rattle.base_devices.specs.Causes.{FaultHasCause}
use Rattle.base_devices.specs.CrashImages.{Image, DiskState, GoesOn, IsMoment, LeavesOnly, WhereRead}
use Rattle.base_devices.specs.Frames.{MayLeaveLess, OnlyPrints}
use Rattle.base_devices.specs.HostCalls.{HostState, moment, told_with}
use Rattle.base_devices.proofs.FrameLemmas.{file_of_less, file_of_prints, file_then}
use Rattle.base_devices.proofs.Moments.{each_then}
use Rattle.base_notes.specs.declared.action.Action.{Action}
use Rattle.base_notes.specs.declared.action.Action.TheVariants.{Consistent}
use Rattle.base_notes.specs.declared.note.Device.TheVariants.{Host, Input}
use Rattle.base_notes.specs.declared.note.Note.{Note}
use Rattle.base_notes.specs.declared.note.Note.TheVariants.{Usage, DeviceFault, Memory}
use Rattle.db_core.specs.Opening.{OpensTo, OpensDisk, SameMap, IsOpenRefusal, IsDeviceFault}
use Rattle.db_core.specs.Sessions.{DbKind, DbLaws, DbState, at_rest}
use Rattle.db_core.specs.declared.opening.OpenFault.{OpenFault}
use Rattle.db_core.specs.declared.opening.OpenFault.TheVariants.{Absent as NoFile, TooBig, NoMemory as NoRoom, DiskFault as NoDisk, Damaged as Flawed}
use Rattle.db_core.specs.Calls.{KeepsInPlace}
use Rattle.db_tool.specs.Doing.{ToolMoment, during, DoesTask, IsStated, StandsAfter, DrawsWords}
use Rattle.rand_core.specs.Stream.{Stream}
use Rattle.base_devices.specs.Time.{goes_then}
use Rattle.db_tool.specs.Printing.{Printed, PrintsSome}
use Rattle.db_tool.specs.Tasks.{CanAct, Given, KeepsPrefix, Task, task_of}
use Rattle.db_tool.specs.ToolNotes.{IsFault, IsCutOff, Faults, opening_note}
use Rattle.db_tool.proofs.PrintLemmas.{printed_still, some_none}
use Rattle.cyr_top.specs.Actions.{IsBefore, KeepsRead, StandsAt, opened, not_opened, IsStatedBy, DoesAction, DrawsFor}
use Rattle.cyr_top.specs.Asked.{Asked, asking, task_by, task_for}
use Rattle.cyr_top.specs.Stated.{StartsFrom, IsUnopened, acted, unopened, unopened_note, unopened_output, IsBuilt, IsNoteOf}
use Rattle.cyr_top.proofs.StatedLemmas.{done_task, opens_fails, starts_fails, starts_once, stated_once, task_plain, note_of_action, fault_built, opening_built, opening_no_usage, cut_off_no_usage}

pub some_of : {A : Type 0} (o : Option A) → IsSome o → (x : A) × (o ≡ Some x)
some_of None some = absurd (cc some)
some_of (Some x) some = (x, refl)

-- a device that shows what is left shows what the disk read at the start
pub read_of : (d e : DiskState) (t : ℕ) (c : Image) (n : ℕ) → GoesOn d e → IsMoment e → e.left_since t c n → (main : Image) × (d.reads ≡ Some main)
read_of d e t c n de moment left = some_of d.reads (de.telling.0 (moment.tells t c n left))

-- what may be left at the end was left since the start
pub left_at_end : (d e : DiskState) (c : Image) → GoesOn d e → IsMoment e → e.leaves c → e.left_since d.clock c e.mark
left_at_end d e c de moment left = moment.earlier d.clock e.clock c e.mark de.later (omega arith) (moment.counts_now c left)

-- an image that is read is the one that is named
pub image_of : {reads : Option Image} (main : Image) (bytes : List ℕ) → reads ≡ Some main → reads ≡ Some (Some bytes) → main ≡ Some bytes
image_of main bytes is reads = cc (is, reads)

-- an action other than a check refuses a file that does not open
pub other_note : (a : Action) (f : OpenFault) → (a ≡ Consistent → ⊥) → opening_note Host f ≡ unopened_note a f
other_note Consistent f other = absurd (other refl)
other_note a f other = refl

pub other_output : (a : Action) (f : OpenFault) → (a ≡ Consistent → ⊥) → [] ≡ unopened_output a f
other_output Consistent f other = absurd (other refl)
other_output a f other = refl

-- the note names the host where the fault is one of the device
pub device_of : (f : OpenFault) → opening_note Host f ≡ DeviceFault Host → IsDeviceFault f
device_of NoDisk is = tt
device_of NoFile is = absurd (cc is)
device_of (TooBig size) is = absurd (cc is)
device_of NoRoom is = absurd (cc is)
device_of (Flawed at flaw) is = absurd (cc is)

pub note_of : (f : OpenFault) → IsDeviceFault f → opening_note Host f ≡ DeviceFault Host
note_of NoDisk is = refl
note_of f is = absurd is

-- A task was done, or cut off, whatever the devices that its note may name.
pub record TaskDone (kind : DbKind) (action : Action) (task : Task) (old new : ToolMoment) (note : Note) : Type 0 where
  pub each : LeavesOnly old.host.disk new.host.disk (λ c n. (old.host.disk.mark ≤ n) × (n ≤ new.host.disk.mark) × KeepsPrefix kind task old.session.committed (n - old.host.disk.mark) c)
  pub stated : IsCutOff note ⊎ IsStated task old new note
  pub prints : PrintsSome task.output old.host new.host
  pub stands : (IsFault note → ⊥) → StandsAfter kind task old new note
  pub only_prints : task.only_prints ≡ true → OnlyPrints old.host.disk new.host.disk
  pub in_place : KeepsInPlace kind old.host.disk new.host.disk
  pub faults : Faults Host note old.host.disk.faults new.host.disk.faults
  pub built : IsFault note → IsNoteOf action note

pub done_of : (kind : DbKind) (action : Action) (task : Task) (old new : ToolMoment) (note : Note) → DoesTask kind task old new note → TaskDone kind action task old new note
done_of kind action task old new note does = record {
  each = does.each;
  stated = does.stated;
  prints = does.prints;
  stands = does.stands;
  only_prints = λ only. (does.only_prints only).0;
  in_place = does.in_place;
  faults = does.faults;
  built = λ failed. note_of_action action note (fault_built note does.device failed);
}

-- an action that is no script, as it is asked for
pub acted_of : (kind : DbKind) (action : Action) (s : DbState) (g : Given) (old new : ToolMoment) (note : Note) → CanAct action → DoesTask kind (task_of kind s g action) old new note → TaskDone kind action (task_by action kind s g) old new note
acted_of kind action s g old new note can does = subst (λ (t : Task). TaskDone kind action t old new note) (done_task action kind s g can) (done_of kind action (task_of kind s g action) old new note does)

pub acted_draws : (kind : DbKind) (action : Action) (s : DbState) (g : Given) (old new : Stream) (note : Note) → CanAct action → DrawsWords (task_of kind s g action) old new note → DrawsWords (task_by action kind s g) old new note
acted_draws kind action s g old new note can draws = subst (λ (t : Task). DrawsWords t old new note) (done_task action kind s g can) draws

module _ (kind : DbKind) (laws : DbLaws kind) (action : Action) (g : Given) where
  abbrev asked : Asked
  asked = asking kind false action g

  -- the image of the map of what is read
  same_read : (d : DiskState) (c : Image) → SameMap kind d.reads c → KeepsRead asked d 0 c
  same_read d c same =
      let there = laws.within same.main same.map same.opens in
      let s = at_rest same.map (kind.load_of there.0) in
      record {
        main = same.main;
        read = same.is;
        session = s;
        starts = inl (record { bytes = there.0; there = there.1; map = same.map; opens = same.opens; rests = refl });
        keeps = record { count = 0; within = omega arith; acknowledged = omega (arith, (task_plain asked s).none); holds = same.same };
      }

  before : (d : DiskState) (c : Image) → d.leaves c → IsBefore asked d 0 c
  before d c left = record { left = left; none = λ s. (task_plain asked s).none }

  -- what opening leaves, by what is read
  opening_leaves : (d : DiskState) (c : Image) (n : ℕ) → n ≡ d.mark → d.leaves c ⊎ SameMap kind d.reads c → IsBefore asked d (n - d.mark) c ⊎ KeepsRead asked d (n - d.mark) c
  opening_leaves d c n is left =
      let start : 0 ≡ n - d.mark = omega (arith, is) in
      subst (λ (k : ℕ). IsBefore asked d k c ⊎ KeepsRead asked d k c) start (⊎_elim (λ was. inl (before d c was)) (λ same. inr (same_read d c same)) left)

  -- ---- the file is not opened

  module _ {B : Type 0} (o p : HostState) (d e : DiskState) (fault : OpenFault) (de : GoesOn d e) (moment_e : IsMoment e) (other : action ≡ Consistent → ⊥) (silent : p ≡ o)
      (refused : WhereRead d (λ main. IsOpenRefusal kind main fault)) (disk : OpensDisk {B = B} kind d e (Err fault)) (cause : FaultHasCause {T = B} IsDeviceFault d.faults e.faults (Err fault)) where
    nothing : Printed [] (moment d o) (moment e p)
    nothing = printed_still (moment d o) (moment e p) silent disk.mark

    less : (f : OpenFault) → (IsFault (opening_note Host f) → ⊥) → IsDeviceFault f ⊎ MayLeaveLess d e → MayLeaveLess d e
    less NoDisk no_fault either = absurd (no_fault tt)
    less f no_fault either = ⊎_elim (λ failed. absurd failed) (λ less. less) either

    stated_by : (f : OpenFault) (main : Image) → IsOpenRefusal kind main f → IsCutOff (opening_note Host f) ⊎ IsStatedBy asked main (moment d o) (moment e p) (opening_note Host f)
    stated_by NoFile main is = inr (record { output = []; result = unopened NoFile (is, λ make. cc make) (other_note action NoFile other) (other_output action NoFile other); told = nothing.told })
    stated_by (TooBig size) main is = inr (record { output = []; result = unopened (TooBig size) is (other_note action (TooBig size) other) (other_output action (TooBig size) other); told = nothing.told })
    stated_by (Flawed at check) main is = inr (record { output = []; result = unopened (Flawed at check) is (other_note action (Flawed at check) other) (other_output action (Flawed at check) other); told = nothing.told })
    stated_by NoRoom main is = inl (inr refl)
    stated_by NoDisk main is = inl (inl tt)

    why : (f : OpenFault) → (IsFault (opening_note Host f) → ⊥) → WhereRead d (λ main. IsOpenRefusal kind main f) → (opening_note Host f ≡ Memory) ⊎ ((g : OpenFault) × WhereRead d (λ main. IsUnopened asked main g))
    why NoFile no_fault refused = inr (NoFile, λ main is. (refused main is, λ make. cc make))
    why (TooBig size) no_fault refused = inr (TooBig size, refused)
    why (Flawed at check) no_fault refused = inr (Flawed at check, refused)
    why NoRoom no_fault refused = inl refl
    why NoDisk no_fault refused = absurd (no_fault tt)

    pub unopened_does : DoesAction asked (moment d o) (moment e p) (opening_note Host fault)
    unopened_does = record {
      each = record { each = λ c n left. let pair = disk.each.each c n left in (omega (arith, pair.0), omega (arith, pair.0, disk.mark), opening_leaves d c n pair.0 pair.1) };
      later = omega (arith, disk.mark);
      stated = λ main is. stated_by fault main (refused main is);
      prints = λ main is wanted output result. some_none (moment d o) (moment e p) output nothing;
      warned = nothing.warned;
      ends = λ no_fault. not_opened (why fault no_fault refused) disk.mark (record { each = λ c n left. inl ((less fault no_fault disk.unopened).each.each c n left).1 });
      unopened = λ no_fault main is f un. file_of_less d e (less fault no_fault disk.unopened);
      kept = λ main is there settled prints. file_of_less d e (disk.settled main is settled);
      checked = λ is. absurd (other is);
      in_place = λ _ bytes reads. disk.publishes;
      absent = λ make. absurd (cc make);
      made = λ make. absurd (cc make);
      faults = record { rose = λ is. cause.rose (device_of fault is); stood = λ not. ⊎_elim (λ failed. absurd (not (note_of fault failed))) (λ same. same) cause.stood };
      built = note_of_action action (opening_note Host fault) (opening_built fault);
      no_usage = opening_no_usage fault;
    }

  -- a file that is refused is not opened, unless the disk failed or memory ran out
  why_not : (d : DiskState) (f : OpenFault) (main : Image) (s : DbState) → IsOpenRefusal kind main f → StartsFrom asked main s → IsCutOff (opening_note Host f)
  why_not d NoFile main s is starts = absurd (starts_fails asked laws main s NoFile starts (is, λ make. cc make))
  why_not d (TooBig size) main s is starts = absurd (starts_fails asked laws main s (TooBig size) starts is)
  why_not d (Flawed at check) main s is starts = absurd (starts_fails asked laws main s (Flawed at check) starts is)
  why_not d NoRoom main s is starts = inr refl
  why_not d NoDisk main s is starts = inl tt

  -- and draws no words
  pub unopened_draws : (d : DiskState) (words : Stream) (fault : OpenFault) → WhereRead d (λ main. IsOpenRefusal kind main fault) → DrawsFor asked d words words (opening_note Host fault)
  unopened_draws d words fault refused = record {
    count = 0;
    drawn = refl;
    opened = λ main is s starts. (omega arith, inl (why_not d fault main s (refused main is) starts));
    unopened = λ main is f un. refl;
  }

  -- ---- the file is opened, and the task done

  module _ {B : Type 0} (db : B) (s t : DbState) (o q p : HostState) (d x e : DiskState) (note : Note) (dx : GoesOn d x) (xe : GoesOn x e) (moment_x : IsMoment x) (moment_e : IsMoment e) (other : action ≡ Consistent → ⊥) (silent : q ≡ o)
      (opens : WhereRead d (λ main. OpensTo kind main s)) (disk : OpensDisk kind d x (Ok db)) (stood : x.faults ≡ d.faults)
      (task : TaskDone kind action (task_for asked s) (during x q s) (during e p t) note) (tied : t.is_broken ≡ false → (c : Image) → e.leaves c → kind.opens c t.committed) where
    marks : x.mark ≤ e.mark
    marks = task.prints.grew.later

    starts : WhereRead d (λ main. StartsFrom asked main s)
    starts main is = inl (opens main is)

    printed_from : (l : List ℕ) → Printed l (moment x q) (moment e p) → Printed l (moment d o) (moment e p)
    printed_from l printed = record {
      told = printed.told ∙ ap (λ (h : HostState). told_with h.told l) silent;
      warned = printed.warned ∙ ap (λ (h : HostState). h.warned) silent;
      later = omega (arith, marks, disk.mark);
      most = omega (arith, printed.most, disk.mark);
      marked = λ some. omega (arith, printed.marked (subst (λ (h : HostState). IsSome h.told) (sym silent) some), disk.mark);
    }

    some_from : (l : List ℕ) → PrintsSome l (moment x q) (moment e p) → PrintsSome l (moment d o) (moment e p)
    some_from l some = record { printed = some.printed; unprinted = some.unprinted; whole = some.whole; grew = printed_from some.printed some.grew }

    kept_read : (c : Image) (n : ℕ) → e.left_since x.clock c n → KeepsPrefix kind (task_for asked s) s.committed (n - x.mark) c → KeepsRead asked d (n - d.mark) c
    kept_read c n left keeps =
        let main = read_of d e x.clock c n (goes_then d x e moment_e dx xe) moment_e left in
        let same : n - x.mark ≡ n - d.mark = ap (λ (m : ℕ). n - m) disk.mark in
        record { main = main.0; read = main.1; session = s; starts = starts main.0 main.1; keeps = subst (λ (k : ℕ). KeepsPrefix kind (task_for asked s) s.committed k c) same keeps }

    -- the map of what was read is that of the session
    same_opens : (c : Image) → SameMap kind d.reads c → kind.opens c s.committed
    same_opens c same =
        let there = opens same.main same.is in
        subst (λ (m : Map). kind.opens c m) (laws.once same.main same.map there.map same.opens there.opens ∙ sym (ap (λ (b : DbState). b.committed) there.rests)) same.same

    stands : (IsFault note → ⊥) → StandsAfter kind (task_for asked s) (during x q s) (during e p t) note → StandsAt asked s d e note
    stands no_fault st = record {
      count = st.count;
      within = st.within;
      whole = st.whole;
      memory = λ is. subst (λ (m : ℕ). (task_for asked s).may_stand (e.mark - m) st.count) disk.mark (st.memory is);
      no_more = each_then d x e _ dx xe
          (record { each = λ c n left. ⊎_elim (λ was. inl (inl was)) (λ same. inr (record { count = 0; within = omega arith; holds = same_opens c same })) (disk.each.each c n left).1 })
          (record { each = λ c n left. inr (st.no_more.each c n left) });
      end = λ c left. subst (λ (m : Map). kind.opens c m) (ap (λ (b : DbState). b.committed) st.rests) (tied (ap (λ (b : DbState). b.is_broken) st.rests) c left);
    }

    of_built : IsCutOff note ⊎ (note ≡ (task_for asked s).note) → IsNoteOf action note
    of_built (inl (inl failed)) = task.built failed
    of_built (inl (inr memory)) = subst (IsNoteOf action) (sym memory) (note_of_action action Memory tt)
    of_built (inr is) = subst (IsNoteOf action) (sym is) (task_plain asked s).built

    of_usage : IsCutOff note ⊎ (note ≡ (task_for asked s).note) → note ≡ Usage → ⊥
    of_usage (inl cut) is = cut_off_no_usage note cut is
    of_usage (inr ends) is = (task_plain asked s).no_usage (sym ends ∙ is)

    ended : IsCutOff note ⊎ (note ≡ (task_for asked s).note)
    ended = ⊎_elim inl (λ met. inr met.ends) task.stated

    pub opened_does : DoesAction asked (moment d o) (moment e p) note
    opened_does = record {
      each = each_then d x e _ dx xe
          (record { each = λ c n left. let pair = disk.each.each c n left in (omega (arith, pair.0), omega (arith, pair.0, disk.mark, marks), opening_leaves d c n pair.0 pair.1) })
          (record { each = λ c n left. let pair = task.each.each c n left in (omega (arith, pair.0, disk.mark), pair.1, inr (kept_read c n left pair.2)) });
      later = omega (arith, marks, disk.mark);
      stated = λ main is. ⊎_elim inl (λ met. inr (record { output = (task_for asked s).output; result = acted s (starts main is) met.ends refl; told = met.told ∙ ap (λ (h : HostState). told_with h.told (task_for asked s).output) silent })) task.stated;
      prints = λ main is wanted output result.
          let same = stated_once asked laws main (task_for asked s).note wanted (task_for asked s).output output (acted s (starts main is) refl refl) result in
          subst (λ (l : List ℕ). PrintsSome l (moment d o) (moment e p)) same.1 (some_from (task_for asked s).output task.prints);
      warned = task.prints.grew.warned ∙ ap (λ (h : HostState). h.warned) silent;
      ends = λ no_fault. opened s starts (stands no_fault (task.stands no_fault));
      unopened = λ no_fault main is f un. absurd (opens_fails asked laws main s f (opens main is) un);
      kept = λ main is there settled prints.
          let less = disk.settled main is settled in
          file_then d x e dx xe (omega (arith, disk.mark)) marks less.leaves (file_of_less d x less) (file_of_prints x e (task.only_prints (prints s (starts main is))));
      checked = λ is. absurd (other is);
      in_place = λ is bytes reads. task.in_place is ∙ disk.publishes;
      absent = λ make. absurd (cc make);
      made = λ make. absurd (cc make);
      faults = subst (λ (n : ℕ). Faults Host note n e.faults) stood task.faults;
      built = of_built ended;
      no_usage = of_usage ended;
    }

    -- and the words that are drawn
    pub opened_draws : (old new : Stream) → DrawsWords (task_for asked s) old new note → DrawsFor asked d old new note
    opened_draws old new draws = record {
      count = draws.count;
      drawn = draws.drawn;
      opened = λ main is other starts_too. subst (λ (b : DbState). (draws.count ≤ (task_for asked b).words) × (IsCutOff note ⊎ (draws.count ≡ (task_for asked b).words))) (starts_once asked laws main s other (starts main is) starts_too) (draws.within, draws.whole);
      unopened = λ main is f un. absurd (opens_fails asked laws main s f (opens main is) un);
    }

-- an action that is no script never ends with a fault of standard input
pub input_stands : (note : Note) (n : ℕ) → IsBuilt note → Faults Input note n n
input_stands note n built = record { rose = λ is. absurd (subst IsBuilt is built); stood = λ other. refl }
