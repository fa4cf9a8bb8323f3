-- What is left of a run, in words of maps and transactions.
use Rattle.std.proofs.Common.{◌≡◌, ◌⊎◌, inl, inr, ⊎_elim, ℕ, ◌-◌, true, List, Option, None, Some, length, refl, sym, ◌∙◌, ap, subst, arith}
use Rattle.base_bytes.specs.OrderedMap.{Map}
use Rattle.base_devices.specs.CrashImages.{Image, DiskState, GoesOn, IsMoment, IsAbsent, Shows}
use Rattle.base_devices.specs.Frames.{SameDisk, KeepsFile}
use Rattle.base_devices.specs.HostCalls.{HostState, HostMoment, moment, told_with}
use Rattle.base_devices.proofs.FrameLemmas.{file_still, leaves_twice}
use Rattle.base_devices.proofs.Moments.{leaves_still, same_leaves}
use Rattle.db_tool.proofs.PrintLemmas.{printed_none, some_none}
use Rattle.rand_core.specs.Stream.{Stream}
use Rattle.base_notes.specs.declared.action.Action.{Action}
use Rattle.base_notes.specs.declared.action.Action.TheVariants.{Consistent}
use Rattle.base_notes.specs.declared.note.Device.TheVariants.{Host}
use Rattle.base_notes.specs.declared.note.Note.{Note}
use Rattle.base_notes.specs.declared.note.Note.TheVariants.{Memory}
use Rattle.db_core.specs.Sessions.{DbLaws, DbState}
use Rattle.db_tool.specs.Tasks.{KeepsPrefix}
use Rattle.db_tool.specs.ToolNotes.{IsFault, IsCutOff, Faults}
use Rattle.cyr_top.specs.Actions.{IsBefore, IsStart, StandsAt, EndsAt, opened, not_opened, checked, DoesAction, DrawsFor, but_warned}
use Rattle.cyr_top.specs.Asked.{Asked, task_by, task_for}
use Rattle.cyr_top.specs.Crashes.{StartsAt, opened as opens_now, to_make, IsNotMade, LeavesPrefixes, LeavesAtEnd, KeepsPromises}
use Rattle.cyr_top.specs.Stated.{StartsFrom, StatedResult}
use Rattle.cyr_top.proofs.StatedLemmas.{note_of_action, starts_once, starts_fails, stated_once, task_plain}
use Rattle.cyr_top.proofs.ActLemmas.{some_of, read_of, left_at_end}

module _ (asked : Asked) (laws : DbLaws asked.kind) (o p : HostState) (d e : DiskState) (note : Note) (de : GoesOn d e) (moment_d : IsMoment d) (moment_e : IsMoment e) (does : DoesAction asked (moment d o) (moment e p) note) where
  -- the session of what was read is the one from which the run starts
  starts_read : (s : DbState) (main : Image) → StartsAt asked d s → d.reads ≡ Some main → StartsFrom asked main s
  starts_read s main (opens_now each from) is = inl (from main is)
  starts_read s main (to_make make absent empty) is = inr (make, absent main (moment_d.reads_left main is), empty)

  before : (s : DbState) (k : ℕ) (c : Image) (n : ℕ) → StartsAt asked d s → n - d.mark ≡ k → e.left_since d.clock c n → IsBefore asked d k c → KeepsPrefix asked.kind (task_for asked s) s.committed k c ⊎ IsNotMade asked k c
  before s k c n (opens_now each from) is left was = inl (record { count = 0; within = omega arith; acknowledged = omega (arith, was.none s); holds = each.each c was.left })
  before s k c n (to_make make absent empty) is left was =
      let none = absent c was.left in
      let read = read_of d e d.clock c n de moment_e left in
      let unread : IsAbsent d = read.1 ∙ ap (λ (i : Image). Some i) (absent read.0 (moment_d.reads_left read.0 read.1)) in
      inr (record { make = make; absent = none; silent = omega (arith, (does.absent make unread).each c n left none, is) })

  pub crash_keeps : (s : DbState) → StartsAt asked d s → LeavesPrefixes asked s d e
  crash_keeps s starts = record {
    each = λ c n left. ⊎_elim (before s (n - d.mark) c n starts refl left)
        (λ kept. inl (subst (λ (b : DbState). KeepsPrefix asked.kind (task_for asked b) b.committed (n - d.mark) c) (starts_once asked laws kept.main kept.session s kept.starts (starts_read s kept.main starts kept.read)) kept.keeps))
        (does.each.each c n left).2;
  }

  -- ---- at the end

  -- an image from the start is that of the map at the start, or not made yet
  start_left : (s : DbState) (c : Image) → StartsAt asked d s → e.leaves c → IsStart asked d c → asked.kind.opens c s.committed ⊎ ((asked.make ≡ true) × (c ≡ None) × IsCutOff note)
  start_left s c (opens_now each from) left (inl was) = inl (each.each c was)
  start_left s c (to_make make absent empty) left (inl was) =
      let none = absent c was in
      let read = read_of d e d.clock c e.mark de moment_e (left_at_end d e c de moment_e left) in
      let unread : IsAbsent d = read.1 ∙ ap (λ (i : Image). Some i) (absent read.0 (moment_d.reads_left read.0 read.1)) in
      ⊎_elim (λ cut. inr (make, none, cut)) (λ there. absurd (there (subst e.leaves none left))) (does.made make unread)
  start_left s c starts left (inr made) =
      let from = starts_read s None starts made.1 in
      inl (⊎_elim (λ opens. absurd (cc opens.there)) (λ makes. subst (λ (i : Image). asked.kind.opens i s.committed) (sym made.2) (subst (λ (m : Map). asked.kind.opens (Some asked.kind.empty) m) (sym (ap (λ (b : DbState). b.committed) makes.2)) laws.fresh)) from)

  no_change : (s : DbState) → (IsFault note → ⊥) → StartsAt asked d s → ((c : Image) → e.leaves c → IsStart asked d c) → ((note ≡ Memory → ⊥) → 0 ≡ length (task_for asked s).transactions) → (note ≡ Memory → e.mark ≡ d.mark) → LeavesAtEnd asked s d e note
  no_change s no_fault starts each none mark = record {
    count = 0;
    within = omega arith;
    whole = none;
    memory = λ is. let zero_more : 0 ≡ e.mark - d.mark = omega (arith, mark is) in subst (λ (k : ℕ). (task_for asked s).may_stand k 0) zero_more (task_plain asked s).may;
    each = λ c left. ⊎_elim inl (λ missing. inr (missing.0, missing.1, ⊎_elim (λ failed. absurd (no_fault failed)) (λ memory. memory) missing.2)) (start_left s c starts left (each c left));
  }

  check_none : asked.action ≡ Consistent → (s : DbState) → 0 ≡ length (task_for asked s).transactions
  check_none check s = subst (λ (a : Action). 0 ≡ length (task_by a asked.kind s asked.given).transactions) (sym check) refl

  ends_by : (s : DbState) → Shows d → (IsFault note → ⊥) → StartsAt asked d s → EndsAt asked d e note → LeavesAtEnd asked s d e note
  ends_by s shows no_fault starts (opened t from st) =
      let main = some_of d.reads shows in
      let same = starts_once asked laws main.0 t s (from main.0 main.1) (starts_read s main.0 starts main.1) in
      let st_s : StandsAt asked s d e note = subst (λ (b : DbState). StandsAt asked b d e note) same st in
      record { count = st_s.count; within = st_s.within; whole = st_s.whole; memory = st_s.memory; each = λ c left. inl (st_s.end c left) }
  ends_by s shows no_fault starts (not_opened why mark each) =
      no_change s no_fault starts (λ c left. each.each c e.mark (left_at_end d e c de moment_e left))
      (λ not. ⊎_elim (λ memory. absurd (not memory)) (λ un. let main = some_of d.reads shows in absurd (starts_fails asked laws main.0 s un.0 (starts_read s main.0 starts main.1) (un.1 main.0 main.1))) why)
      (λ _. mark)
  ends_by s shows no_fault starts (checked check mark each) =
      no_change s no_fault starts (λ c left. each.each c e.mark (left_at_end d e c de moment_e left)) (λ _. check_none check s) mark

  pub ends_keep : (s : DbState) → Shows d → (IsFault note → ⊥) → StartsAt asked d s → LeavesAtEnd asked s d e note
  ends_keep s shows no_fault starts = ends_by s shows no_fault starts (does.ends no_fault)

  -- what is stated is what is done
  pub exactly_stated : (main : Image) → d.reads ≡ Some main → (wanted : Note) (output : List ℕ) → StatedResult asked main wanted output → IsCutOff note ⊎ ((note ≡ wanted) × (p.told ≡ told_with o.told output))
  exactly_stated main is wanted output result =
      ⊎_elim inl (λ met. let same = stated_once asked laws main note wanted met.output output met.result result in inr (same.0, met.told ∙ ap (told_with o.told) same.1)) (does.stated main is)

  pub keeps_promises : KeepsPromises asked (moment d o) (moment e p) note
  keeps_promises = record { crash = crash_keeps; end = ends_keep; exactly = exactly_stated; does = does }

-- ---- a call that changes nothing of the disk behind the run, and prints only to standard error

ends_still : (asked : Asked) (d x e : DiskState) (note : Note) → SameDisk x e → EndsAt asked d x note → EndsAt asked d e note
ends_still asked d x e note same (opened s starts st) = opened s starts (record {
  count = st.count;
  within = st.within;
  whole = st.whole;
  memory = λ is. subst (λ (m : ℕ). (task_for asked s).may_stand (m - d.mark) st.count) (sym same.mark) (st.memory is);
  no_more = leaves_still d x e _ same st.no_more;
  end = λ c left. st.end c (same.leaves.no_more c left);
})
ends_still asked d x e note same (not_opened why mark each) = not_opened why (same.mark ∙ mark) (leaves_still d x e _ same each)
ends_still asked d x e note same (checked check mark each) = checked check (λ is. same.mark ∙ mark is) (leaves_still d x e _ same each)

does_disk : (asked : Asked) (o p : HostState) (d x e : DiskState) (note : Note) → SameDisk x e → DoesAction asked (moment d o) (moment x p) note → DoesAction asked (moment d o) (moment e p) note
does_disk asked o p d x e note same does = record {
  each = record { each = λ c n left. let pair = does.each.each c n ((same.left_since d.clock c n).0 left) in (pair.0, omega (arith, pair.1, same.mark), pair.2) };
  later = omega (arith, does.later, same.mark);
  stated = λ main is. ⊎_elim inl (λ met. inr (record { output = met.output; result = met.result; told = met.told })) (does.stated main is);
  prints = λ main is wanted output result.
      let some = does.prints main is wanted output result in
      record {
        printed = some.printed;
        unprinted = some.unprinted;
        whole = some.whole;
        grew = record {
          told = some.grew.told;
          warned = some.grew.warned;
          later = omega (arith, some.grew.later, same.mark);
          most = omega (arith, some.grew.most, same.mark);
          marked = λ shown. omega (arith, some.grew.marked shown, same.mark);
        };
      };
  warned = does.warned;
  ends = λ no_fault. ends_still asked d x e note same (does.ends no_fault);
  unopened = λ no_fault main is fault un. file_still d x e same (does.unopened no_fault main is fault un);
  kept = λ main is there settled prints. file_still d x e same (does.kept main is there settled prints);
  checked = λ check bytes is. let met = does.checked check bytes is in (same.reads ∙ met.0, leaves_twice d x e met.1 same.leaves);
  in_place = λ works bytes is. same.publishes ∙ does.in_place works bytes is;
  absent = λ make none. leaves_still d x e _ same (does.absent make none);
  made = λ make none. ⊎_elim inl (λ there. inr (λ left. there (same.leaves.no_more None left))) (does.made make none);
  faults = subst (λ (n : ℕ). Faults Host note d.faults n) (sym same.faults) does.faults;
  built = does.built;
  no_usage = does.no_usage;
}

pub does_still : (asked : Asked) (o p q : HostState) (d x e : DiskState) (note : Note) → SameDisk x e → q.told ≡ p.told → q.tell_faults ≡ p.tell_faults → DoesAction asked (moment d o) (moment x p) note
    → DoesAction asked (moment d o) (but_warned e o q) note
does_still asked o p q d x e note same told faults does =
    let streams : p ≡ record q { warned = o.warned } =
    ap (λ (w : Option (List ℕ)). record p { warned = w }) does.warned
    ∙ ap (λ (t : Option (List ℕ)). record p { warned = o.warned; told = t }) (sym told)
    ∙ ap (λ (n : ℕ). record q { warned = o.warned; tell_faults = n }) (sym faults) in
    does_disk asked o (record q { warned = o.warned }) d x e note same (subst (λ (s : HostState). DoesAction asked (moment d o) (moment x s) note) streams does)

-- ---- memory ran out before anything was done

pub nothing_done : (asked : Asked) (m : HostMoment) → IsMoment m.disk → DoesAction asked m m Memory
nothing_done asked m is = record {
  each = record { each = λ c n left. let now = is.now c n left in (omega (arith, now.1), omega (arith, now.1), inl (record { left = now.0; none = λ s. let start : 0 ≡ n - m.disk.mark = omega (arith, now.1) in subst (λ (k : ℕ). (task_for asked s).acknowledged k ≡ 0) start (task_plain asked s).none })) };
  later = omega arith;
  stated = λ main read. inl (inr refl);
  prints = λ main read wanted output result. some_none m m output (printed_none m);
  warned = refl;
  ends = λ no_fault. not_opened (inl refl) refl (record { each = λ c n left. inl (is.now c n left).0 });
  unopened = λ no_fault main read fault un. file;
  kept = λ main read there settled prints. file;
  checked = λ check bytes read. (refl, same_leaves m.disk);
  in_place = λ works bytes read. refl;
  absent = λ make none. record { each = λ c n left was. (is.now c n left).1 };
  made = λ make none. inl (inr refl);
  faults = record { rose = λ no. absurd (cc no); stood = λ _. refl };
  built = note_of_action asked.action Memory tt;
  no_usage = λ no. cc no;
}
  where
    file : KeepsFile m.disk m.disk
    file = record { each = record { each = λ c n left. let now = is.now c n left in (omega (arith, now.1), omega (arith, now.1), now.0) }; fresh = refl; written = refl; publishes = refl }

pub nothing_drawn : (asked : Asked) (d : DiskState) (words : Stream) → DrawsFor asked d words words Memory
nothing_drawn asked d words = record { count = 0; drawn = refl; opened = λ main is s starts. (omega arith, inl (inr refl)); unopened = λ main is f un. refl }

-- what was done is promised of the run, once its note was printed to standard error
pub promised : (asked : Asked) → DbLaws asked.kind → (o p q : HostState) (d x e : DiskState) (note : Note) → GoesOn d e → IsMoment d → IsMoment e → SameDisk x e → q.told ≡ p.told → q.tell_faults ≡ p.tell_faults
    → DoesAction asked (moment d o) (moment x p) note → KeepsPromises asked (moment d o) (but_warned e o q) note
promised asked laws o p q d x e note de moment_d moment_e same told faults does =
    keeps_promises asked laws o (record q { warned = o.warned }) d e note de moment_d moment_e (does_still asked o p q d x e note same told faults does)
