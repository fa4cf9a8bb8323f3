-- A check of the main file as it is: it only reads, and prints a line or refuses the file.
use Rattle.std.proofs.Common.{◌≡◌, ◌++◌, ◌⊎◌, inl, inr, ⊎_elim, ℕ, ◌-◌, ◌≤◌, false, List, [], Ok, Err, take, refl, sym, ◌∙◌, ap, subst, arith}
use Rattle.std.specs.Prelude.{IsSome, codes}
use Rattle.base_bytes.specs.declared.flaw.Flaw.{Flaw}
use Rattle.base_devices.specs.Causes.{HasCause, FaultHasCause}
use Rattle.base_devices.specs.CrashImages.{Image, DiskState, GoesOn, WhereRead}
use Rattle.base_devices.specs.Frames.{KeepsFile, KeepsFiles, StaysAs}
use Rattle.base_devices.specs.HostCalls.{HostState, moment, MovesMark, told_with}
use Rattle.base_devices.proofs.FrameLemmas.{file_of_stays, file_of_prints, file_then, leaves_twice}
use Rattle.base_notes.specs.declared.action.Action.TheVariants.{Consistent}
use Rattle.base_notes.specs.declared.note.Device.TheVariants.{Host}
use Rattle.base_notes.specs.declared.note.Note.{Note}
use Rattle.base_notes.specs.declared.note.Note.TheVariants.{Done, Usage, DeviceFault, Memory}
use Rattle.db_core.specs.Opening.{IsOpenRefusal, IsDeviceFault, IsDamage}
use Rattle.db_core.specs.Sessions.{DbKind, DbLaws, at_rest}
use Rattle.base_bytes.specs.OrderedMap.{Map}
use Rattle.db_core.specs.declared.opening.OpenFault.{OpenFault}
use Rattle.db_core.specs.declared.opening.OpenFault.TheVariants.{Absent as NoFile, TooBig, NoMemory as NoRoom, DiskFault as NoDisk, Damaged as Flawed}
use Rattle.db_tool.specs.Doing.{Looks}
use Rattle.db_tool.specs.Printing.{Printed, PrintsSome}
use Rattle.db_tool.specs.Tasks.{Given}
use Rattle.db_tool.specs.ToolNotes.{IsFault, IsCutOff, Faults, opening_note}
use Rattle.db_tool.proofs.PrintLemmas.{printed_still, some_none, prints_done, prints_failed}
use Rattle.std.proofs.lemmas.List.{append-nil}
use Rattle.rand_core.specs.Stream.{Stream}
use Rattle.cyr_top.specs.Actions.{IsBefore, checked, IsStatedBy, DoesAction, DrawsFor}
use Rattle.cyr_top.specs.Asked.{Asked, asking}
use Rattle.cyr_top.specs.Stated.{StatedResult, acted, unopened, IsBuilt}
use Rattle.cyr_top.proofs.StatedLemmas.{stated_once, opening_built, opening_no_usage, cut_off_built, cut_off_no_usage}
use Rattle.cyr_top.proofs.ActLemmas.{device_of, note_of}

-- a flaw is no fault of the device
pub stood_for : {T : Type 0} {before now : ℕ} (f : OpenFault) (at : ℕ) (flaw : Flaw) → f ≡ Flawed at flaw → FaultHasCause {T = T} IsDeviceFault before now (Err f) → now ≡ before
stood_for f at flaw is cause = ⊎_elim (λ failed. absurd (subst IsDeviceFault is failed)) (λ same. same) cause.stood

module _ (kind : DbKind) (laws : DbLaws kind) (g : Given) where
  abbrev asked : Asked
  asked = asking kind false Consistent g

  -- an image that could be left at the start; a check acknowledges nothing
  before : (d : DiskState) (k : ℕ) (c : Image) → d.leaves c → IsBefore asked d k c
  before d k c left = record { left = left; none = λ s. refl }

  -- a check draws no words
  pub checks_draw : (d : DiskState) (words : Stream) (note : Note) → DrawsFor asked d words words note
  checks_draw d words note = record { count = 0; drawn = refl; opened = λ main is s starts. (omega arith, inr refl); unopened = λ main is f un. refl }

  -- ---- a line is printed

  module _ (wanted note : Note) (line : List ℕ) (o q p : HostState) (d x e : DiskState) (dx : GoesOn d x) (xe : GoesOn x e) (silent : q ≡ o) (stays : StaysAs d x) (fresh : x.fresh ≡ d.fresh) (stood : x.faults ≡ d.faults)
      (result : WhereRead d (λ main. StatedResult asked main wanted line)) (built : IsBuilt wanted) (usage : wanted ≡ Usage → ⊥) (looks : Looks wanted line (moment x q) (moment e p) note) where
    marks : x.mark ≤ e.mark
    marks = looks.disk.mark

    printed_from : (l : List ℕ) → Printed l (moment x q) (moment e p) → Printed l (moment d o) (moment e p)
    printed_from l printed = record {
      told = printed.told ∙ ap (λ (h : HostState). told_with h.told l) silent;
      warned = printed.warned ∙ ap (λ (h : HostState). h.warned) silent;
      later = omega (arith, marks, stays.mark);
      most = omega (arith, printed.most, stays.mark);
      marked = λ some. omega (arith, printed.marked (subst (λ (h : HostState). IsSome h.told) (sym silent) some), stays.mark);
    }

    file : KeepsFile d e
    file = file_then d x e dx xe (omega (arith, stays.mark)) marks stays.main.leaves.no_more (file_of_stays d x fresh stays) (file_of_prints x e looks.disk)

    ended : IsCutOff note ⊎ (note ≡ wanted)
    ended = ⊎_elim inl (λ met. inr met.0) looks.stated

    of_built : IsCutOff note ⊎ (note ≡ wanted) → IsBuilt note
    of_built (inl cut) = cut_off_built note looks.device cut
    of_built (inr is) = subst IsBuilt (sym is) built

    of_usage : IsCutOff note ⊎ (note ≡ wanted) → note ≡ Usage → ⊥
    of_usage (inl cut) is = cut_off_no_usage note cut is
    of_usage (inr ends) is = usage (sym ends ∙ is)

    pub line_does : DoesAction asked (moment d o) (moment e p) note
    line_does = record {
      each = record { each = λ c n left. let pair = file.each.each c n left in (pair.0, pair.1, inl (before d (n - d.mark) c pair.2)) };
      later = omega (arith, marks, stays.mark);
      stated = λ main is. ⊎_elim inl (λ met. inr (record { output = line; result = subst (λ (n : Note). StatedResult asked main n line) (sym met.0) (result main is); told = (printed_from line met.1).told })) looks.stated;
      prints = λ main is other output other_result.
          let same = stated_once asked laws main wanted other line output (result main is) other_result in
          subst (λ (l : List ℕ). PrintsSome l (moment d o) (moment e p)) same.1
          (record { printed = looks.prints.printed; unprinted = looks.prints.unprinted; whole = looks.prints.whole; grew = printed_from looks.prints.printed looks.prints.grew });
      warned = looks.prints.grew.warned ∙ ap (λ (h : HostState). h.warned) silent;
      ends = λ no_fault. checked refl (λ memory. (looks.silent memory).1 ∙ stays.mark) (record { each = λ c n left. inl (file.each.each c n left).2 });
      unopened = λ no_fault main is f un. file;
      kept = λ main is there settled prints. file;
      checked = λ _ bytes is. (looks.disk.keeps.reads ∙ stays.main.reads, leaves_twice d x e stays.main.leaves looks.disk.keeps.leaves);
      in_place = λ _ bytes reads. looks.disk.keeps.publishes ∙ stays.main.publishes;
      absent = λ make. absurd (cc make);
      made = λ make. absurd (cc make);
      faults = subst (λ (n : ℕ). Faults Host note n e.faults) stood looks.faults;
      built = of_built ended;
      no_usage = of_usage ended;
    }

  -- ---- the file is refused, and not for a flaw

  module _ {T : Type 0} (fault : OpenFault) (o p : HostState) (d e : DiskState) (silent : p ≡ o) (stays : StaysAs d e) (fresh : e.fresh ≡ d.fresh) (no_flaw : IsDamage fault → ⊥)
      (refused : WhereRead d (λ main. IsOpenRefusal kind main fault)) (cause : FaultHasCause {T = T} IsDeviceFault d.faults e.faults (Err fault)) where
    nothing : Printed [] (moment d o) (moment e p)
    nothing = printed_still (moment d o) (moment e p) silent stays.mark

    stayed : KeepsFile d e
    stayed = file_of_stays d e fresh stays

    stated_by : (f : OpenFault) (main : Image) → (IsDamage f → ⊥) → IsOpenRefusal kind main f → IsCutOff (opening_note Host f) ⊎ IsStatedBy asked main (moment d o) (moment e p) (opening_note Host f)
    stated_by NoFile main sound is = inr (record { output = []; result = unopened NoFile (is, λ make. cc make) refl refl; told = nothing.told })
    stated_by (TooBig size) main sound is = inr (record { output = []; result = unopened (TooBig size) is refl refl; told = nothing.told })
    stated_by (Flawed at flaw) main sound is = absurd (sound tt)
    stated_by NoRoom main sound is = inl (inr refl)
    stated_by NoDisk main sound is = inl (inl tt)

    pub refusal_does : DoesAction asked (moment d o) (moment e p) (opening_note Host fault)
    refusal_does = record {
      each = record { each = λ c n left. let pair = stayed.each.each c n left in (pair.0, pair.1, inl (before d (n - d.mark) c pair.2)) };
      later = omega (arith, stays.mark);
      stated = λ main is. stated_by fault main no_flaw (refused main is);
      prints = λ main is wanted output result. some_none (moment d o) (moment e p) output nothing;
      warned = nothing.warned;
      ends = λ no_fault. checked refl (λ _. stays.mark) (record { each = λ c n left. inl (stayed.each.each c n left).2 });
      unopened = λ no_fault main is f un. stayed;
      kept = λ main is there settled prints. stayed;
      checked = λ _ bytes is. (stays.main.reads, stays.main.leaves);
      in_place = λ _ bytes reads. stays.main.publishes;
      absent = λ make. absurd (cc make);
      made = λ make. absurd (cc make);
      faults = record { rose = λ is. cause.rose (device_of fault is); stood = λ not. ⊎_elim (λ failed. absurd (not (note_of fault failed))) (λ same. same) cause.stood };
      built = opening_built fault;
      no_usage = opening_no_usage fault;
    }

  -- a file that opens is consistent
  pub counted_opens : (main : Image) (m : Map) → kind.opens main m → StatedResult asked main Done (codes "consistent\n")
  counted_opens main m opens =
      let there = laws.within main m opens in
      acted (at_rest m (kind.load_of there.0)) (inl (record { bytes = there.0; there = there.1; map = m; opens = opens; rests = refl })) refl refl

-- ---- a line is printed at once, or a prefix of it before the host failed

pub looks_printed : {E : Type 0} (note : Note) (slice line : List ℕ) (d e : DiskState) (o p : HostState) → slice ≡ line → (IsFault note → ⊥) → (note ≡ Memory → ⊥) → p.told ≡ told_with o.told slice → p.warned ≡ o.warned
    → MovesMark {T = Unit {0}} {E = E} o.told d e slice (Ok tt) → KeepsFiles d e → HasCause {T = Unit {0}} {E = E} d.faults e.faults (Ok tt) → Looks note line (moment d o) (moment e p) note
looks_printed {E = E} note slice line d e o p same no_fault no_memory told warned moves keeps cause =
    let printed = prints_done {E = E} line slice d e o p tt same told warned moves keeps cause in
    let all : printed.some.printed ≡ line = sym (append-nil printed.some.printed) ∙ ap (λ (l : List ℕ). printed.some.printed ++ l) printed.rest ∙ printed.some.whole ∙ append-nil line in
    let grew : Printed line (moment d o) (moment e p) = subst (λ (l : List ℕ). Printed l (moment d o) (moment e p)) all printed.some.grew in
    record {
      stated = inr (refl, grew);
      prints = record { printed = line; unprinted = []; whole = append-nil line; grew = grew };
      silent = λ memory. absurd (no_memory memory);
      disk = printed.disk;
      faults = record { rose = λ is. absurd (no_fault (subst IsFault (sym is) tt)); stood = λ _. cause.kept };
      device = λ device is. absurd (no_fault (subst IsFault (sym is) tt));
    }

pub looks_failed : {E : Type 0} {fault : E} (wanted : Note) (slice line : List ℕ) (d e : DiskState) (o p : HostState) → slice ≡ line → p.told ≡ told_with o.told (take (e.mark - d.mark) slice) → p.warned ≡ o.warned
    → MovesMark {T = Unit {0}} o.told d e slice (Err fault) → KeepsFiles d e → HasCause {T = Unit {0}} d.faults e.faults (Err fault) → Looks wanted line (moment d o) (moment e p) (DeviceFault Host)
looks_failed {fault = fault} wanted slice line d e o p same told warned moves keeps cause =
    let printed = prints_failed {T = Unit {0}} line slice d e o p fault same told warned moves keeps cause in
    record {
      stated = inl (inl tt);
      prints = record { printed = printed.some.printed; unprinted = printed.some.unprinted; whole = printed.some.whole ∙ append-nil line; grew = printed.some.grew };
      silent = λ memory. absurd (cc memory);
      disk = printed.disk;
      faults = record { rose = λ _. cause.failed; stood = λ not. absurd (not refl) };
      device = λ device is. cc is;
    }
