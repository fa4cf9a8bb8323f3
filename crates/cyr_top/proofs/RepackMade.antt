-- A repack of a file that is made first, and what its stops and its end leave.
use Rattle.std.proofs.Common.{◌≡◌, ◌⊎◌, inl, inr, ⊎_elim, ℕ, ◌-◌, Bool, true, false, List, [], Some, None, Ok, Err, refl, sym, ◌∙◌, ap, subst, arith}
use Rattle.std.specs.Prelude.{IsSome}
use Rattle.base_devices.specs.Causes.{HasCause}
use Rattle.base_devices.specs.CrashImages.{DiskState, GoesOn, Image, IsAbsent, IsMoment, Reads, Shows}
use Rattle.base_devices.specs.Frames.{KeepsFile, SameDisk}
use Rattle.base_devices.specs.Time.{goes_then}
use Rattle.base_devices.proofs.FrameLemmas.{file_of_stays, file_still, file_then}
use Rattle.base_devices.proofs.Moments.{each_then, leaves_still, stays_same, where_told}
use Rattle.base_notes.specs.declared.action.Action.TheVariants.{Repack}
use Rattle.base_notes.specs.declared.note.Device.TheVariants.{Host}
use Rattle.base_notes.specs.declared.note.Note.{Note}
use Rattle.base_notes.specs.declared.note.Note.TheVariants.{DeviceFault, Memory}
use Rattle.db_core.specs.Sessions.{DbKind, DbLaws, DbState}
use Rattle.db_core.specs.declared.opening.OpenFault.{OpenFault}
use Rattle.db_repack.specs.Repacking.{RepackKind, RepacksOnce}
use Rattle.db_tool.specs.Tasks.{Given, KeepsPrefix}
use Rattle.db_tool.specs.ToolNotes.{Faults, IsFault}
use Rattle.cyr_top.specs.Actions.{IsMade}
use Rattle.cyr_top.specs.Asked.{Asked, asking, task_for}
use Rattle.cyr_top.specs.Converting.{DoesNotOpen}
use Rattle.cyr_top.specs.Crashes.{IsNotMade, LeavesAtEnd, LeavesPrefixes, StartsAt, opened as opens_now, to_make}
use Rattle.cyr_top.specs.Repacking.{AskedRepack, DoesRepack, HasFoundMap, found, or_empty, repacking}
use Rattle.cyr_top.proofs.ActLemmas.{left_at_end, some_of}
use Rattle.cyr_top.proofs.ConvertLemmas.{no_faults}
use Rattle.cyr_top.proofs.RepackLemmas.{never_both}

-- ---- an absent file is made first

module _ (repack : RepackKind) (laws : DbLaws repack.kind) (once : RepacksOnce repack) where
  abbrev kind : DbKind
  kind = repack.kind

  abbrev asked : AskedRepack
  asked = repacking repack true

  -- the file that was made has the map that was found
  has_empty : (d : DiskState) (c : Image) → IsAbsent d → c ≡ Some kind.empty → HasFoundMap asked d c
  has_empty d c absent is = record { main = None; read = absent; map = []; opens = laws.fresh; same = subst (λ (i : Image). kind.opens i []) (sym is) laws.fresh }

  either : (d : DiskState) (c : Image) → d.leaves c ⊎ (IsAbsent d × (c ≡ Some kind.empty)) → d.leaves c ⊎ HasFoundMap asked d c
  either d c left = ⊎_elim inl (λ new. inr (has_empty d c new.0 new.1)) left

  pub not_made : {T E : Type 0} (fault : E) (d x : DiskState) → IsMade {T = T} kind d x (Err fault) → HasCause {T = T} d.faults x.faults (Err fault) → DoesRepack asked d x (DeviceFault Host)
  not_made fault d x made cause = record {
    rewritten = λ is. absurd (cc is);
    each = record { each = λ c n left. let pair = made.each.each c n left in (pair.0, either d c pair.1) };
    mark = made.mark;
    unopened = λ no_fault. absurd (no_fault tt);
    kept = λ no_fault. absurd (no_fault tt);
    stated = λ main is. inl (inl tt);
    exactly = λ main is wanted met. inl (inl tt);
    made = λ make none. inl (inl tt);
    faults = record { rose = λ _. cause.failed; stood = λ other. absurd (other refl) };
    built = tt;
    no_usage = λ is. cc is;
  }

  module _ {T E : Type 0} (v : T) (d x e : DiskState) (note : Note) (dx : GoesOn d x) (xe : GoesOn x e) (moment_x : IsMoment x) (moment_e : IsMoment e)
      (made : IsMade {E = E} kind d x (Ok v)) (cause : HasCause {E = E} d.faults x.faults (Ok v)) (does : DoesRepack (repacking repack false) x e note) where
    reads_made : (main : Image) → d.reads ≡ Some main → x.reads ≡ Some (or_empty kind.empty main)
    reads_made None is = (made.empty is).0
    reads_made (Some bytes) is = (made.there bytes is).0.main.reads ∙ is

    -- what could be left of it once it was made
    left_made : (c : Image) → x.leaves c → d.leaves c ⊎ HasFoundMap asked d c
    left_made c left = either d c (made.each.each c x.mark (left_at_end d x c dx moment_x left)).1

    has_found : (c : Image) → IsSome d.reads → HasFoundMap (repacking repack false) x c → HasFoundMap asked d c
    has_found c shows has =
        let main = some_of d.reads shows in
        let same : has.main ≡ or_empty kind.empty main.0 = cc (has.read, reads_made main.0 main.1) in
        record { main = main.0; read = main.1; map = has.map; opens = subst (λ (i : Image). kind.opens i has.map) same has.opens; same = has.same }

    file_there : (bytes : List ℕ) → Reads d bytes → KeepsFile x e → KeepsFile d e
    file_there bytes is keeps =
        let stays = made.there bytes is in
        file_then d x e dx xe (omega (arith, made.mark)) (omega (arith, does.mark)) stays.0.main.leaves.no_more (file_of_stays d x stays.1 stays.0) keeps

    unopened_there : (IsFault note → ⊥) → (main : Image) → d.reads ≡ Some main → (f : OpenFault) → DoesNotOpen kind (or_empty kind.empty main) f → KeepsFile d e
    unopened_there no_fault None is f un = absurd (never_both repack laws once (Some kind.empty) kind.empty [] f refl laws.fresh un)
    unopened_there no_fault (Some bytes) is f un = file_there bytes is (does.unopened no_fault (Some bytes) (reads_made (Some bytes) is) f un)

    is_there : IsAbsent d → x.leaves None ⊎ HasFoundMap (repacking repack false) x None → ⊥
    is_there none (inl left) = let empty = made.empty none in cc (empty.0, empty.1.only None left)
    is_there none (inr has) = cc (laws.within None has.map has.same).1

    pub made_repacks : DoesRepack asked d e note
    made_repacks = record {
      rewritten = λ is. let new = does.rewritten is in record {
        made = new.made;
        of_found = λ main is. new.of_found (or_empty kind.empty main) (reads_made main is);
        reads = λ shows. new.reads (dx.telling.1 shows);
        durable = new.durable;
      };
      each = where_told d e _ (goes_then d x e moment_e dx xe) moment_e (λ shows. each_then d x e _ dx xe
          (record { each = λ c n left. let pair = made.each.each c n left in (pair.0, either d c pair.1) })
          (record { each = λ c n left. let pair = does.each.each c n left in (pair.0 ∙ made.mark, ⊎_elim (left_made c) (λ has. inr (has_found c shows has)) pair.1) }));
      mark = does.mark ∙ made.mark;
      unopened = unopened_there;
      kept = λ no_fault other bytes reads settled. file_there bytes reads (does.kept no_fault other bytes (reads_made (Some bytes) reads) settled);
      stated = λ main is. does.stated (or_empty kind.empty main) (reads_made main is);
      exactly = λ main is wanted met. does.exactly (or_empty kind.empty main) (reads_made main is) wanted met;
      made = λ make none. inr (λ left. is_there none (does.each.each None e.mark (left_at_end x e None xe moment_e left)).1);
      faults = subst (λ (n : ℕ). Faults Host note n e.faults) cause.kept does.faults;
      built = does.built;
      no_usage = does.no_usage;
    }

-- ---- what its stops and its end leave, in words of maps

found_there : (make : Bool) (empty : List ℕ) (main : Image) (bytes : List ℕ) → main ≡ Some bytes → found make empty main ≡ main
found_there false empty main bytes is = refl
found_there true empty None bytes is = absurd (cc is)
found_there true empty (Some file) bytes is = refl

module _ (repack : RepackKind) (laws : DbLaws repack.kind) (make : Bool) (g : Given) (d e : DiskState) (note : Note) (de : GoesOn d e) (moment_d : IsMoment d) (moment_e : IsMoment e) (does : DoesRepack (repacking repack make) d e note) where
  abbrev as_asked : Asked
  as_asked = asking repack.kind make Repack g

  -- the map that was found is that from which the run starts
  map_is : (s : DbState) (c : Image) → StartsAt as_asked d s → HasFoundMap (repacking repack make) d c → repack.kind.opens c s.committed
  map_is s c (opens_now each from) has =
      let met = from has.main has.read in
      let opens : repack.kind.opens has.main has.map = subst (λ (i : Image). repack.kind.opens i has.map) (found_there make repack.kind.empty has.main met.bytes met.there) has.opens in
      subst (repack.kind.opens c) (laws.once has.main has.map met.map opens met.opens ∙ sym (ap (λ (b : DbState). b.committed) met.rests)) has.same
  map_is s c (to_make makes absent is) has =
      let none : has.main ≡ None = absent has.main (moment_d.reads_left has.main has.read) in
      let empty : found make repack.kind.empty has.main ≡ Some repack.kind.empty = (λ i. found (makes i) repack.kind.empty (none i)) in
      let opens : repack.kind.opens (Some repack.kind.empty) has.map = subst (λ (i : Image). repack.kind.opens i has.map) empty has.opens in
      subst (repack.kind.opens c) (laws.once (Some repack.kind.empty) has.map [] opens laws.fresh ∙ sym (ap (λ (b : DbState). b.committed) is)) has.same

  holds : (s : DbState) (k : ℕ) (c : Image) → repack.kind.opens c s.committed → KeepsPrefix repack.kind (task_for as_asked s) s.committed k c
  holds s k c opens = record { count = 0; within = omega arith; acknowledged = omega arith; holds = opens }

  before : (s : DbState) (c : Image) (n : ℕ) → n ≡ d.mark → StartsAt as_asked d s → d.leaves c → KeepsPrefix repack.kind (task_for as_asked s) s.committed (n - d.mark) c ⊎ IsNotMade as_asked (n - d.mark) c
  before s c n is (opens_now each from) left = inl (holds s (n - d.mark) c (each.each c left))
  before s c n is (to_make makes absent empty) left = inr (record { make = makes; absent = absent c left; silent = omega (arith, is) })

  pub repack_crash : (s : DbState) → StartsAt as_asked d s → LeavesPrefixes as_asked s d e
  repack_crash s starts = record {
    each = λ c n left.
        let pair = does.each.each c n left in
        ⊎_elim (λ was. before s c n pair.0 starts was) (λ has. inl (holds s (n - d.mark) c (map_is s c starts has))) pair.1;
  }

  start_left : (s : DbState) (c : Image) → Shows d → (IsFault note → ⊥) → StartsAt as_asked d s → e.leaves c → d.leaves c → repack.kind.opens c s.committed ⊎ ((make ≡ true) × (c ≡ None) × (note ≡ Memory))
  start_left s c shows no_fault (opens_now each from) left was = inl (each.each c was)
  start_left s c shows no_fault (to_make makes absent empty) left was =
      let none = absent c was in
      let read = some_of d.reads shows in
      let unread : IsAbsent d = read.1 ∙ ap (λ (i : Image). Some i) (absent read.0 (moment_d.reads_left read.0 read.1)) in
      ⊎_elim (λ cut. inr (makes, none, ⊎_elim (λ failed. absurd (no_fault failed)) (λ memory. memory) cut)) (λ there. absurd (there (subst e.leaves none left))) (does.made makes unread)

  pub repack_end : (s : DbState) → Shows d → (IsFault note → ⊥) → StartsAt as_asked d s → LeavesAtEnd as_asked s d e note
  repack_end s shows no_fault starts = record {
    count = 0;
    within = omega arith;
    whole = λ _. refl;
    memory = λ is. (omega (arith, does.mark), refl);
    each = λ c left. ⊎_elim (λ was. start_left s c shows no_fault starts left was) (λ has. inl (map_is s c starts has)) (does.each.each c e.mark (left_at_end d e c de moment_e left)).1;
  }

-- ---- memory ran out before anything was done, and a call that changes nothing of the disk follows

pub nothing_repacked : (asked : AskedRepack) (d : DiskState) → IsMoment d → DoesRepack asked d d Memory
nothing_repacked asked d moment =
    let stays = stays_same d moment in
    record {
      rewritten = λ is. absurd (cc is);
      each = record { each = λ c n left. let pair = stays.each.each c n left in (pair.0, inl pair.1) };
      mark = refl;
      unopened = λ no_fault main is f un. file_of_stays d d refl stays;
      kept = λ no_fault other bytes reads settled. file_of_stays d d refl stays;
      stated = λ main is. inl (inr refl);
      exactly = λ main is wanted met. inl (inr refl);
      made = λ make none. inl (inr refl);
      faults = no_faults Host Memory _ _ (λ is. cc is) refl;
      built = tt;
      no_usage = λ is. cc is;
    }

pub repack_still : (asked : AskedRepack) (d x e : DiskState) (note : Note) → SameDisk x e → DoesRepack asked d x note → DoesRepack asked d e note
repack_still asked d x e note same does = record {
  rewritten = λ is. let new = does.rewritten is in record {
    made = new.made;
    of_found = new.of_found;
    reads = λ shows. same.reads ∙ new.reads shows;
    durable = record { only = λ c left. same.reads ∙ new.durable.only c (same.leaves.no_more c left) };
  };
  each = leaves_still d x e _ same does.each;
  mark = same.mark ∙ does.mark;
  unopened = λ no_fault main is f un. file_still d x e same (does.unopened no_fault main is f un);
  kept = λ no_fault other bytes reads settled. file_still d x e same (does.kept no_fault other bytes reads settled);
  stated = does.stated;
  exactly = does.exactly;
  made = λ make none. ⊎_elim inl (λ there. inr (λ left. there (same.leaves.no_more None left))) (does.made make none);
  faults = subst (λ (n : ℕ). Faults Host note d.faults n) (sym same.faults) does.faults;
  built = does.built;
  no_usage = does.no_usage;
}
