-- How a repack ends, and that its note is stated once.
use Rattle.std.proofs.Common.{◌≡◌, ◌⊎◌, inl, inr, ⊎_elim, ℕ, Bool, true, false, cond, List, [], Some, None, Result, Ok, Err, length, refl, sym, ◌∙◌, ap, subst}
use Rattle.std.specs.Prelude.{IsSome, nat_lt}
use Rattle.std.specs.Option.{option_or}
use Rattle.base_bytes.specs.OrderedMap.{Map}
use Rattle.base_devices.specs.Causes.{FaultHasCause}
use Rattle.base_devices.specs.CrashImages.{DiskState, GoesOn, Image, IsMoment, LeavesOnly, WhereRead}
use Rattle.base_devices.specs.Frames.{KeepsFile, MayLeaveLess}
use Rattle.base_devices.specs.Time.{goes_then}
use Rattle.base_devices.proofs.FrameLemmas.{file_of_less}
use Rattle.base_devices.proofs.Moments.{each_then, where_told}
use Rattle.base_notes.specs.declared.action.Action.TheVariants.{Repack}
use Rattle.base_notes.specs.declared.note.Device.TheVariants.{Host}
use Rattle.base_notes.specs.declared.note.Note.{Note}
use Rattle.base_notes.specs.declared.note.Note.TheVariants.{Done}
use Rattle.db_core.specs.Opening.{IsDeviceFault, IsOpenRefusal, OpensAs, OpensDisk, SameMap}
use Rattle.db_core.specs.Refusals.{IsDiskFault, size_refusal}
use Rattle.db_core.specs.Sessions.{DbKind, DbLaws, DbState, at_rest, over}
use Rattle.db_core.specs.declared.fault.DbFault.{DbFault}
use Rattle.db_core.specs.declared.fault.DbFault.TheVariants.{Broken, DiskFault, Full, KeyEmpty, KeyTooLong, NoMemory, ValueTooLong}
use Rattle.db_core.specs.declared.opening.OpenFault.{OpenFault}
use Rattle.db_core.specs.declared.opening.OpenFault.TheVariants.{Absent as NoFile, Damaged as Flawed, DiskFault as NoDisk, NoMemory as NoRoom, TooBig}
use Rattle.db_repack.specs.Repacking.{KeepsRepacked, MayRefuse, RepackKind, Repacks, RepacksOnce, repack_refusal}
use Rattle.db_tool.specs.Tasks.{given}
use Rattle.db_tool.specs.ToolNotes.{Faults, IsCutOff, IsFault, change_note, opening_note}
use Rattle.rand_core.specs.Stream.{Stream}
use Rattle.cyr_top.specs.Asked.{Asked, asking}
use Rattle.cyr_top.specs.Converting.{DoesNotOpen}
use Rattle.cyr_top.specs.Repacking.{AskedRepack, DoesRepack, HasFoundMap, StatedRepack, opened, repacked_note, repacking, unopened}
use Rattle.cyr_top.specs.Stated.{IsUnopened}
use Rattle.cyr_top.proofs.ActLemmas.{some_of}
use Rattle.cyr_top.proofs.ConvertLemmas.{host_faults, no_faults, opening_not_done}
use Rattle.cyr_top.proofs.StatedLemmas.{as_unopened, opening_built, opening_no_usage, opens_fails, refused_built, refused_no_usage, same_bytes, unopened_once}

-- ---- what is refused

-- A session that is not broken owes nothing but that the new file is too big.
owed_full : (b c : Bool) (size : ℕ) (fault : DbFault) → b ≡ false → option_or (cond b (Some Broken) None) (cond c (Some (Full size)) None) ≡ Some fault → (fault ≡ Full size) × (cond c (Some (Full size)) None ≡ Some fault)
owed_full false true size fault sound owed = (cc owed, owed)
owed_full false false size fault sound owed = absurd (cc owed)
owed_full true c size fault sound owed = absurd (cc sound)

owed_none : (b c : Bool) (size : ℕ) → b ≡ false → option_or (cond b (Some Broken) None) (cond c (Some (Full size)) None) ≡ None → cond c (Some (Full size)) None ≡ None
owed_none false c size sound owed = owed
owed_none true c size sound owed = absurd (cc sound)

-- so it is refused for one of three reasons
data IsRefusal (kind : DbKind) (size : ℕ) (fault : DbFault) : Type 0 where
  of_memory : fault ≡ NoMemory → IsRefusal kind size fault
  of_disk : fault ≡ DiskFault → IsRefusal kind size fault
  of_size : fault ≡ Full size → size_refusal kind size ≡ Some fault → IsRefusal kind size fault

owes : (kind : DbKind) (s : DbState) (size : ℕ) (fault : DbFault) → s.is_broken ≡ false → repack_refusal kind s size ≡ Some fault → IsRefusal kind size fault
owes kind s size fault sound owed = let is = owed_full s.is_broken (nat_lt kind.limit size) size fault sound owed in of_size is.0 is.1

refusal_of : (kind : DbKind) (s : DbState) (size : ℕ) (fault : DbFault) → s.is_broken ≡ false → MayRefuse kind s size fault → IsRefusal kind size fault
refusal_of kind s size NoMemory sound may = of_memory refl
refusal_of kind s size DiskFault sound may = of_disk refl
refusal_of kind s size Broken sound may = owes kind s size Broken sound may
refusal_of kind s size KeyEmpty sound may = owes kind s size KeyEmpty sound may
refusal_of kind s size (KeyTooLong n) sound may = owes kind s size (KeyTooLong n) sound may
refusal_of kind s size (ValueTooLong n) sound may = owes kind s size (ValueTooLong n) sound may
refusal_of kind s size (Full n) sound may = owes kind s size (Full n) sound may

change_not_done : (kind : DbKind) (size : ℕ) (fault : DbFault) → IsRefusal kind size fault → change_note Host fault ≡ Done → ⊥
change_not_done kind size fault (of_memory is) e = cc (ap (change_note Host) is, e)
change_not_done kind size fault (of_disk is) e = cc (ap (change_note Host) is, e)
change_not_done kind size fault (of_size is owed) e = cc (ap (change_note Host) is, e)

-- ---- a kind of file

module _ (repack : RepackKind) (laws : DbLaws repack.kind) (once : RepacksOnce repack) where
  abbrev kind : DbKind
  kind = repack.kind

  -- what an action is asked for that is given nothing
  abbrev no_words : Stream
  no_words = record { u32_after = λ calls. 0; u64_after = λ calls. 0; bytes_after = λ calls size. [] }

  abbrev plainly : Asked
  plainly = asking kind false Repack (given no_words [])

  plain_unopened : (main : Image) (fault : OpenFault) → DoesNotOpen kind main fault → IsUnopened plainly main fault
  plain_unopened main fault is = as_unopened plainly laws main fault (λ make. cc make) is

  pub never_both : (main : Image) (file : List ℕ) (m : Map) (fault : OpenFault) → main ≡ Some file → kind.opens main m → DoesNotOpen kind main fault → ⊥
  never_both main file m fault there opens un =
      opens_fails plainly laws main (at_rest m (kind.load_of file)) fault (record { bytes = file; there = there; map = m; opens = opens; rests = refl }) (plain_unopened main fault un)

  pub stated_once : (main : Image) (n m : Note) → StatedRepack repack main n → StatedRepack repack main m → n ≡ m
  stated_once main n m (opened file made a there opens is note) (opened other made_too b there_too opens_too is_too note_too) =
      let same : made ≡ made_too = once file made made_too is (subst (λ (f : List ℕ). repack.repacked f made_too) (same_bytes main other file there_too there) is_too) in
      note ∙ ap (λ (l : List ℕ). repacked_note (size_refusal kind (length l))) same ∙ sym note_too
  stated_once main n m (opened file made a there opens is note) (unopened fault un note_too) = absurd (never_both main file a fault there opens un)
  stated_once main n m (unopened fault un note) (opened file made a there opens is note_too) = absurd (never_both main file a fault there opens un)
  stated_once main n m (unopened fault un note) (unopened other un_too note_too) =
      note ∙ ap (λ (f : OpenFault). opening_note Host f) (unopened_once plainly laws main fault other (plain_unopened main fault un) (plain_unopened main other un_too)) ∙ sym note_too

  exactly_so : (main : Image) (note wanted : Note) → IsCutOff note ⊎ StatedRepack repack main note → StatedRepack repack main wanted → IsCutOff note ⊎ (note ≡ wanted)
  exactly_so main note wanted (inl cut) other = inl cut
  exactly_so main note wanted (inr met) other = inr (stated_once main note wanted met other)

  abbrev asked : AskedRepack
  asked = repacking repack false

  of_same : (d : DiskState) (c : Image) → SameMap kind d.reads c → HasFoundMap asked d c
  of_same d c same = record { main = same.main; read = same.is; map = same.map; opens = same.opens; same = same.same }

  -- ---- the file is not opened

  module _ {B : Type 0} (d e : DiskState) (fault : OpenFault) (refused : WhereRead d (λ main. IsOpenRefusal kind main fault)) (disk : OpensDisk {B = B} kind d e (Err fault)) where
    stated_by : (f : OpenFault) (main : Image) → IsOpenRefusal kind main f → IsCutOff (opening_note Host f) ⊎ StatedRepack repack main (opening_note Host f)
    stated_by NoFile main is = inr (unopened NoFile is refl)
    stated_by (TooBig size) main is = inr (unopened (TooBig size) is refl)
    stated_by (Flawed at check) main is = inr (unopened (Flawed at check) is refl)
    stated_by NoRoom main is = inl (inr refl)
    stated_by NoDisk main is = inl (inl tt)

    less : (f : OpenFault) → (IsFault (opening_note Host f) → ⊥) → IsDeviceFault f ⊎ MayLeaveLess d e → MayLeaveLess d e
    less NoDisk no_fault either = absurd (no_fault tt)
    less f no_fault either = ⊎_elim (λ failed. absurd failed) (λ less. less) either

    pub unopened_repacks : FaultHasCause {T = B} IsDeviceFault d.faults e.faults (Err fault) → DoesRepack asked d e (opening_note Host fault)
    unopened_repacks cause = record {
      rewritten = λ is. absurd (opening_not_done fault is);
      each = record { each = λ c n left. let pair = disk.each.each c n left in (pair.0, ⊎_elim inl (λ same. inr (of_same d c same)) pair.1) };
      mark = disk.mark;
      unopened = λ no_fault main is f un. file_of_less d e (less fault no_fault disk.unopened);
      kept = λ no_fault other bytes reads settled. file_of_less d e (less fault no_fault disk.unopened);
      stated = λ main is. stated_by fault main (refused main is);
      exactly = λ main is wanted met. exactly_so main (opening_note Host fault) wanted (stated_by fault main (refused main is)) met;
      made = λ make. absurd (cc make);
      faults = host_faults fault d.faults e.faults cause;
      built = opening_built fault;
      no_usage = opening_no_usage fault;
    }

  -- ---- it is opened, and repacked

  module _ {B : Type 0} (db : B) (state : B → DbState) (t : DbState) (d x e : DiskState) (made : List ℕ) (dx : GoesOn d x) (xe : GoesOn x e) (moment_x : IsMoment x) (moment_e : IsMoment e)
      (opens : OpensAs kind state d (Ok db)) (disk : OpensDisk {B = B} kind d x (Ok db)) (stood : x.faults ≡ d.faults) (keeps : KeepsRepacked repack d x) where
    abbrev s : DbState
    s = state db

    sound : s.is_broken ≡ false
    sound = let is = opens.rests in ap (λ (b : DbState). b.is_broken) is.rests

    -- the map of what was read
    found_map : (c : Image) → kind.opens c s.committed → IsSome d.reads → HasFoundMap asked d c
    found_map c same shows =
        let main = some_of d.reads shows in
        let met = opens.opened main.0 main.1 in
        record { main = main.0; read = main.1; map = met.map; opens = met.opens; same = subst (kind.opens c) (ap (λ (b : DbState). b.committed) met.rests) same }

    module _ {T : Type 0} (result : Result T DbFault) (does : Repacks repack made (over x s) (over e t) result) where
      leaves : LeavesOnly d e (λ c n. (n ≡ d.mark) × (d.leaves c ⊎ HasFoundMap asked d c))
      leaves = where_told d e _ (goes_then d x e moment_e dx xe) moment_e (λ shows. each_then d x e _ dx xe
          (record { each = λ c n left. let pair = disk.each.each c n left in (pair.0, ⊎_elim inl (λ same. inr (of_same d c same)) pair.1) })
          (record { each = λ c n left. let pair = (does.any_moment.each sound).each c n left in (pair.0 ∙ disk.mark, inr (found_map c pair.1 shows)) }))

      of_old : (main : Image) → d.reads ≡ Some main → (file : List ℕ) × (main ≡ Some file) × repack.repacked file made
      of_old main is = let met = opens.opened main is in (met.bytes, met.there, keeps made (does.repacked sound) met.bytes (is ∙ ap (λ (i : Image). Some i) met.there))

      stated_as : (note : Note) → note ≡ repacked_note (size_refusal kind (length made)) → (main : Image) → d.reads ≡ Some main → StatedRepack repack main note
      stated_as note is main reads =
          let met = opens.opened main reads in
          let old = of_old main reads in
          opened old.0 made met.map old.1 met.opens old.2 is

    pub done_repacks : {T : Type 0} (v : T) → Repacks repack made (over x s) (over e t) (Ok v) → DoesRepack asked d e Done
    done_repacks {T = T} v does =
        let note : Done ≡ repacked_note (size_refusal kind (length made)) = ap repacked_note (sym (owed_none s.is_broken (nat_lt kind.limit (length made)) (length made) sound does.allowed)) in
        let stated : (main : Image) → d.reads ≡ Some main → StatedRepack repack main Done = stated_as (Ok v) does Done note in
        record {
          rewritten = λ is. record {
            made = made;
            of_found = of_old (Ok v) does;
            reads = λ shows. does.replaces.reads (dx.telling.1 shows);
            durable = does.replaces.durable;
          };
          each = leaves (Ok v) does;
          mark = does.any_moment.mark ∙ disk.mark;
          unopened = λ no_fault main is f un. let old = of_old (Ok v) does main is in absurd (never_both main old.0 _ f old.1 (opens.opened main is).opens un);
          kept = λ no_fault other. absurd (other refl);
          stated = λ main is. inr (stated main is);
          exactly = λ main is wanted met. exactly_so main Done wanted (inr (stated main is)) met;
          made = λ make. absurd (cc make);
          faults = no_faults Host Done _ _ (λ is. cc is) (does.cause.kept ∙ stood);
          built = tt;
          no_usage = λ is. cc is;
        }

    stays : (fault : DbFault) → IsRefusal kind (length made) fault → (IsFault (change_note Host fault) → ⊥) → IsDiskFault fault ⊎ (e ≡ x) → e ≡ x
    stays fault refusal no_fault (inr same) = same
    stays DiskFault refusal no_fault (inl failed) = absurd (no_fault tt)
    stays fault refusal no_fault (inl failed) = absurd failed

    refused_faults : {T : Type 0} (fault : DbFault) → IsRefusal kind (length made) fault → FaultHasCause {T = T} IsDiskFault x.faults e.faults (Err fault) → Faults Host (change_note Host fault) x.faults e.faults
    refused_faults DiskFault refusal cause = record { rose = λ is. cause.rose tt; stood = λ other. absurd (other refl) }
    refused_faults Broken (of_memory is) cause = absurd (cc is)
    refused_faults Broken (of_disk is) cause = absurd (cc is)
    refused_faults Broken (of_size is owed) cause = absurd (cc is)
    refused_faults KeyEmpty refusal cause = record { rose = λ is. absurd (cc is); stood = λ other. ⊎_elim (λ failed. absurd failed) (λ same. same) cause.stood }
    refused_faults (KeyTooLong n) refusal cause = record { rose = λ is. absurd (cc is); stood = λ other. ⊎_elim (λ failed. absurd failed) (λ same. same) cause.stood }
    refused_faults (ValueTooLong n) refusal cause = record { rose = λ is. absurd (cc is); stood = λ other. ⊎_elim (λ failed. absurd failed) (λ same. same) cause.stood }
    refused_faults (Full n) refusal cause = record { rose = λ is. absurd (cc is); stood = λ other. ⊎_elim (λ failed. absurd failed) (λ same. same) cause.stood }
    refused_faults NoMemory refusal cause = record { rose = λ is. absurd (cc is); stood = λ other. ⊎_elim (λ failed. absurd failed) (λ same. same) cause.stood }

    refused_note : (fault : DbFault) → IsRefusal kind (length made) fault → IsCutOff (change_note Host fault) ⊎ (change_note Host fault ≡ repacked_note (size_refusal kind (length made)))
    refused_note fault (of_memory is) = inl (inr (ap (change_note Host) is))
    refused_note fault (of_disk is) = inl (inl (subst (λ (f : DbFault). IsFault (change_note Host f)) (sym is) tt))
    refused_note fault (of_size is owed) = inr (ap repacked_note (sym owed))

    pub refused_repacks : {T : Type 0} (fault : DbFault) → Repacks {T = T} repack made (over x s) (over e t) (Err fault) → IsDiskFault fault ⊎ (e ≡ x) → DoesRepack asked d e (change_note Host fault)
    refused_repacks {T = T} fault does left =
        let refusal = refusal_of kind s (length made) fault sound does.refused in
        let stated : (main : Image) → d.reads ≡ Some main → IsCutOff (change_note Host fault) ⊎ StatedRepack repack main (change_note Host fault) =
        λ main is. ⊎_elim inl (λ note. inr (stated_as {T = T} (Err fault) does (change_note Host fault) note main is)) (refused_note fault refusal) in
        record {
          rewritten = λ is. absurd (change_not_done kind (length made) fault refusal is);
          each = leaves {T = T} (Err fault) does;
          mark = does.any_moment.mark ∙ disk.mark;
          unopened = λ no_fault main is f un. let old = of_old {T = T} (Err fault) does main is in absurd (never_both main old.0 _ f old.1 (opens.opened main is).opens un);
          kept = λ no_fault other bytes reads settled.
              subst (λ (y : DiskState). KeepsFile d y) (sym (stays fault refusal no_fault left))
              (file_of_less d x (disk.settled (Some bytes) reads (λ b is. subst kind.is_settled (cc is) settled)));
          stated = stated;
          exactly = λ main is wanted met. exactly_so main (change_note Host fault) wanted (stated main is) met;
          made = λ make. absurd (cc make);
          faults = subst (λ (n : ℕ). Faults Host (change_note Host fault) n e.faults) stood (refused_faults {T = T} fault refusal does.cause);
          built = refused_built fault;
          no_usage = refused_no_usage fault;
        }
