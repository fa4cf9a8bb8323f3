-- How a conversion ends, and that its note is stated once.
use Rattle.std.proofs.Common.{◌≡◌, ◌≢◌, ◌⊎◌, inl, inr, ⊎_elim, ℕ, Bool, true, false, cond, List, [], ◌∷◌, All, Option, Some, None, Result, Ok, Err, length, refl, sym, ◌∙◌, ap, subst}
use Rattle.std.proofs.Math.Dec.{eqb-suc-zero}
use Rattle.std.proofs.lemmas.List.Elements.{All-head}
use Rattle.std.specs.Prelude.{IsSome, nat_lt, ◌==◌, if◌then◌else◌}
use Rattle.std.specs.Option.{option_or}
use Rattle.base_bytes.specs.OrderedMap.{IsDbMap, Map}
use Rattle.base_bytes.proofs.OrderedMaps.{rest_some}
use Rattle.base_bytes.specs.declared.limits.TheConstants.{KEY_LIMIT, VALUE_LIMIT}
use Rattle.base_devices.specs.Causes.{FaultHasCause, HasCause}
use Rattle.base_devices.specs.CrashImages.{DiskState, GoesOn, Image, IsMoment, LeavesOnly, WhereRead}
use Rattle.base_devices.specs.DiskCalls.{DiskCall, IsLength}
use Rattle.base_devices.specs.Frames.{KeepsMain, MayLeaveLess, SameDisk, StaysAs}
use Rattle.base_devices.specs.HostCalls.{HostState}
use Rattle.base_devices.proofs.FrameLemmas.{less_of_stays}
use Rattle.base_devices.proofs.Moments.{each_then, leaves_still, stays_call, stays_same}
use Rattle.base_notes.specs.declared.action.Action.TheVariants.{Consistent}
use Rattle.base_notes.specs.declared.action.Backend.{Backend}
use Rattle.base_notes.specs.declared.note.Device.{Device}
use Rattle.base_notes.specs.declared.note.Device.TheVariants.{Host, Second, Spool}
use Rattle.base_notes.specs.declared.note.Note.{Note}
use Rattle.base_notes.specs.declared.note.Note.TheVariants.{DeviceFault, Done, Exists, Memory}
use Rattle.db_core.specs.Opening.{IsDeviceFault, IsOpenRefusal, OpensAs, OpensDisk, OpensTo}
use Rattle.db_core.specs.Refusals.{IsDiskFault}
use Rattle.db_core.specs.Sessions.{DbKind, DbLaws, DbState}
use Rattle.db_core.specs.declared.fault.DbFault.{DbFault}
use Rattle.db_core.specs.declared.fault.DbFault.TheVariants.{Broken, DiskFault, Full, KeyEmpty, KeyTooLong, NoMemory, ValueTooLong}
use Rattle.db_core.specs.declared.opening.OpenFault.{OpenFault}
use Rattle.db_core.specs.declared.opening.OpenFault.TheVariants.{Absent as NoFile, Damaged as Flawed, DiskFault as NoDisk, NoMemory as NoRoom, TooBig}
use Rattle.db_fill.specs.Filling.{FillKind, Fills, MayRefuse, fill_refusal, pairs_refusal, with_words_to_come}
use Rattle.db_tool.specs.Tasks.{given}
use Rattle.db_tool.specs.ToolNotes.{Faults, IsCutOff, change_note, opening_note}
use Rattle.rand_core.specs.Stream.{Stream}
use Rattle.tool_words.specs.declared.jobs.Job.{Job}
use Rattle.tool_words.specs.declared.jobs.Job.TheVariants.{Convert}
use Rattle.cyr_top.specs.Asked.{Asked, asking, fill_of, kind_of}
use Rattle.cyr_top.specs.Converting.{AskedConversion, DoesConversion, DoesNotOpen, DrawsSome, IsConversionNote, IsMapOf, IsWhole, OnConversion, OnlyOpens, StatedConversion, converting, exists, filled, filled_note, unopened, with_both}
use Rattle.cyr_top.specs.Rebuilding.{IsRebuildNote}
use Rattle.cyr_top.specs.Stated.{IsBuilt, IsUnopened, SamePrints}
use Rattle.cyr_top.proofs.ActLemmas.{device_of, note_of}
use Rattle.cyr_top.proofs.JobLemmas.{laws_of}
use Rattle.cyr_top.proofs.StatedLemmas.{as_unopened, opens_fails, opens_once, unopened_once}

-- ---- notes

opening_notes : (fault : OpenFault) → IsConversionNote (opening_note Host fault)
opening_notes NoFile = tt
opening_notes (TooBig size) = tt
opening_notes NoRoom = tt
opening_notes NoDisk = tt
opening_notes (Flawed at flaw) = tt

pub opening_not_done : (fault : OpenFault) → opening_note Host fault ≡ Done → ⊥
opening_not_done NoFile e = cc e
opening_not_done (TooBig size) e = cc e
opening_not_done NoRoom e = cc e
opening_not_done NoDisk e = cc e
opening_not_done (Flawed at flaw) e = cc e

opening_not_second : (fault : OpenFault) → opening_note Host fault ≡ DeviceFault Second → ⊥
opening_not_second NoFile e = cc e
opening_not_second (TooBig size) e = cc e
opening_not_second NoRoom e = cc e
opening_not_second NoDisk e = cc e
opening_not_second (Flawed at flaw) e = cc e

change_not_done : (fault : DbFault) → change_note Second fault ≡ Done → ⊥
change_not_done Broken e = cc e
change_not_done KeyEmpty e = cc e
change_not_done (KeyTooLong n) e = cc e
change_not_done (ValueTooLong n) e = cc e
change_not_done (Full n) e = cc e
change_not_done NoMemory e = cc e
change_not_done DiskFault e = cc e

change_not_host : (fault : DbFault) → change_note Second fault ≡ DeviceFault Host → ⊥
change_not_host Broken e = cc e
change_not_host KeyEmpty e = cc e
change_not_host (KeyTooLong n) e = cc e
change_not_host (ValueTooLong n) e = cc e
change_not_host (Full n) e = cc e
change_not_host NoMemory e = cc e
change_not_host DiskFault e = cc e

-- ---- what is refused

-- the pairs of a database have keys, so that no other refusal than these is owed
abbrev IsFillRefusal : DbFault → Type 0
IsFillRefusal (KeyTooLong n) = Unit {0}
IsFillRefusal (ValueTooLong n) = Unit {0}
IsFillRefusal (Full n) = Unit {0}
IsFillRefusal fault = ⊥

abbrev within : Option DbFault → DbFault
within None = NoMemory
within (Some fault) = fault

key_is_some : (key : List ℕ) → key ≢ [] → (length key == 0) ≡ false
key_is_some [] some = absurd (some refl)
key_is_some (x ∷ xs) some = eqb-suc-zero (length xs)

longer_refusal : (b c : Bool) (key value : ℕ) (more rest : Option DbFault) (fault : DbFault)
    → option_or (option_or (cond b (Some (KeyTooLong key)) (cond c (Some (ValueTooLong value)) None)) more) rest ≡ Some fault → (option_or more rest ≡ Some fault → IsFillRefusal fault) → IsFillRefusal fault
longer_refusal true c key value more rest fault is later = subst IsFillRefusal (ap within is) tt
longer_refusal false true key value more rest fault is later = subst IsFillRefusal (ap within is) tt
longer_refusal false false key value more rest fault is later = later is

first_refusal : (a b c : Bool) (key value : ℕ) (more rest : Option DbFault) (fault : DbFault) → a ≡ false
    → option_or (option_or (cond a (Some KeyEmpty) (cond b (Some (KeyTooLong key)) (cond c (Some (ValueTooLong value)) None))) more) rest ≡ Some fault → (option_or more rest ≡ Some fault → IsFillRefusal fault) → IsFillRefusal fault
first_refusal a b c key value more rest fault keyed is later =
    longer_refusal b c key value more rest fault (subst (λ (x : Bool). option_or (option_or (cond x (Some KeyEmpty) (cond b (Some (KeyTooLong key)) (cond c (Some (ValueTooLong value)) None))) more) rest ≡ Some fault) keyed is) later

pair_refusals : (m : Map) (rest : Option DbFault) (fault : DbFault) → All (λ p. p.0 ≢ []) m → option_or (pairs_refusal m) rest ≡ Some fault → (rest ≡ Some fault → IsFillRefusal fault) → IsFillRefusal fault
pair_refusals [] rest fault keys is later = later is
pair_refusals (p ∷ m) rest fault keys is later =
    first_refusal (length p.0 == 0) (nat_lt KEY_LIMIT (length p.0)) (nat_lt VALUE_LIMIT (length p.1)) (length p.0) (length p.1) (pairs_refusal m) rest fault (key_is_some p.0 (All-head (λ q. q.0 ≢ []) p m keys)) is (λ further. pair_refusals m rest fault (rest_some p m keys) further later)

too_big : (b : Bool) (size : ℕ) (fault : DbFault) → (if b then Some (Full size) else None) ≡ Some fault → IsFillRefusal fault
too_big true size fault is = subst IsFillRefusal (ap within is) tt
too_big false size fault is = absurd (cc is)

fill_refusals : (kind : FillKind) (m : Map) (words : Stream) (fault : DbFault) → IsDbMap m → fill_refusal kind m words ≡ Some fault → IsFillRefusal fault
fill_refusals kind m words fault sound is = pair_refusals m _ fault sound.some is (too_big (nat_lt kind.limit (kind.size_of m words)) _ fault)

change_notes : (fault : DbFault) → IsFillRefusal fault → IsConversionNote (change_note Second fault)
change_notes Broken is = absurd is
change_notes KeyEmpty is = absurd is
change_notes (KeyTooLong n) is = tt
change_notes (ValueTooLong n) is = tt
change_notes (Full n) is = tt
change_notes NoMemory is = absurd is
change_notes DiskFault is = absurd is

refused_notes : (kind : FillKind) (m : Map) (words : Stream) (fault : DbFault) → IsDbMap m → MayRefuse kind m words fault → IsConversionNote (change_note Second fault)
refused_notes kind m words NoMemory sound may = tt
refused_notes kind m words DiskFault sound may = tt
refused_notes kind m words Broken sound may = change_notes Broken (fill_refusals kind m words Broken sound may)
refused_notes kind m words KeyEmpty sound may = change_notes KeyEmpty (fill_refusals kind m words KeyEmpty sound may)
refused_notes kind m words (KeyTooLong n) sound may = tt
refused_notes kind m words (ValueTooLong n) sound may = tt
refused_notes kind m words (Full n) sound may = tt

-- ---- faults of the devices

pub host_faults : {T : Type 0} (fault : OpenFault) (before now : ℕ) → FaultHasCause {T = T} IsDeviceFault before now (Err fault) → Faults Host (opening_note Host fault) before now
host_faults fault before now cause = record {
  rose = λ is. cause.rose (device_of fault is);
  stood = λ other. ⊎_elim (λ failed. absurd (other (note_of fault failed))) (λ same. same) cause.stood;
}

not_broken : (kind : FillKind) (m : Map) (words : Stream) (fault : DbFault) → IsDbMap m → MayRefuse kind m words fault → fault ≡ Broken → ⊥
not_broken kind m words fault sound may is = fill_refusals kind m words Broken sound (subst (MayRefuse kind m words) is may)

second_faults : {T : Type 0} (fault : DbFault) (before now : ℕ) → FaultHasCause {T = T} IsDiskFault before now (Err fault) → (fault ≡ Broken → ⊥) → Faults Second (change_note Second fault) before now
second_faults DiskFault before now cause sound = record { rose = λ is. cause.rose tt; stood = λ other. absurd (other refl) }
second_faults Broken before now cause sound = absurd (sound refl)
second_faults KeyEmpty before now cause sound = record { rose = λ is. absurd (cc is); stood = λ other. ⊎_elim (λ failed. absurd failed) (λ same. same) cause.stood }
second_faults (KeyTooLong n) before now cause sound = record { rose = λ is. absurd (cc is); stood = λ other. ⊎_elim (λ failed. absurd failed) (λ same. same) cause.stood }
second_faults (ValueTooLong n) before now cause sound = record { rose = λ is. absurd (cc is); stood = λ other. ⊎_elim (λ failed. absurd failed) (λ same. same) cause.stood }
second_faults (Full n) before now cause sound = record { rose = λ is. absurd (cc is); stood = λ other. ⊎_elim (λ failed. absurd failed) (λ same. same) cause.stood }
second_faults NoMemory before now cause sound = record { rose = λ is. absurd (cc is); stood = λ other. ⊎_elim (λ failed. absurd failed) (λ same. same) cause.stood }

failed_note : (fault : DbFault) → IsDiskFault fault → change_note Second fault ≡ DeviceFault Second
failed_note DiskFault is = refl
failed_note fault is = absurd is

-- a note that names no device
pub no_faults : (device : Device) (note : Note) (before now : ℕ) → (note ≡ DeviceFault device → ⊥) → now ≡ before → Faults device note before now
no_faults device note before now other same = record { rose = λ is. absurd (other is); stood = λ no. same }

-- ---- the old file

opens_none : (kind : DbKind) (d : DiskState) → IsMoment d → OnlyOpens kind d d
opens_none kind d moment =
    let stays = stays_same d moment in
    record {
      each = record { each = λ c n left. let pair = stays.each.each c n left in (pair.0, inl pair.1) };
      mark = refl;
      publishes = refl;
      settled = λ main is settled. less_of_stays d d stays refl;
    }

opens_of : {B : Type 0} (kind : DbKind) (d e : DiskState) (result : Result B OpenFault) → OpensDisk kind d e result → OnlyOpens kind d e
opens_of kind d e result disk = record { each = disk.each; mark = disk.mark; publishes = disk.publishes; settled = disk.settled }

-- ---- one conversion, of this kind into that

module _ (kind : DbKind) (laws : DbLaws kind) (fill : FillKind) (words : Stream) where
  abbrev asked : AskedConversion
  asked = converting kind fill

  abbrev plainly : Asked
  plainly = asking kind false Consistent (given words [])

  -- ---- the note is stated once

  plain_unopened : (main : Image) (fault : OpenFault) → DoesNotOpen kind main fault → IsUnopened plainly main fault
  plain_unopened main fault is = as_unopened plainly laws main fault (λ make. cc make) is

  stated_once : (from to : Image) (n m : Note) → StatedConversion asked words from to n → StatedConversion asked words from to m → n ≡ m
  stated_once from to n m (exists bytes there is) (exists other there_too is_too) = is ∙ sym is_too
  stated_once from to n m (exists bytes there is) (unopened fault none un is_too) = absurd (cc (there, none))
  stated_once from to n m (exists bytes there is) (filled s none opens is_too) = absurd (cc (there, none))
  stated_once from to n m (unopened fault none un is) (exists bytes there is_too) = absurd (cc (there, none))
  stated_once from to n m (unopened fault none un is) (unopened found none_too un_too is_too) =
      is ∙ ap (λ (f : OpenFault). opening_note Host f) (unopened_once plainly laws from fault found (plain_unopened from fault un) (plain_unopened from found un_too)) ∙ sym is_too
  stated_once from to n m (unopened fault none un is) (filled s none_too opens is_too) = absurd (opens_fails plainly laws from s fault opens (plain_unopened from fault un))
  stated_once from to n m (filled s none opens is) (exists bytes there is_too) = absurd (cc (there, none))
  stated_once from to n m (filled s none opens is) (unopened fault none_too un is_too) = absurd (opens_fails plainly laws from s fault opens (plain_unopened from fault un))
  stated_once from to n m (filled s none opens is) (filled t none_too opens_too is_too) =
      is ∙ ap (λ (x : DbState). filled_note (fill_refusal fill x.committed words)) (opens_once plainly laws from s t opens opens_too) ∙ sym is_too

  exactly_so : (from to : Image) (note wanted : Note) → IsCutOff note ⊎ StatedConversion asked words from to note → StatedConversion asked words from to wanted → IsCutOff note ⊎ (note ≡ wanted)
  exactly_so from to note wanted (inl cut) other = inl cut
  exactly_so from to note wanted (inr met) other = inr (stated_once from to note wanted met other)

  -- ---- the new file was not begun

  untouched : (d e s t : DiskState) (later : Stream) (note : Note) → (note ≡ Done → ⊥) → StaysAs s t → t.fresh ≡ s.fresh → OnlyOpens kind d e
      → WhereRead d (λ from. WhereRead s (λ to. IsCutOff note ⊎ StatedConversion asked words from to note))
      → (later ≡ words) ⊎ DrawsSome asked (with_both d s words) (with_both e t later)
      → Faults Host note d.faults e.faults → Faults Second note s.faults t.faults → IsConversionNote note → DoesConversion asked (with_both d s words) (with_both e t later) note
  untouched d e s t later note other stays fresh opens stated drawn from_faults to_faults notes = record {
    converted = λ is. absurd (other is);
    each = record { each = λ c n left. let pair = stays.each.each c n left in (pair.0, inl pair.1) };
    kept = inr (inr (stays, fresh));
    opens = opens;
    stated = stated;
    exactly = λ from is to is_to wanted met. exactly_so from to note wanted (stated from is to is_to) met;
    drawn = drawn;
    from_faults = from_faults;
    to_faults = to_faults;
    notes = notes;
  }

  bytes_of : (main : Image) (size : ℕ) → IsLength main (Some size) → (bytes : List ℕ) × (main ≡ Some bytes)
  bytes_of None size is = absurd (cc is)
  bytes_of (Some bytes) size is = (bytes, refl)

  absent_so : (main : Image) → IsLength main None → main ≡ None
  absent_so None is = refl
  absent_so (Some bytes) is = absurd (cc is)

  -- ---- its new file is there, or its length is not to be had

  pub exists_does : (d s t : DiskState) (size : ℕ) → IsMoment d → WhereRead s (λ main. IsLength main (Some size)) → KeepsMain s t → t.fresh ≡ s.fresh → DiskCall s t → t.faults ≡ s.faults
      → DoesConversion asked (with_both d s words) (with_both d t words) Exists
  exists_does d s t size moment length main fresh call same =
      untouched d d s t words Exists (λ is. cc is) (stays_call s t call main) fresh (opens_none kind d moment)
      (λ from is to is_to. let there = bytes_of to size (length to is_to) in inr (exists there.0 there.1 refl)) (inl refl)
      (no_faults Host Exists _ _ (λ is. cc is) refl) (no_faults Second Exists _ _ (λ is. cc is) same) tt

  pub length_fails : {T E : Type 0} {fault : E} (d s t : DiskState) → IsMoment d → KeepsMain s t → t.fresh ≡ s.fresh → DiskCall s t → HasCause {T = T} s.faults t.faults (Err fault)
      → DoesConversion asked (with_both d s words) (with_both d t words) (DeviceFault Second)
  length_fails d s t moment main fresh call cause =
      untouched d d s t words (DeviceFault Second) (λ is. cc is) (stays_call s t call main) fresh (opens_none kind d moment) (λ from is to is_to. inl (inl tt)) (inl refl)
      (no_faults Host (DeviceFault Second) _ _ (λ is. cc is) refl) (record { rose = λ is. cause.failed; stood = λ other. absurd (other refl) }) tt

  -- ---- the old file does not open

  module _ (d e s t : DiskState) (absent : WhereRead s (λ main. IsLength main None)) (main : KeepsMain s t) (fresh : t.fresh ≡ s.fresh) (call : DiskCall s t) (same : t.faults ≡ s.faults) where
    none_to : (to : Image) → s.reads ≡ Some to → to ≡ None
    none_to to is = absent_so to (absent to is)

    unopened_by : (fault : OpenFault) (from to : Image) → to ≡ None → IsOpenRefusal kind from fault → IsCutOff (opening_note Host fault) ⊎ StatedConversion asked words from to (opening_note Host fault)
    unopened_by NoFile from to none is = inr (unopened NoFile none is refl)
    unopened_by (TooBig size) from to none is = inr (unopened (TooBig size) none is refl)
    unopened_by (Flawed at check) from to none is = inr (unopened (Flawed at check) none is refl)
    unopened_by NoRoom from to none is = inl (inr refl)
    unopened_by NoDisk from to none is = inl (inl tt)

    pub unopened_converts : {B : Type 0} (fault : OpenFault) → WhereRead d (λ from. IsOpenRefusal kind from fault) → OpensDisk {B = B} kind d e (Err fault) → FaultHasCause {T = B} IsDeviceFault d.faults e.faults (Err fault)
        → DoesConversion asked (with_both d s words) (with_both e t words) (opening_note Host fault)
    unopened_converts fault refused disk cause =
        untouched d e s t words (opening_note Host fault) (opening_not_done fault) (stays_call s t call main) fresh (opens_of kind d e (Err fault) disk)
        (λ from is to is_to. unopened_by fault from to (none_to to is_to) (refused from is)) (inl refl)
        (host_faults fault d.faults e.faults cause) (no_faults Second (opening_note Host fault) _ _ (opening_not_second fault) same) (opening_notes fault)

    -- ---- it opens, and the new one is filled with its pairs

    module _ {B : Type 0} (u : DiskState) (later : Stream) (db : B) (state : B → DbState) (on : GoesOn s t) (on_too : GoesOn t u)
        (opens : OpensAs kind state d (Ok db)) (disk : OpensDisk {B = B} kind d e (Ok db)) (kept : e.faults ≡ d.faults) where
      abbrev map_of : Map
      map_of = (state db).seen

      sound : IsDbMap map_of
      sound = let is = opens.rests in subst IsDbMap (sym (ap (λ (x : DbState). x.seen) is.rests)) is.sound

      of_old : IsMapOf asked d map_of
      of_old = λ from is. let met = opens.opened from is in subst (λ (m : Map). kind.opens from m) (sym (ap (λ (x : DbState). x.seen) met.rests)) met.opens

      same_map : (from : Image) → OpensTo kind from (state db) → (state db).committed ≡ map_of
      same_map from met = ap (λ (x : DbState). x.committed) met.rests ∙ sym (ap (λ (x : DbState). x.seen) met.rests)

      stated_fill : (note : Note) → note ≡ filled_note (fill_refusal fill map_of words) → (from to : Image) → d.reads ≡ Some from → to ≡ None → StatedConversion asked words from to note
      stated_fill note is from to reads none =
          let met = opens.opened from reads in
          filled (state db) none met (is ∙ ap (λ (m : Map). filled_note (fill_refusal fill m words)) (sym (same_map from met)))

      whole_leaves : (result : Result ℕ DbFault) → Fills fill map_of (with_words_to_come t words) (with_words_to_come u later) result → LeavesOnly s u (λ c n. (n ≡ s.mark) × (s.leaves c ⊎ IsWhole asked (with_both d s words) c))
      whole_leaves result fills =
          let stays = stays_call s t call main in
          each_then s t u _ on on_too
          (record { each = λ c n left. let pair = stays.each.each c n left in (pair.0, inl pair.1) })
          (record {
            each = λ c n left.
                let pair = fills.any_moment.each.each c n left in
                (pair.0 ∙ stays.mark, ⊎_elim (λ was. inl (main.leaves.no_more c was)) (λ whole. inr (record { map = map_of; of_old = of_old; whole = whole })) pair.1);
          })

      pub filled_converts : (count : ℕ) → Fills fill map_of (with_words_to_come t words) (with_words_to_come u later) (Ok count) → DoesConversion asked (with_both d s words) (with_both e u later) Done
      filled_converts count fills =
          let stated : WhereRead d (λ from. WhereRead s (λ to. IsCutOff Done ⊎ StatedConversion asked words from to Done)) =
          λ from is to is_to. inr (stated_fill Done (ap filled_note (sym fills.allowed)) from to is (none_to to is_to)) in
          record {
            converted = λ is. record {
              map = map_of;
              of_old = of_old;
              reads = λ shown. fills.replaces.reads (subst IsSome (sym main.reads) shown);
              durable = fills.replaces.durable;
              words = fills.all_drawn;
            };
            each = whole_leaves (Ok count) fills;
            kept = inl refl;
            opens = opens_of kind d e (Ok db) disk;
            stated = stated;
            exactly = λ from is to is_to wanted met. exactly_so from to Done wanted (stated from is to is_to) met;
            drawn = inr (record { map = map_of; of_old = of_old; draws = fills.drawn });
            from_faults = no_faults Host Done _ _ (λ is. cc is) kept;
            to_faults = no_faults Second Done _ _ (λ is. cc is) (fills.cause.kept ∙ same);
            notes = tt;
          }

      owed_note : (fault : DbFault) → MayRefuse fill map_of words fault → IsCutOff (change_note Second fault) ⊎ (change_note Second fault ≡ filled_note (fill_refusal fill map_of words))
      owed_note NoMemory may = inl (inr refl)
      owed_note DiskFault may = inl (inl tt)
      owed_note Broken may = inl (inl tt)
      owed_note KeyEmpty may = inr (ap filled_note (sym may))
      owed_note (KeyTooLong n) may = inr (ap filled_note (sym may))
      owed_note (ValueTooLong n) may = inr (ap filled_note (sym may))
      owed_note (Full n) may = inr (ap filled_note (sym may))

      pub refused_converts : (fault : DbFault) → Fills fill map_of (with_words_to_come t words) (with_words_to_come u later) (Err fault) → IsDiskFault fault ⊎ (u ≡ t)
          → DoesConversion asked (with_both d s words) (with_both e u later) (change_note Second fault)
      refused_converts fault fills left =
          let stated : WhereRead d (λ from. WhereRead s (λ to. IsCutOff (change_note Second fault) ⊎ StatedConversion asked words from to (change_note Second fault))) =
          λ from is to is_to. ⊎_elim inl (λ owed. inr (stated_fill (change_note Second fault) owed from to is (none_to to is_to))) (owed_note fault fills.refused) in
          record {
            converted = λ is. absurd (change_not_done fault is);
            each = whole_leaves (Err fault) fills;
            kept = inr (⊎_elim (λ failed. inl (failed_note fault failed)) (λ still. inr (subst (λ (x : DiskState). StaysAs s x × (x.fresh ≡ s.fresh)) (sym still) (stays_call s t call main, fresh))) left);
            opens = opens_of kind d e (Ok db) disk;
            stated = stated;
            exactly = λ from is to is_to wanted met. exactly_so from to (change_note Second fault) wanted (stated from is to is_to) met;
            drawn = inr (record { map = map_of; of_old = of_old; draws = fills.drawn });
            from_faults = no_faults Host (change_note Second fault) _ _ (change_not_host fault) kept;
            to_faults = subst (λ (n : ℕ). Faults Second (change_note Second fault) n u.faults) same (second_faults fault t.faults u.faults fills.cause (not_broken fill map_of words fault sound fills.refused));
            notes = refused_notes fill map_of words fault sound fills.refused;
          }

-- ---- once the note was printed to standard error

less_still : (d x e : DiskState) → SameDisk x e → MayLeaveLess d x → MayLeaveLess d e
less_still d x e same less = record {
  leaves = λ c left. less.leaves c (same.leaves.no_more c left);
  each = leaves_still d x e _ same less.each;
  mark = same.mark ∙ less.mark;
  fresh = same.fresh ∙ less.fresh;
  written = same.written ∙ less.written;
  publishes = same.publishes ∙ less.publishes;
}

opens_still : (kind : DbKind) (d x e : DiskState) → SameDisk x e → OnlyOpens kind d x → OnlyOpens kind d e
opens_still kind d x e same opens = record {
  each = leaves_still d x e _ same opens.each;
  mark = same.mark ∙ opens.mark;
  publishes = same.publishes ∙ opens.publishes;
  settled = λ main is settled. less_still d x e same (opens.settled main is settled);
}

pub converts_still : (asked : AskedConversion) (d x e s t : DiskState) (words later : Stream) (note : Note) → SameDisk x e → DoesConversion asked (with_both d s words) (with_both x t later) note → DoesConversion asked (with_both d s words) (with_both e t later) note
converts_still asked d x e s t words later note same does = record {
  converted = λ done. let is = does.converted done in record { map = is.map; of_old = is.of_old; reads = is.reads; durable = is.durable; words = is.words };
  each = does.each;
  kept = does.kept;
  opens = opens_still asked.from d x e same does.opens;
  stated = does.stated;
  exactly = does.exactly;
  drawn = ⊎_elim inl (λ some. inr (record { map = some.map; of_old = some.of_old; draws = some.draws })) does.drawn;
  from_faults = subst (λ (n : ℕ). Faults Host note d.faults n) (sym same.faults) does.from_faults;
  to_faults = does.to_faults;
  notes = does.notes;
}

pub same_prints : (o p q : HostState) → p ≡ o → q.told ≡ p.told → q.tell_faults ≡ p.tell_faults → SamePrints o q
same_prints o p q same told faults = record {
  told = told ∙ ap (λ (s : HostState). s.told) same;
  tell_faults = faults ∙ ap (λ (s : HostState). s.tell_faults) same;
}

-- ---- jobs

-- memory ran out before anything was done
pub nothing_converted : (from to : Backend) (d s : DiskState) (words : Stream) → IsMoment d → IsMoment s → DoesConversion (converting (kind_of from) (fill_of to)) (with_both d s words) (with_both d s words) Memory
nothing_converted from to d s words moment moment_too =
    untouched (kind_of from) (laws_of from) (fill_of to) words d d s s words Memory (λ is. cc is) (stays_same s moment_too) refl (opens_none (kind_of from) d moment)
    (λ main is other is_too. inl (inr refl)) (inl refl) (no_faults Host Memory _ _ (λ is. cc is) refl) (no_faults Second Memory _ _ (λ is. cc is) refl) tt

pub on_conversion : (P Q : AskedConversion → Type 0) → ((asked : AskedConversion) → P asked → Q asked) → (job : Job) → OnConversion P job → OnConversion Q job
on_conversion P Q follows (Convert from from_kind to to_kind) met = follows (converting (kind_of from_kind) (fill_of to_kind)) met
on_conversion P Q follows job met = tt

pub on_each_conversion : (P : AskedConversion → Type 0) → ((from to : Backend) → P (converting (kind_of from) (fill_of to))) → (job : Job) → OnConversion P job
on_each_conversion P all (Convert from from_kind to to_kind) = all from_kind to_kind
on_each_conversion P all job = tt

-- a conversion never ends with a fault of the spool, and no other job with one of the second device
pub spool_stands : (note : Note) (n : ℕ) → IsConversionNote note → Faults Spool note n n
spool_stands note n is = record { rose = λ named. absurd (subst IsConversionNote named is); stood = λ other. refl }

pub second_stands : (note : Note) (n : ℕ) → IsBuilt note → Faults Second note n n
second_stands note n is = record { rose = λ named. absurd (subst IsBuilt named is); stood = λ other. refl }

pub second_unnamed : (note : Note) (n : ℕ) → IsRebuildNote note → Faults Second note n n
second_unnamed note n is = record { rose = λ named. absurd (subst IsRebuildNote named is); stood = λ other. refl }
