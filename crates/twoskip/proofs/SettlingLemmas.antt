-- A file that was read, before it is settled and after, and the disk of its opening.
use Rattle.std.proofs.Common.{◌≡◌, ⊎_elim, inl, inr, ℕ, ◌*◌, ◌/◌, ◌≤◌, ◌%◌, Bool, true, false, List, Option, Some, None, Result, Ok, Err, length, refl, sym, ap, ◌∙◌, subst, arith}
use Rattle.std.proofs.lemmas.Bool.{eq-eqb}
use Rattle.std.proofs.lemmas.Result.{IfErr-weaker}
use Rattle.std.specs.Prelude.{IfErr, OnOk, IsSome}
use Rattle.base_bytes.specs.Fields.{AreBytes}
use Rattle.base_bytes.specs.OrderedMap.{Map}
use Rattle.base_bytes.specs.declared.limits.TheConstants.{SKIP_LIMIT}
use Rattle.base_devices.specs.CrashImages as devices
use Rattle.base_devices.specs.CrashImages.{Image, DiskState, GoesOn, IsDurable, IsMoment, LeavesOnly, Shows, WhereRead}
use Rattle.base_devices.specs.DiskCalls.{DiskCall, Syncs}
use Rattle.base_devices.specs.Frames.{MayLeaveLess, StaysAs}
use Rattle.base_devices.specs.Time.{goes_same, goes_then}
use Rattle.base_devices.proofs.Moments.{each_then, leaves_told, stays_same, where_told}
use Rattle.base_devices.proofs.FrameLemmas.{durable_stays, less_of_stays, less_of_sync, less_then}
use Rattle.db_core.specs.Opening.{IsDamage, IsDeviceFault, OpensAs, OpensDisk, SameMap}
use Rattle.db_core.specs.Sessions.{at_rest}
use Rattle.db_core.specs.declared.opening.OpenFault.{OpenFault}
use Rattle.db_core.specs.declared.opening.OpenFault.TheVariants.{Absent, TooBig, NoMemory, DiskFault, Damaged}
use Rattle.db_repack.specs.Repacking.{KeepsRepacked}
use Rattle.skip_form.specs.declared.header.Header.{Header}
use Rattle.skip_form.specs.Flaws.{header_in}
use Rattle.skip_form.proofs.HeaderLemmas.{header_flaw-header_bytes}
use Rattle.skip_spec.specs.Chain.{Entry, pairs}
use Rattle.skip_spec.specs.Change.{heads_of}
use Rattle.skip_spec.specs.FirstFlaw.{end_of, is_dirty}
use Rattle.skip_spec.specs.Layout.{Repacked, fresh_layout, items_of, next_generation}
use Rattle.skip_spec.specs.Live.{live_under}
use Rattle.skip_spec.specs.Opens.{Contents, Opens, Reads, Tidy, IsDirty}
use Rattle.skip_spec.specs.Recovery.{recovered, Recovers}
use Rattle.skip_spec.specs.Rows.{IsAmong}
use Rattle.skip_spec.proofs.Lives.{file_lives}
use Rattle.skip_spec.proofs.Meanings.{opens_one}
use Rattle.skip_spec.proofs.Unique.{reads_same as one_reading}
use Rattle.skip_lists.specs.Tie.{Recoverable, LeavesMap, OnBytes}
use Rattle.skip_image.specs.Verifying.{IsVerified}
use Rattle.skip_recover.specs.Places.{RepairsInPlace}
use Rattle.skip_kind.specs.Kind.{skip_kind}
use Rattle.skip_kind.proofs.KindLaws.{opens_sound}
use Rattle.skip_txn.specs.Sessions.{SkipSession, resting, session_state, Tied}
use Rattle.twoskip.specs.Opening.{IsRead, IsSettled, SettlesDisk, WhereSettled}
use Rattle.twoskip.specs.Repacking.{skip_repack}
use Rattle.twoskip.proofs.OpeningLemmas.{verified_opens}

-- ---- a tidy file that a crash leaves alone

-- the live records under its end are those that it says
pub tidy_lives : (file : List ℕ) (says : Contents) → Reads file says → Tidy file says → live_under file (length file) ≡ says.chain
tidy_lives file says reads tidy = ap (live_under file) tidy.ends ∙ file_lives file says reads

pub tidy_state : (file : List ℕ) (says : Contents) → Reads file says → Tidy file says → session_state (resting file) ≡ at_rest (pairs says.chain) says.header.current_size
tidy_state file says reads tidy = λ i. at_rest (ap pairs (tidy_lives file says reads tidy) i) (tidy.ends i)

-- what is read is all that is left, where that is so durably
pub left_alone : (s : DiskState) (file : List ℕ) → IsMoment s → IsDurable s → (Shows s → devices.Reads s file) → (c : Image) → s.leaves c → c ≡ Some file
left_alone s file moment durable reads = leaves_told s s (Some file) (goes_same s) moment durable reads

pub tidy_tied : (file : List ℕ) (says : Contents) (s : DiskState) → Reads file says → Tidy file says → length file ≤ SKIP_LIMIT → IsMoment s → IsDurable s → (Shows s → devices.Reads s file) → Tied (resting file) s
tidy_tied file says s reads tidy within moment durable read = record {
  base = file;
  says = says;
  ends = sym tidy.ends;
  tied = record {
    committed = reads;
    tidy = tidy;
    own = refl;
    known = λ at among below. subst (λ (es : List Entry). IsAmong (heads_of es) at) (tidy_lives file says reads tidy) among;
    reads = read;
    left = λ c left. (file, left_alone s file moment durable read c left, (refl, omega arith));
  };
  fits = omega (arith, within);
}

-- what takes the place of a repaired file takes that of the file from before: it has no DIRTY, and all else is kept
recovered_repacked : (file new : List ℕ) (says : Contents) → Reads file says → Reads new (recovered says) → (made : List ℕ) → Repacked new made → Repacked file made
recovered_repacked file new says reads now made is =
    let same : is.0 ≡ recovered says = one_reading new is.0 (recovered says) is.1 now in
    let half : says.header.flags / 2 * 2 / 2 * 2 ≡ says.header.flags / 2 * 2 = omega arith in (
      says,
      reads,
      is.2
          ∙ (λ i. fresh_layout (next_generation (same i).header.generation) ((same i).header.flags / 2 * 2) (items_of (same i).chain))
          ∙ (λ i. fresh_layout (next_generation says.header.generation) (half i) (items_of says.chain)),
    )

-- ---- a file that was read

module _ (file : List ℕ) (count : ℕ) (clean : Bool) (s : DiskState) (is : IsRead file count clean s) where
  abbrev says : Contents
  says = is.verified.says

  same_header : header_in file ≡ says.header
  same_header = (header_flaw-header_bytes file says.header is.bytes is.verified.reads.fields is.verified.reads.header).1

  end_is : end_of file ≡ says.header.current_size
  end_is = ap (λ (h : Header). h.current_size) same_header

  one_map : (m : Map) → Opens file m → m ≡ pairs says.chain
  one_map m opens = opens_one file m (pairs says.chain) opens (verified_opens file is.verified)

  -- where it is clean it is tidy already
  tidy_of : clean ≡ true → Tidy file says
  tidy_of set = ⊎_elim (λ dirty. absurd (is.verified.is_clean.0 set dirty)) (λ tidy. tidy) is.verified.sound

  dirty_of : clean ≡ false → IsDirty says.header
  dirty_of unset = ⊎_elim (λ dirty. dirty) (λ tidy. absurd (cc (is.verified.is_clean.1 tidy.clean, unset))) is.verified.sound

  -- and clean where the header has no DIRTY
  pub clean_where : is_dirty file ≡ false → clean ≡ true
  clean_where unset = is.verified.is_clean.1 (λ set. absurd (cc (unset, eq-eqb ((header_in file).flags % 2) 1 (ap (λ (h : Header). h.flags % 2) same_header ∙ set))))

  module _ (moment : IsMoment s) where
    pub clean_settled : clean ≡ true → IsSettled file file s
    clean_settled set = record {
      tidy = (says, is.verified.reads, tidy_of set);
      rests = λ m opens. tidy_state file says is.verified.reads (tidy_of set) ∙ sym (λ i. at_rest (one_map m opens i) (end_is i));
      tied = tidy_tied file says s is.verified.reads (tidy_of set) is.within moment is.durable is.reads;
      durable = is.durable;
      repacked = λ made is. is;
    }

    pub clean_disk : SettlesDisk file clean s s
    clean_disk = record {
      each = λ m opens. record { each = λ c n left. let now = moment.now c n left in (now.1, (file, left_alone s file moment is.durable is.reads c now.0, (opens, is.within))) };
      mark = refl;
      publishes = refl;
      still = λ set. (less_of_stays s s (stays_same s moment) refl, refl);
    }

    -- where DIRTY is set it is its own base
    pub recoverable : clean ≡ false → Recoverable file s
    recoverable unset =
        let dirty = dirty_of unset in
        let reads = is.verified.reads in (
          file,
          says,
          record {
            committed = reads;
            sound = inl dirty;
            own = (inl refl, (says.header, reads.fields, reads.header, dirty));
            reads = is.reads;
            left = λ c left. (file, left_alone s file moment is.durable is.reads c left, (inl refl, (says.header, reads.fields, reads.header, dirty)));
          },
        )

    module _ (new : List ℕ) (t : DiskState) (time : GoesOn s t) (place : RepairsInPlace file new s t) where
      pub repaired_settled : IsMoment t → Recovers file new → (Shows t → devices.Reads t new) → IsDurable t → IsSettled file new t
      repaired_settled later recovers reads durable =
          let tidy = recovers.tidy says is.verified.reads in
          let now = recovers.reads says is.verified.reads in
          record {
            tidy = (recovered says, now, tidy);
            rests = λ m opens. tidy_state new (recovered says) now tidy ∙ sym (λ i. at_rest (one_map m opens i) (end_is i));
            tied = tidy_tied new (recovered says) t now tidy (omega (arith, place.no_longer, is.within)) later durable reads;
            durable = durable;
            repacked = recovered_repacked file new says is.verified.reads now;
          }

      both : (m : Map) (c : Image) → OnBytes (λ left. Opens left m) c → OnBytes (λ left. length left ≤ SKIP_LIMIT) c → OnBytes (λ left. Opens left m × (length left ≤ SKIP_LIMIT)) c
      both m c one two = (one.0, one.1, (one.2, subst (λ (b : List ℕ). length b ≤ SKIP_LIMIT) (cc (sym two.1 ∙ one.1)) two.2))

      pub repaired_disk : clean ≡ false → ((m : Map) → Opens file m → LeavesMap m s t) → SettlesDisk file clean s t
      repaired_disk unset moments =
          let short = (place.up_to SKIP_LIMIT is.within (λ c left. (file, left_alone s file moment is.durable is.reads c left, is.within))).1 in
          record {
            each = λ m opens. record { each = λ c n left. let one = (moments m opens).each c n left in (one.0, both m c one.1 (short.each c n left).1) };
            mark = place.mark;
            publishes = place.publishes;
            still = λ set. absurd (cc (set, unset));
          }

-- ---- the disk of an opening

-- where the disk reads a file alone, this is what it reads
shown : (reads : Option Image) (file : List ℕ) → ((main : Image) → reads ≡ Some main → main ≡ Some file) → IsSome reads → reads ≡ Some (Some file)
shown None file is told = absurd (cc told)
shown (Some main) file is told = ap Some (is main refl)

pub read_is : (mid : DiskState) (file : List ℕ) (count : ℕ) (clean : Bool) → AreBytes file → length file ≤ SKIP_LIMIT → IsVerified file count clean → WhereRead mid (λ main. main ≡ Some file) → IsDurable mid
    → IsRead file count clean mid
read_is mid file count clean bytes within verified read durable = record { bytes = bytes; within = within; verified = verified; reads = shown mid.reads file read; durable = durable }

device_is_no_damage : (fault : OpenFault) → IsDeviceFault fault → IsDamage fault → ⊥
device_is_no_damage (Damaged _ _) device damage = device
device_is_no_damage Absent device damage = damage
device_is_no_damage (TooBig size) device damage = damage
device_is_no_damage NoMemory device damage = damage
device_is_no_damage DiskFault device damage = damage

-- it ends before the file is settled
pub fails_less : {B : Type 0} (old new : DiskState) (result : Result B OpenFault) (fault : OpenFault) → result ≡ Err fault → MayLeaveLess old new → (IsDamage fault → IsDurable new) → OpensDisk skip_kind old new result
fails_less {B = B} old new result fault is less durable = subst (OpensDisk {B = B} skip_kind old new) (sym is) (record {
  each = record { each = λ c n left. let pair = less.each.each c n left in (pair.0, inl pair.1) };
  mark = less.mark;
  publishes = less.publishes;
  settled = λ main reads settled. less;
  unopened = inr less;
  durable = tt;
  synced = durable;
})

module _ (old mid new : DiskState) (file : List ℕ) (count : ℕ) (clean : Bool) (is : IsRead file count clean mid) (less : MayLeaveLess old mid) (same : mid.reads ≡ old.reads) (settles : SettlesDisk file clean mid new) where
  there : WhereRead old (λ main. main ≡ Some file)
  there main reads = cc (is.reads (subst IsSome (sym (same ∙ reads)) refl), same ∙ reads)

  still : WhereSettled skip_kind old (MayLeaveLess mid new × (new.reads ≡ mid.reads))
  still main reads settled = settles.still (clean_where file count clean mid is (settled file (there main reads)))

  pub reads_same : WhereSettled skip_kind old (new.reads ≡ old.reads)
  reads_same main reads settled = (still main reads settled).1 ∙ same

  -- what takes the place of the settled file could take that of the one that was read
  pub repacked_alike : (after : List ℕ) → GoesOn old new → IsSettled file after new → (Shows new → devices.Reads new after) → KeepsRepacked skip_repack old new
  repacked_alike after time settled reads made takes main is =
      let same : main ≡ file = cc (there (Some main) is) in
      subst (λ (b : List ℕ). Repacked b made) (sym same) (settled.repacked made (takes after (reads (time.telling.1 (subst IsSome (sym is) refl)))))

  pub opens_in_place : {B : Type 0} (result : Result B OpenFault) → GoesOn old mid → GoesOn mid new → IsMoment new → OnOk result (IsDurable new) → IfErr result IsDeviceFault → OpensDisk skip_kind old new result
  opens_in_place {B = B} result first second moment durable fault = record {
    each = where_told old new _ (goes_then old mid new moment first second) moment (λ told. each_then old mid new _ first second
        (record { each = λ c n left. let pair = less.each.each c n left in (pair.0, inl pair.1) })
        (record { each = λ c n left. let pair = (settles.each (pairs is.verified.says.chain) (verified_opens file is.verified)).each c n left in (pair.0 ∙ less.mark, inr (same_map c told pair.1)) }));
    mark = settles.mark ∙ less.mark;
    publishes = settles.publishes ∙ less.publishes;
    settled = λ main reads settled. less_then old mid new first second less (still main reads settled).0;
    unopened = IfErr-weaker result _ _ (λ f device. inl device) fault;
    durable = durable;
    synced = IfErr-weaker result _ _ (λ f device damage. absurd (device_is_no_damage f device damage)) fault;
  }
    where
      same_map : (c : Image) → IsSome old.reads → OnBytes (λ left. Opens left (pairs is.verified.says.chain) × (length left ≤ SKIP_LIMIT)) c → SameMap skip_kind old.reads c
      same_map c told left = record {
        main = Some file;
        is = shown old.reads file there told;
        map = pairs is.verified.says.chain;
        opens = record { bytes = file; there = refl; within = is.within; so = verified_opens file is.verified };
        same = record { bytes = left.0; there = left.1; within = left.2.1; so = left.2.0 };
      }

-- the session of the file that was read
pub opens_as : (old mid t : DiskState) (file new : List ℕ) (count : ℕ) (clean : Bool) (db : SkipSession) → IsRead file count clean mid → mid.reads ≡ old.reads → IsSettled file new t → db ≡ resting new
    → OpensAs {B = SkipSession} skip_kind session_state old (Ok db)
opens_as old mid t file new count clean db is same settled made =
    let opens = verified_opens file is.verified in
    let rests : session_state db ≡ at_rest (pairs is.verified.says.chain) (end_of file) = ap session_state made ∙ settled.rests _ opens in
    record {
      rests = record { map = pairs is.verified.says.chain; load = end_of file; rests = rests; sound = opens_sound file _ opens };
      opened = λ main reads. record {
        bytes = file;
        there = cc (is.reads (subst IsSome (sym (same ∙ reads)) refl), same ∙ reads);
        map = pairs is.verified.says.chain;
        opens = record { bytes = file; there = cc (is.reads (subst IsSome (sym (same ∙ reads)) refl), same ∙ reads); within = is.within; so = opens };
        rests = rests;
      };
      refused = tt;
    }

-- ---- the calls before

-- What was asked for its length, synced and read is on the disk, and reads as it did.
pub record MadeSure (old new : DiskState) : Type 0 where
  pub time : GoesOn old new
  pub less : MayLeaveLess old new
  pub durable : IsDurable new
  pub reads : new.reads ≡ old.reads

pub made_sure : {T E : Type 0} (v : T) (a b c d : DiskState) → IsMoment c → IsMoment d → GoesOn a b → GoesOn b c → GoesOn c d
    → StaysAs a b → b.fresh ≡ a.fresh → DiskCall b c → Syncs {T = T} {E = E} b c (Ok v) → StaysAs c d → d.fresh ≡ c.fresh → MadeSure a d
made_sure {T = T} {E = E} v a b c d moment later ab bc cd asked fresh call sync read stays =
    let ac = goes_then a b c moment ab bc in
    record {
      time = goes_then a c d later ac cd;
      less = less_then a c d ac cd (less_then a b c ab bc (less_of_stays a b asked fresh) (less_of_sync {T = T} {E = E} b c (Ok v) call sync)) (less_of_stays c d read stays);
      durable = durable_stays c d read sync.durable;
      reads = read.main.reads ∙ sync.reads ∙ asked.main.reads;
    }
