-- What the tie of a session tells of its maps, and of what a stop leaves.
use Rattle.std.proofs.Common.{◌≡◌, ℕ, ◌+◌, ◌≤◌, Bool, true, false, cond, List, length, Option, Some, None, Result, Ok, Err, refl, sym, ap, subst, ◌∙◌, inl, inr, arith, ◌⊎◌}
use Rattle.std.specs.Prelude.{IfErr}
use Rattle.base_bytes.specs.OrderedMap.{Map, IsDbMap}
use Rattle.base_bytes.specs.declared.limits.TheConstants.{SKIP_LIMIT}
use Rattle.base_devices.specs.Causes.{Rose, FaultHasCause}
use Rattle.base_devices.specs.CrashImages.{Image, DiskState, IsDurable, IsMoment, LeavesOnly, Reads, Shows}
use Rattle.db_core.specs.Calls.{MakesCall, OnDisk, OpensCommitted, OpensEither}
use Rattle.db_core.specs.Refusals.{Answers, IsAfterRefusal, IsDiskFault, MayAnswer}
use Rattle.db_core.specs.Sessions.{DbState, over, aborted}
use Rattle.db_core.specs.declared.fault.DbFault.{DbFault}
use Rattle.db_core.specs.declared.fault.DbFault.TheVariants.{DiskFault}
use Rattle.skip_spec.specs.Chain.{Entry, pairs}
use Rattle.skip_spec.specs.Live.{live_under, map_under}
use Rattle.skip_spec.specs.Near.{Near}
use Rattle.skip_spec.specs.Opens as opens
use Rattle.skip_spec.specs.Opens.{Contents, Opens, Tidy, with_dirty}
use Rattle.skip_spec.specs.Recovery.{Recovers}
use Rattle.skip_spec.proofs.Kept.{reads_kept}
use Rattle.skip_spec.proofs.Lives.{bytes_live, file_lives}
use Rattle.skip_spec.proofs.Meanings.{opens_alike}
use Rattle.skip_spec.proofs.SameLog.{gives_back, tidy_live}
use Rattle.skip_spec.proofs.Unique.{reads_same}
use Rattle.skip_lists.proofs.Ties.{image_of, tied_to_base}
use Rattle.skip_seek.specs.Searches.{map_of}
use Rattle.skip_change.proofs.Headers.{only_read}
use Rattle.skip_lists.specs.Tie.{AreKnown, MayLeave, OnBytes, IsWithin, IsUpTo, StaysUpTo, LeavesEach, LeavesMap, TiedBy}
use Rattle.skip_kind.specs.Kind.{skip_kind, skip_opens}
use Rattle.skip_kind.proofs.KindLaws.{opens_sound}
use Rattle.skip_txn.specs.Sessions.{IsTied, SkipSession, broken, resting, session_state, within}

-- ---- the committed map

-- the live records of an image under the base's committed end are the base's
near_lives : (base b : List ℕ) (says : Contents) → opens.Reads base says → Near base b → live_under b says.header.current_size ≡ says.chain
near_lives base b says reads (inl e) = subst (λ (x : List ℕ). live_under x says.header.current_size ≡ says.chain) (sym e) (file_lives base says reads)
near_lives base b says reads (inr n) =
    let f = n.0 in
    let lives = file_lives b (record f { header = with_dirty f.header }) (reads_kept base b f n.1 n.2) in
    subst (λ (g : Contents). live_under b g.header.current_size ≡ g.chain) (reads_same base f says n.1 reads) lives

left_lives : (base b : List ℕ) (says : Contents) (changed : Bool) → opens.Reads base says → MayLeave base changed b → live_under b says.header.current_size ≡ says.chain
left_lives base b says false reads is = near_lives base b says reads (inl is)
left_lives base b says true reads is = near_lives base b says reads is.0

-- what may be left of a tidy base opens to its map
pub left_opens : (base b : List ℕ) (says : Contents) (changed : Bool) → opens.Reads base says → opens.Tidy base says → MayLeave base changed b → Opens b (pairs says.chain)
left_opens base b says false reads tidy is = opens_alike base b (pairs says.chain) (record { says = says; reads = reads; map = refl; sound = inr tidy }) (inl is)
left_opens base b says true reads tidy is = opens_alike base b (pairs says.chain) (record { says = says; reads = reads; map = refl; sound = inr tidy }) is.0

pub within_limit : (b : List ℕ) (changed : Bool) → IsWithin SKIP_LIMIT b changed → length b ≤ SKIP_LIMIT
within_limit b true is = omega (arith, is)
within_limit b false is = omega (arith, is)

module _ (b : List ℕ) (end : ℕ) (changed : Bool) (d : DiskState) (t : IsTied b end changed d) where
  pub committed_is : map_under b end ≡ pairs t.says.chain
  committed_is = ap (λ (n : ℕ). map_under b n) (sym t.ends) ∙ ap pairs (left_lives t.base b t.says changed t.tied.committed t.tied.own)

  pub up_to_limit : IsUpTo SKIP_LIMIT d
  up_to_limit c left = let is = t.tied.left c left in let fits = within_limit b changed t.fits in (is.0, is.1, omega (arith, is.2.1, fits))

  -- each image that a stop leaves opens to the committed map
  pub tied_opens : (c : Image) → d.leaves c → skip_opens c (map_under b end)
  tied_opens c left =
      let is = t.tied.left c left in
      let fits = within_limit b changed t.fits in
      record {
        bytes = is.0;
        there = is.1;
        within = omega (arith, is.2.1, fits);
        so = subst (λ (m : Map). Opens is.0 m) (sym committed_is) (left_opens t.base is.0 t.says changed t.tied.committed t.tied.tidy is.2.0);
      }

-- ---- moments

-- a file within the limit that opens to a map
pub holds : (c : Image) (P : List ℕ → Type 0) → OnBytes P c → OnBytes (λ file. length file ≤ SKIP_LIMIT) c → (file : List ℕ) × (c ≡ Some file) × (length file ≤ SKIP_LIMIT) × P file
holds c P one two =
    let same : two.0 ≡ one.0 = cc (one.1, two.1) in
    (one.0, one.1, subst (λ (f : List ℕ). length f ≤ SKIP_LIMIT) same two.2, one.2)

-- at each moment only files that open to the committed map were left
pub keeps_committed : (s : DbState) (m : Map) (d e : DiskState) → s.committed ≡ m → LeavesMap m d e → LeavesEach (λ file. length file ≤ SKIP_LIMIT) d e → e.mark ≡ d.mark → OnDisk s (OpensCommitted skip_kind s) d e
keeps_committed s m d e is maps sizes mark = record {
  each = λ sound. record {
    each = λ c n left.
        let one = maps.each c n left in
        let both = holds c (λ file. Opens file m) one.1 (sizes.each c n left).1 in
        (one.0, record { bytes = both.0; there = both.1; within = both.2; so = subst (λ (x : Map). Opens both.0 x) (sym is) both.3 });
  };
  mark = mark;
}

-- ---- calls

-- a call that did what is wanted
pub call_done : {T : Type 0} (owed : Option DbFault) (wanted : DbState) (Q : Image → Type 0) (s t : DbState) (d e : DiskState) (x : T)
    → owed ≡ None → t ≡ wanted → OnDisk s Q d e → e.publishes ≡ d.publishes → e.faults ≡ d.faults
    → MakesCall skip_kind owed wanted Q (over d s) (over e t) (Ok x)
call_done owed wanted Q s t d e x none is disk publishes faults = record {
  answer = record { ok = none; done = is; refused = tt; after = tt };
  disk = disk;
  in_place = λ _. publishes;
  cause = record { later = omega (arith, faults); rose = tt; stood = tt; kept = faults };
}

-- a call that met a fault of the disk, and a session that is broken since
pub call_failed : {T : Type 0} (owed : Option DbFault) (wanted : DbState) (Q : Image → Type 0) (s : DbState) (d e : DiskState)
    → owed ≡ None → OnDisk s Q d e → e.publishes ≡ d.publishes → d.faults ≤ e.faults → Rose d.faults e.faults
    → MakesCall {T = T} skip_kind owed wanted Q (over d s) (over e (session_state broken)) (Err DiskFault)
call_failed owed wanted Q s d e none disk publishes later rose = record {
  answer = record { ok = tt; done = tt; refused = none; after = (refl, refl) };
  disk = disk;
  in_place = λ _. publishes;
  cause = record { later = later; rose = λ _. rose; stood = inl tt; kept = tt };
}

-- a call that was refused before it touched the disk
pub call_refused : {T : Type 0} (owed : Option DbFault) (wanted : DbState) (Q : Image → Type 0) (s : DbState) (d : DiskState) (fault : DbFault)
    → IsMoment d → MayAnswer owed fault → ¬ IsDiskFault fault → (s.is_broken ≡ false → (c : Image) → d.leaves c → Q c)
    → MakesCall {T = T} skip_kind owed wanted Q (over d s) (over d s) (Err fault)
call_refused owed wanted Q s d fault moment may isnt leaves = record {
  answer = record { ok = tt; done = tt; refused = may; after = same fault isnt };
  disk = record { each = λ sound. record { each = λ c n left. let now = moment.now c n left in (now.1, leaves sound c now.0) }; mark = refl };
  in_place = λ _. refl;
  cause = record { later = omega arith; rose = λ is. absurd (isnt is); stood = inr refl; kept = tt };
}
  where
    same : (fault : DbFault) → ¬ IsDiskFault fault → IsAfterRefusal fault s s
    same DiskFault isnt = absurd (isnt tt)
    same fault isnt = refl

-- a call that touched nothing
pub call_idle : {T : Type 0} (owed : Option DbFault) (wanted : DbState) (Q : Image → Type 0) (s t : DbState) (d : DiskState) (x : T)
    → IsMoment d → owed ≡ None → t ≡ wanted → (s.is_broken ≡ false → (c : Image) → d.leaves c → Q c)
    → MakesCall skip_kind owed wanted Q (over d s) (over d t) (Ok x)
call_idle owed wanted Q s t d x moment none is leaves =
    call_done owed wanted Q s t d d x none is (record { each = λ sound. record { each = λ c n left. let now = moment.now c n left in (now.1, leaves sound c now.0) }; mark = refl }) refl refl

-- at each moment only files that open to one of two maps were left
pub keeps_either : (s : DbState) (m n : Map) (d e : DiskState) → s.committed ≡ m → s.seen ≡ n → LeavesEach (λ file. Opens file m ⊎ Opens file n) d e → LeavesEach (λ file. length file ≤ SKIP_LIMIT) d e → e.mark ≡ d.mark → OnDisk s (OpensEither skip_kind s) d e
keeps_either s m n d e is are maps sizes mark = record {
  each = λ sound. record {
    each = λ c k left.
        let one = maps.each c k left in
        let both = holds c (λ file. Opens file m ⊎ Opens file n) one.1 (sizes.each c k left).1 in (
          one.0,
          elim both.3 [
            | inl o ↦ inl (record { bytes = both.0; there = both.1; within = both.2; so = subst (λ (x : Map). Opens both.0 x) (sym is) o })
            | inr o ↦ inr (record { bytes = both.0; there = both.1; within = both.2; so = subst (λ (x : Map). Opens both.0 x) (sym are) o })
          ],
        );
  };
  mark = mark;
}

-- ---- at rest

-- a durable disk that reads a tidy file
pub rests_tied : (b : List ℕ) (says : Contents) (d : DiskState) → opens.Reads b says → Tidy b says → IsDurable d → (Shows d → Reads d b) → length b ≤ SKIP_LIMIT → IsTied b (length b) false d
rests_tied b says d reads tidy durable shows fits = record {
  base = b;
  says = says;
  ends = sym tidy.ends;
  tied = record {
    committed = reads;
    tidy = tidy;
    own = refl;
    known = subst (λ (es : List Entry). AreKnown says es) (sym (bytes_live b says.starts says.chain (tidy_live b says reads tidy))) (λ at m lt. m);
    reads = shows;
    left = λ c left. (b, only_read d b durable shows c left, (refl, omega arith));
  };
  fits = omega (arith, fits);
}

-- ---- what an abort gives back

module _ (b new : List ℕ) (end : ℕ) (d : DiskState) (t : IsTied b end true d) (recovers : Recovers b new) where
  abbrev says_now : Contents
  says_now = record t.says { header = with_dirty t.says.header }

  reads_now : opens.Reads b says_now
  reads_now = reads_kept t.base b t.says t.tied.committed (image_of t.base b t.says d (tied_to_base t.base b t.says d t.tied))

  pub given_back : opens.Reads new t.says × Tidy new t.says
  given_back =
      let back = gives_back t.base t.says t.tied.tidy in
      (subst (λ (s : Contents). opens.Reads new s) back (recovers.reads says_now reads_now), subst (λ (s : Contents). Tidy new s) back (recovers.tidy says_now reads_now))

  pub map_back : map_of new ≡ map_under b end
  map_back = ap pairs (bytes_live new t.says.starts t.says.chain (tidy_live new t.says given_back.0 given_back.1)) ∙ sym (committed_is b end true d t)

  pub end_back : length new ≡ end
  end_back = given_back.1.ends ∙ t.ends

  pub aborted_state : session_state (resting new) ≡ aborted (session_state (within b end true))
  aborted_state = cc (map_back, end_back)
