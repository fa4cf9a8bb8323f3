-- An absent main file is made, and then an action runs over it.
use Rattle.std.proofs.Common.{◌≡◌, ◌⊎◌, inl, inr, ⊎_elim, ℕ, ◌-◌, ◌≤◌, true, false, List, [], Option, Some, None, Result, Ok, Err, refl, sym, ◌∙◌, ap, subst, arith}
use Rattle.std.specs.Prelude.{IsSome, OnOk}
use Rattle.base_bytes.specs.OrderedMap.{Map}
use Rattle.base_devices.specs.Causes.{HasCause}
use Rattle.base_devices.specs.CrashImages.{Image, DiskState, GoesOn, IsMoment, IsDurable, LeavesOnly, Reads, IsAbsent, WhereRead}
use Rattle.base_devices.specs.DiskCalls.{DiskCall, IsLength}
use Rattle.base_devices.specs.Frames.{KeepsMain, StaysAs, KeepsFile, Replaces, MayReplace}
use Rattle.base_devices.specs.HostCalls.{HostState, moment, told_with}
use Rattle.base_devices.specs.Time.{goes_then}
use Rattle.base_devices.proofs.FrameLemmas.{file_of_stays, file_then, leaves_twice}
use Rattle.base_devices.proofs.Lengths.{absent_length}
use Rattle.base_devices.proofs.Moments.{each_then, where_told, stays_call}
use Rattle.base_notes.specs.declared.action.Action.{Action}
use Rattle.base_notes.specs.declared.note.Device.TheVariants.{Host}
use Rattle.base_notes.specs.declared.note.Note.{Note}
use Rattle.base_notes.specs.declared.note.Note.TheVariants.{DeviceFault}
use Rattle.db_core.specs.Sessions.{DbKind, DbLaws, DbState, at_rest}
use Rattle.db_core.specs.declared.opening.OpenFault.{OpenFault}
use Rattle.db_core.specs.declared.opening.OpenFault.TheVariants.{Absent as NoFile, TooBig, NoMemory as NoRoom, DiskFault as NoDisk, Damaged as Flawed}
use Rattle.db_tool.specs.Printing.{PrintsSome}
use Rattle.db_tool.specs.Tasks.{Given}
use Rattle.db_tool.specs.ToolNotes.{Faults}
use Rattle.db_tool.proofs.PrintLemmas.{printed_still, some_none}
use Rattle.rand_core.specs.Stream.{Stream}
use Rattle.cyr_top.specs.Actions.{IsBefore, KeepsRead, IsStart, EndsAt, opened, not_opened, checked, DoesAction, DrawsFor, IsMade}
use Rattle.cyr_top.specs.Asked.{Asked, asking, task_for}
use Rattle.cyr_top.specs.Stated.{StartsFrom, IsUnopened, StatedResult, acted, unopened, made_session}
use Rattle.cyr_top.proofs.StatedLemmas.{note_of_action, same_bytes, none_opens, opens_fails, task_plain}
use Rattle.cyr_top.proofs.ActLemmas.{some_of, left_at_end, image_of}

-- ---- the file is made

no_length : (bytes : List ℕ) → IsLength (Some bytes) None → ⊥
no_length bytes is = cc is

-- it was there
pub made_before : {T E : Type 0} (kind : DbKind) (d e : DiskState) (v : T) (answer : ℕ) → WhereRead d (λ main. IsLength main (Some answer)) → KeepsMain d e → DiskCall d e → e.fresh ≡ d.fresh → IsMade {E = E} kind d e (Ok v)
made_before kind d e v answer length main call fresh = record {
  there = λ bytes is. (stays, fresh);
  empty = λ none. absurd (cc (length None none));
  each = record { each = λ c n left. let pair = stays.each.each c n left in (pair.0, inl pair.1) };
  mark = call.mark;
}
  where
    stays : StaysAs d e
    stays = stays_call d e call main

-- the question failed
pub made_failed : {T E : Type 0} (kind : DbKind) (d e : DiskState) (fault : E) → KeepsMain d e → DiskCall d e → e.fresh ≡ d.fresh → IsMade {T = T} kind d e (Err fault)
made_failed kind d e fault main call fresh = record {
  there = λ bytes is. (stays, fresh);
  empty = tt;
  each = record { each = λ c n left. let pair = stays.each.each c n left in (pair.0, inl pair.1) };
  mark = call.mark;
}
  where
    stays : StaysAs d e
    stays = stays_call d e call main

made_empty : {T E : Type 0} (bytes : List ℕ) (d x e : DiskState) (result : Result T E) → x.reads ≡ d.reads → Replaces bytes x e result → OnOk result (IsAbsent d → Reads e bytes × IsDurable e)
made_empty bytes d x e (Ok v) same replaces = λ none. (replaces.reads (subst IsSome (sym (same ∙ none)) refl), replaces.durable)
made_empty bytes d x e (Err fault) same replaces = tt

pub made_now : {T E : Type 0} (kind : DbKind) (d x e : DiskState) (result : Result T E) → WhereRead d (λ main. IsLength main None) → KeepsMain d x → DiskCall d x → GoesOn d x → GoesOn x e → IsMoment e
    → Replaces kind.empty x e result → MayReplace kind.empty x e → IsMade kind d e result
made_now kind d x e result length main call dx xe moment replaces may = record {
  there = λ bytes is. absurd (no_length bytes (length (Some bytes) is));
  empty = made_empty kind.empty d x e result main.reads replaces;
  each = where_told d e _ (goes_then d x e moment dx xe) moment
      (λ some. each_then d x e _ dx xe
      (record { each = λ c n left. let pair = stays.each.each c n left in (pair.0, inl pair.1) })
      (record { each = λ c n left. let pair = may.each.each c n left in (pair.0 ∙ call.mark, ⊎_elim (λ was. inl (main.leaves.no_more c was)) (λ new. inr (none some, new)) pair.1) }));
  mark = may.mark ∙ call.mark;
}
  where
    stays : StaysAs d x
    stays = stays_call d x call main

    none : IsSome d.reads → d.reads ≡ Some None
    none some = let is = some_of d.reads some in is.1 ∙ ap (λ (i : Image). Some i) (absent_length is.0 None refl (length is.0 is.1))

-- ---- what was read is what the action then reads

module _ (kind : DbKind) (laws : DbLaws kind) (action : Action) (g : Given) where
  abbrev asked : Asked
  asked = asking kind true action g

  abbrev then_asked : Asked
  then_asked = asking kind false action g

  -- the main file once it is made
  abbrev made_image : Image → Image
  made_image None = Some kind.empty
  made_image (Some bytes) = Some bytes

  starts_made : (main : Image) (s : DbState) → StartsFrom then_asked (made_image main) s → StartsFrom asked main s
  starts_made None s (inl opens) =
      let same : opens.bytes ≡ kind.empty = same_bytes (Some kind.empty) opens.bytes kind.empty opens.there refl in
      let empty : opens.map ≡ [] = laws.once (Some kind.empty) opens.map [] opens.opens laws.fresh in
      inr (refl, refl, opens.rests ∙ ap (λ (m : Map). at_rest m (kind.load_of opens.bytes)) empty ∙ ap (λ (l : List ℕ). at_rest [] (kind.load_of l)) same)
  starts_made (Some bytes) s (inl opens) = inl opens
  starts_made main s (inr makes) = absurd (cc makes.0)

  opens_made : (main : Image) (s : DbState) → StartsFrom asked main s → StartsFrom then_asked (made_image main) s
  opens_made None s (inl opens) = absurd (cc opens.there)
  opens_made None s (inr makes) = inl (record { bytes = kind.empty; there = refl; map = []; opens = laws.fresh; rests = makes.2 })
  opens_made (Some bytes) s (inl opens) = inl opens
  opens_made (Some bytes) s (inr makes) = absurd (cc makes.1)

  unopened_made : (main : Image) (fault : OpenFault) → IsUnopened then_asked (made_image main) fault → IsUnopened asked main fault
  unopened_made None fault un = absurd (opens_fails then_asked laws (Some kind.empty) (made_session asked) fault (record { bytes = kind.empty; there = refl; map = []; opens = laws.fresh; rests = refl }) un)
  unopened_made (Some bytes) NoFile un = absurd (cc un.0)
  unopened_made (Some bytes) (TooBig size) un = un
  unopened_made (Some bytes) (Flawed at flaw) un = un
  unopened_made (Some bytes) NoRoom un = un
  unopened_made (Some bytes) NoDisk un = un

  made_unopened : (main : Image) (fault : OpenFault) → IsUnopened asked main fault → IsUnopened then_asked (made_image main) fault
  made_unopened None NoFile un = absurd (un.1 refl)
  made_unopened None (TooBig size) un = absurd (cc un.there)
  made_unopened None (Flawed at flaw) un = absurd (cc un.there)
  made_unopened None NoRoom un = un
  made_unopened None NoDisk un = un
  made_unopened (Some bytes) NoFile un = absurd (cc un.0)
  made_unopened (Some bytes) (TooBig size) un = un
  made_unopened (Some bytes) (Flawed at flaw) un = un
  made_unopened (Some bytes) NoRoom un = un
  made_unopened (Some bytes) NoDisk un = un

  stated_made : (main : Image) (note : Note) (output : List ℕ) → StatedResult then_asked (made_image main) note output → StatedResult asked main note output
  stated_made main note output (acted s starts is out) = acted s (starts_made main s starts) is out
  stated_made main note output (unopened fault un is out) = unopened fault (unopened_made main fault un) is out

  made_stated : (main : Image) (note : Note) (output : List ℕ) → StatedResult asked main note output → StatedResult then_asked (made_image main) note output
  made_stated main note output (acted s starts is out) = acted s (opens_made main s starts) is out
  made_stated main note output (unopened fault un is out) = unopened fault (made_unopened main fault un) is out

  -- a file that does not open is there
  unopened_there : (main : Image) (fault : OpenFault) → IsUnopened asked main fault → (bytes : List ℕ) × (main ≡ Some bytes)
  unopened_there None NoFile un = absurd (un.1 refl)
  unopened_there None (TooBig size) un = absurd (cc un.there)
  unopened_there None (Flawed at flaw) un = absurd (cc un.there)
  unopened_there None NoRoom un = absurd un
  unopened_there None NoDisk un = absurd un
  unopened_there (Some bytes) fault un = (bytes, refl)

  -- ---- and the action runs

  module _ (o q : HostState) (d x : DiskState) (dx : GoesOn d x) (moment_x : IsMoment x) (silent : q ≡ o) where
    -- what an image may be once the file is made
    abbrev may_be_made : Image → Type 0
    may_be_made c = d.leaves c ⊎ (IsAbsent d × (c ≡ Some kind.empty))

    start_made : (c : Image) → may_be_made c → IsStart asked d c
    start_made c left = ⊎_elim inl (λ new. inr (refl, new.0, new.1)) left

    kept_made : (k : ℕ) (c : Image) → (task_for asked (made_session asked)).acknowledged k ≡ 0 → IsAbsent d → c ≡ Some kind.empty → KeepsRead asked d k c
    kept_made k c none absent empty = record {
      main = None;
      read = absent;
      session = made_session asked;
      starts = inr (refl, refl, refl);
      keeps = record { count = 0; within = omega arith; acknowledged = omega (arith, none); holds = subst (λ (i : Image). kind.opens i []) (sym empty) laws.fresh };
    }

    from_made : (k : ℕ) (c : Image) → ((s : DbState) → (task_for asked s).acknowledged k ≡ 0) → may_be_made c → IsBefore asked d k c ⊎ KeepsRead asked d k c
    from_made k c none left = ⊎_elim (λ was. inl (record { left = was; none = none })) (λ new. inr (kept_made k c (none (made_session asked)) new.0 new.1)) left

    -- while the file is made nothing is printed
    while_made : (c : Image) (n : ℕ) → n ≡ d.mark → may_be_made c → IsBefore asked d (n - d.mark) c ⊎ KeepsRead asked d (n - d.mark) c
    while_made c n is left =
        let start : 0 ≡ n - d.mark = omega (arith, is) in
        from_made (n - d.mark) c (λ s. subst (λ (k : ℕ). (task_for asked s).acknowledged k ≡ 0) start (task_plain asked s).none) left

    -- what is left of a file that was there could be left before
    from_there : (bytes : List ℕ) (c : Image) → Reads d bytes → may_be_made c → d.leaves c
    from_there bytes c is left = ⊎_elim (λ was. was) (λ new. cc (is, new.0)) left

    -- the main file that is read is there, where it is not to be made
    there_of : (main : Image) → d.reads ≡ Some main → (true ≡ true → main ≡ None → ⊥) → (bytes : List ℕ) × Reads d bytes
    there_of None is there = absurd (there refl refl)
    there_of (Some bytes) is there = (bytes, is)

    -- the file could not be made
    pub not_made : {T E : Type 0} (fault : E) → IsMade {T = T} kind d x (Err fault) → HasCause {T = T} d.faults x.faults (Err fault) → DoesAction asked (moment d o) (moment x q) (DeviceFault Host)
    not_made fault made cause =
        let nothing = printed_still (moment d o) (moment x q) silent made.mark in
        record {
          each = record { each = λ c n left. let pair = made.each.each c n left in (omega (arith, pair.0), omega (arith, pair.0, made.mark), while_made c n pair.0 pair.1) };
          later = omega (arith, made.mark);
          stated = λ main is. inl (inl tt);
          prints = λ main is wanted output result. some_none (moment d o) (moment x q) output nothing;
          warned = nothing.warned;
          ends = λ no_fault. absurd (no_fault tt);
          unopened = λ no_fault. absurd (no_fault tt);
          kept = λ main is there settled prints. let bytes = there_of main is there in let stays = made.there bytes.0 bytes.1 in file_of_stays d x stays.1 stays.0;
          checked = λ check bytes is. let stays = (made.there bytes is).0 in (stays.main.reads, stays.main.leaves);
          in_place = λ _ bytes is. (made.there bytes is).0.main.publishes;
          absent = λ makes none. record { each = λ c n left was. (made.each.each c n left).0 };
          made = λ makes none. inl (inl tt);
          faults = record { rose = λ _. cause.failed; stood = λ not. absurd (not refl) };
          built = note_of_action action (DeviceFault Host) tt;
          no_usage = λ is. cc is;
        }

    pub not_made_draws : (words : Stream) → DrawsFor asked d words words (DeviceFault Host)
    not_made_draws words = record { count = 0; drawn = refl; opened = λ main is s starts. (omega arith, inl (inl tt)); unopened = λ main is f un. refl }

    module _ {T E : Type 0} (v : T) (p : HostState) (e : DiskState) (note : Note) (made : IsMade {E = E} kind d x (Ok v)) (cause : HasCause {E = E} d.faults x.faults (Ok v)) (xe : GoesOn x e) (moment_e : IsMoment e)
        (does : DoesAction then_asked (moment x q) (moment e p) note) where
      reads_made : (main : Image) → d.reads ≡ Some main → x.reads ≡ Some (made_image main)
      reads_made None is = (made.empty is).0
      reads_made (Some bytes) is = (made.there bytes is).0.main.reads ∙ is

      left_made : (c : Image) → x.leaves c → may_be_made c
      left_made c left = (made.each.each c x.mark (left_at_end d x c dx moment_x left)).1

      marks : x.mark ≤ e.mark
      marks = does.later

      -- what the action keeps of the file that was made
      keeps : (k : ℕ) (c : Image) → KeepsRead then_asked x k c → KeepsRead asked d k c
      keeps k c kept =
          let main = some_of d.reads (dx.telling.0 (subst IsSome (sym kept.read) refl)) in
          let same : kept.main ≡ made_image main.0 = cc (sym kept.read ∙ reads_made main.0 main.1) in
          record { main = main.0; read = main.1; session = kept.session; starts = starts_made main.0 kept.session (subst (λ (i : Image). StartsFrom then_asked i kept.session) same kept.starts); keeps = kept.keeps }

      leaves : (c : Image) (n : ℕ) → IsBefore then_asked x (n - x.mark) c ⊎ KeepsRead then_asked x (n - x.mark) c → IsBefore asked d (n - d.mark) c ⊎ KeepsRead asked d (n - d.mark) c
      leaves c n left =
          let same : n - x.mark ≡ n - d.mark = ap (λ (m : ℕ). n - m) made.mark in
          subst (λ (k : ℕ). IsBefore asked d k c ⊎ KeepsRead asked d k c) same
          (⊎_elim (λ before. from_made (n - x.mark) c before.none (left_made c before.left)) (λ kept. inr (keeps (n - x.mark) c kept)) left)

      -- both calls leave images that have Q
      both : (Q R : Image → Type 0) → ((c : Image) → may_be_made c → Q c) → ((c : Image) → R c → Q c) → LeavesOnly x e (λ c n. R c) → LeavesOnly d e (λ c n. Q c)
      both Q R first second then = each_then d x e (λ c n. Q c) dx xe
          (record { each = λ c n left. first c (made.each.each c n left).1 })
          (record { each = λ c n left. second c (then.each c n left) })

      start_then : (c : Image) → IsStart then_asked x c → IsStart asked d c
      start_then c start = ⊎_elim (λ was. start_made c (left_made c was)) (λ new. absurd (cc new.0)) start

      -- no image of a file that was made is absent
      is_there : IsAbsent d → (c : Image) (k : ℕ) → IsBefore then_asked x k c ⊎ KeepsRead then_asked x k c → c ≡ None → ⊥
      is_there none c k left absent = ⊎_elim (λ before. let only = (made.empty none).1.only c before.left in let is = (made.empty none).0 in cc (sym only ∙ is, absent))
          (λ kept. none_opens then_asked laws c _ absent kept.keeps.holds) left

      -- a file that was there is as the action leaves it
      pub file_there : (bytes : List ℕ) → Reads d bytes → KeepsFile x e → KeepsFile d e
      file_there bytes is file = let there = made.there bytes is in file_then d x e dx xe (omega (arith, made.mark)) marks (λ i left. there.0.main.leaves.no_more i left) (file_of_stays d x there.1 there.0) file

      ends_then : EndsAt then_asked x e note → EndsAt asked d e note
      ends_then (opened s starts st) = opened s (λ main is. starts_made main s (starts (made_image main) (reads_made main is))) (record {
        count = st.count;
        within = st.within;
        whole = st.whole;
        memory = λ is. subst (λ (m : ℕ). (task_for asked s).may_stand (e.mark - m) st.count) made.mark (st.memory is);
        no_more = both _ _ (λ c left. inl (start_made c left)) (λ c left. ⊎_elim (λ start. inl (start_then c start)) inr left) st.no_more;
        end = st.end;
      })
      ends_then (not_opened why mark each) = not_opened (⊎_elim inl (λ un. inr (un.0, λ main is. unopened_made main un.0 (un.1 (made_image main) (reads_made main is)))) why) (mark ∙ made.mark) (both _ _ start_made start_then each)
      ends_then (checked check mark each) = checked check (λ is. mark is ∙ made.mark) (both _ _ start_made start_then each)

      told_before : q.told ≡ o.told
      told_before = ap (λ (s : HostState). s.told) silent

      some_from : (l : List ℕ) → PrintsSome l (moment x q) (moment e p) → PrintsSome l (moment d o) (moment e p)
      some_from l some = record {
        printed = some.printed;
        unprinted = some.unprinted;
        whole = some.whole;
        grew = record {
          told = some.grew.told ∙ ap (λ (h : Option (List ℕ)). told_with h some.printed) told_before;
          warned = some.grew.warned ∙ ap (λ (h : HostState). h.warned) silent;
          later = omega (arith, marks, made.mark);
          most = omega (arith, some.grew.most, made.mark);
          marked = λ is. omega (arith, some.grew.marked (subst (λ (h : HostState). IsSome h.told) (sym silent) is), made.mark);
        };
      }

      pub made_then : DoesAction asked (moment d o) (moment e p) note
      made_then = record {
        each = each_then d x e _ dx xe
            (record { each = λ c n left. let pair = made.each.each c n left in (omega (arith, pair.0), omega (arith, pair.0, made.mark, marks), while_made c n pair.0 pair.1) })
            (record { each = λ c n left. let pair = does.each.each c n left in (omega (arith, pair.0, made.mark), pair.1, leaves c n pair.2) });
        later = omega (arith, made.mark, marks);
        stated = λ main is. ⊎_elim inl (λ met. inr (record { output = met.output; result = stated_made main note met.output met.result; told = met.told ∙ ap (λ (l : Option (List ℕ)). told_with l met.output) told_before })) (does.stated (made_image main) (reads_made main is));
        prints = λ main is wanted output result. some_from output (does.prints (made_image main) (reads_made main is) wanted output (made_stated main wanted output result));
        warned = does.warned ∙ ap (λ (h : HostState). h.warned) silent;
        ends = λ no_fault. ends_then (does.ends no_fault);
        unopened = λ no_fault main is fault un.
            let there = unopened_there main fault un in
            file_there there.0 (is ∙ ap (λ (i : Image). Some i) there.1) (does.unopened no_fault (made_image main) (reads_made main is) fault (made_unopened main fault un));
        kept = λ main is there settled prints.
            let bytes = there_of main is there in
            let now : x.reads ≡ Some (Some bytes.0) = reads_made (Some bytes.0) bytes.1 in
            let same : main ≡ Some bytes.0 = image_of main bytes.0 is bytes.1 in
            file_there bytes.0 bytes.1 (does.kept (Some bytes.0) now (λ make. absurd (cc make)) (λ b eq. settled b (same ∙ eq))
            (λ s starts. prints s (subst (λ (i : Image). StartsFrom asked i s) (sym same) (starts_made (Some bytes.0) s starts))));
        checked = λ check bytes is.
            let stays = (made.there bytes is).0 in
            let met = does.checked check bytes (reads_made (Some bytes) is) in
            (met.0 ∙ stays.main.reads, leaves_twice d x e stays.main.leaves met.1);
        in_place = λ works bytes is. does.in_place works bytes (reads_made (Some bytes) is) ∙ (made.there bytes is).0.main.publishes;
        absent = λ makes none. each_then d x e _ dx xe
            (record { each = λ c n left was. (made.each.each c n left).0 })
            (record { each = λ c n left was. absurd (is_there none c (n - x.mark) (does.each.each c n left).2 was) });
        made = λ makes none. inr (λ left. is_there none None (e.mark - x.mark) (does.each.each None e.mark (left_at_end x e None xe moment_e left)).2 refl);
        faults = subst (λ (n : ℕ). Faults Host note n e.faults) cause.kept does.faults;
        built = does.built;
        no_usage = does.no_usage;
      }

      pub made_draws : (old new : Stream) → DrawsFor then_asked x old new note → DrawsFor asked d old new note
      made_draws old new draws = record {
        count = draws.count;
        drawn = draws.drawn;
        opened = λ main is s starts. draws.opened (made_image main) (reads_made main is) s (opens_made main s starts);
        unopened = λ main is f un. draws.unopened (made_image main) (reads_made main is) f (made_unopened main f un);
      }
