-- How the calls of a session follow one another.
use Rattle.std.proofs.lemmas.List.{append-nil, drop_all, drop_more, length-take-le, take_all}
use Rattle.std.proofs.lemmas.Option.{get_or_from_slice_get, slice_get_cases, slice_get_within}
use Rattle.std.proofs.Common.{◌≡◌, inl, inr, ⊎_elim, ℕ, ◌+◌, ◌≤◌, Bool, true, false, List, [], ◌∷◌, ◌++◌, Option, Some, None, Result, Ok, Err, length, take, drop, refl, sym, ◌∙◌, ap, subst, arith, length-append}
use Rattle.std.specs.Prelude.{◌<◌, nat_lt, slice_get, is_some, IfErr, if◌then◌else◌}
use Rattle.std.specs.List.{All}
use Rattle.std.specs.Option.{option_or}
use Rattle.base_devices.specs.Causes.{FaultHasCause}
use Rattle.base_devices.specs.CrashImages.{Image, DiskState, IsMoment}
use Rattle.base_bytes.specs.OrderedMap.{Map, IsOrderedMap, IsDbMap, first_from, first_above, pairs_from, put, value_at, without}
use Rattle.base_bytes.specs.declared.limits.TheConstants.{FLAT_LIMIT}
use Rattle.db_core.specs.Calls.{OnDisk, MakesCall, OpensEither}
use Rattle.db_core.specs.Refusals.{Answers, IsAfterRefusal, IsDiskFault, LeavesDisk, broken_refusal, pair_refusal, size_refusal, store_refusal, delete_refusal}
use Rattle.db_core.specs.Sessions.{DbKind, DbState, over, stored, deleted, committed, aborted}
use Rattle.db_core.specs.declared.fault.DbFault.{DbFault}
use Rattle.db_core.specs.declared.fault.DbFault.TheVariants.{Broken as Refused, Full, DiskFault}
use Rattle.flat_db.specs.FlatText.{canonical_text}
use Rattle.flat_db.specs.Entries.{EndsBy, pairs_of}
use Rattle.flat_db.specs.Opening.{flat_opens}
use Rattle.base_devices.specs.Frames.{MayReplace}
use Rattle.flat_db.proofs.Canonical.{canonical_reads_back}
use Rattle.flat_db.proofs.LineLemmas.{pairs_below}
use Rattle.flat_db.specs.Kept.{IsKept, SameEntries, map_among}
use Rattle.flat_db.specs.Places.{IsPlaceOf, HasKeyAt, LacksKeyAt}
use Rattle.flat_db.proofs.PlaceLemmas.{value_own, value_lacks, first_from_place, first_above_between, first_above_own}
use Rattle.flat_db.specs.Sessions.{flat_kind, FlatSession, resting, within, flat_state, FlatTied, session_of, changed, HoldsBy, IsOpen, IsSession}
use Rattle.flat_db.specs.declared.pairs.Pairs.{Pairs}
use Rattle.flat_db.specs.declared.session.Stage.{Stage}
use Rattle.flat_db.specs.declared.session.Stage.TheVariants.{Resting, Open, Broken}
use Rattle.flat_db.specs.declared.session.Transaction.{Transaction}
use Rattle.base_bytes.proofs.OrderedMaps.{pairs_from_place, without_absent}
use Rattle.flat_db.proofs.KeptLemmas.{grown_map, grown_kept}

-- ---- the tie

pub tied_same : (a b : FlatSession) (d : DiskState) → (flat_state b).committed ≡ (flat_state a).committed → (flat_state b).is_broken ≡ (flat_state a).is_broken → FlatTied a d → FlatTied b d
tied_same a b d committed is_broken tie = record { leaves = λ sound c left. subst (λ (m : Map). flat_kind.opens c m) (sym committed) (tie.leaves (sym is_broken ∙ sound) c left) }

-- ---- calls that make no call of the disk

refused_same : (fault : DbFault) (old new : DbState) → ¬ IsDiskFault fault → IsAfterRefusal fault old new → new ≡ old
refused_same DiskFault old new isnt after = absurd (isnt tt)
refused_same fault old new isnt after = after

-- the tie goes on over a session with the same committed map
pub answered_tied : {T : Type 0} (owed : Option DbFault) (wanted : DbState) (s t : FlatSession) (d : DiskState) (result : Result T DbFault)
    → Answers owed (flat_state s) (flat_state t) wanted result → IfErr result (λ fault. ¬ IsDiskFault fault) → wanted.committed ≡ (flat_state s).committed → wanted.is_broken ≡ (flat_state s).is_broken → FlatTied s d → FlatTied t d
answered_tied owed wanted s t d (Ok x) answer no_fault committed is_broken tie =
    tied_same s t d (ap (λ (u : DbState). u.committed) answer.done ∙ committed) (ap (λ (u : DbState). u.is_broken) answer.done ∙ is_broken) tie
answered_tied owed wanted s t d (Err fault) answer no_fault committed is_broken tie =
    let same = refused_same fault (flat_state s) (flat_state t) no_fault answer.after in
    tied_same s t d (ap (λ (u : DbState). u.committed) same) (ap (λ (u : DbState). u.is_broken) same) tie

-- and what it leaves is what could be left; this holds of each kind
pub makes_no_call : {T : Type 0} (kind : DbKind) (owed : Option DbFault) (wanted : DbState) (Q : Image → Type 0) (s t : DbState) (d : DiskState) (result : Result T DbFault)
    → Answers owed s t wanted result → IfErr result (λ fault. ¬ IsDiskFault fault) → IsMoment d → (s.is_broken ≡ false → (i : Image) → d.leaves i → Q i) → MakesCall kind owed wanted Q (over d s) (over d t) result
makes_no_call {T = T} kind owed wanted Q s t d result answer no_fault moment leaves = record {
  answer = answer;
  disk = record { each = λ sound. record { each = λ i n left. let now = moment.now i n left in (now.1, leaves sound i now.0) }; mark = refl };
  in_place = λ in_place. refl;
  cause = by result no_fault;
}
  where
    by : (r : Result T DbFault) → IfErr r (λ fault. ¬ IsDiskFault fault) → FaultHasCause IsDiskFault d.faults d.faults r
    by (Ok x) none = record { later = omega arith; rose = tt; stood = tt; kept = refl }
    by (Err fault) none = record { later = omega arith; rose = λ is. absurd (none is); stood = inr refl; kept = tt }

pub leaves_disk : {T D : Type 0} (d : D) (result : Result T DbFault) → LeavesDisk result d d
leaves_disk d (Ok x) = tt
leaves_disk d (Err fault) = inr refl

-- ---- what the parts hold

-- a transaction goes on over bytes that grew, with a map seen that fits
open_on : (bytes new more : List ℕ) (seen later : Pairs) (t : Transaction) (b : Bool) → new ≡ bytes ++ more → length new ≤ 4294967295 → (b ≡ true → later.size ≤ FLAT_LIMIT) → (b ≡ false → map_among new later ≡ map_among bytes t.committed) → IsOpen bytes seen t → IsOpen new later (record t { has_changed = b })
open_on bytes new more seen later t b is short fits same stands = record {
  committed = grown_kept bytes new more t.committed is short stands.committed;
  before = omega (arith, stands.before, ap length is, length-append bytes more);
  ends = stands.ends;
  gathered = stands.gathered;
  fits = fits;
  same = λ not. same not ∙ sym (grown_map bytes new more t.committed is stands.committed);
}

pub session_changed : (bytes new more : List ℕ) (seen later : Pairs) (stage : Stage) → new ≡ bytes ++ more → length new ≤ 4294967295 → IsKept new later → later.size ≤ FLAT_LIMIT → IsSession bytes seen stage → IsSession new later (changed stage)
session_changed bytes new more seen later Resting is short kept fits session = record { kept = kept; stands = tt }
session_changed bytes new more seen later (Open t) is short kept fits session = record { kept = kept; stands = open_on bytes new more seen later t true is short (λ _. fits) (λ not. absurd (cc not)) session.stands }
session_changed bytes new more seen later Broken is short kept fits session = record { kept = kept; stands = tt }

pub session_same : (bytes new more : List ℕ) (seen later : Pairs) (stage : Stage) → new ≡ bytes ++ more → length new ≤ 4294967295 → IsKept new later → SameEntries seen later → IsSession bytes seen stage → IsSession new later stage
session_same bytes new more seen later Resting is short kept same session = record { kept = kept; stands = tt }
session_same bytes new more seen later (Open t) is short kept same session = record {
  kept = kept;
  stands = open_on bytes new more seen later t t.has_changed is short (λ c. omega (arith, same.size, session.stands.fits c))
      (λ not. ap (pairs_of new) same.items ∙ grown_map bytes new more seen is session.kept ∙ session.stands.same not) session.stands;
}
session_same bytes new more seen later Broken is short kept same session = record { kept = kept; stands = tt }

-- ---- what a contract sees

-- nothing, where bytes were added and the entries stayed
pub seen_same : (bytes new more : List ℕ) (seen later : Pairs) (stage : Stage) → new ≡ bytes ++ more → SameEntries seen later → IsSession bytes seen stage → session_of new later stage ≡ session_of bytes seen stage
seen_same bytes new more seen later stage is same session = by stage session.stands
  where
    map_same : map_among new later ≡ map_among bytes seen
    map_same = ap (pairs_of new) same.items ∙ grown_map bytes new more seen is session.kept

    by : (stage : Stage) → HoldsBy bytes seen stage → session_of new later stage ≡ session_of bytes seen stage
    by Resting holds = ap resting map_same
    by (Open t) holds = cc (map_same, grown_map bytes new more t.committed is holds.committed)
    by Broken holds = refl

-- the map seen, in a session that is not broken
pub seen_is : (bytes : List ℕ) (seen : Pairs) (stage : Stage) (s : FlatSession) → session_of bytes seen stage ≡ s → (flat_state s).is_broken ≡ false → map_among bytes seen ≡ (flat_state s).seen
seen_is bytes seen stage s view sound = by stage (ap (λ (t : FlatSession). (flat_state t).is_broken) view ∙ sound) ∙ ap (λ (t : FlatSession). (flat_state t).seen) view
  where
    by : (stage : Stage) → (flat_state (session_of bytes seen stage)).is_broken ≡ false → map_among bytes seen ≡ (flat_state (session_of bytes seen stage)).seen
    by Resting sound = refl
    by (Open t) sound = refl
    by Broken sound = absurd (cc sound)

-- a pair that was put
pub seen_stored : (bytes new more : List ℕ) (seen later : Pairs) (stage : Stage) (s : FlatSession) (word : ℕ) (key value : List ℕ) → session_of bytes seen stage ≡ s → (flat_state s).in_transaction ≡ true → new ≡ bytes ++ more → IsSession bytes seen stage
    → map_among new later ≡ put (map_among bytes seen) key value → flat_state (session_of new later (changed stage)) ≡ stored flat_kind (flat_state s) word key value
seen_stored bytes new more seen later stage s word key value view stands is session done =
    by stage (ap (λ (t : FlatSession). (flat_state t).in_transaction) view ∙ stands) session.stands ∙ ap (λ (t : FlatSession). stored flat_kind (flat_state t) word key value) view
  where
    by : (stage : Stage) → (flat_state (session_of bytes seen stage)).in_transaction ≡ true → HoldsBy bytes seen stage → flat_state (session_of new later (changed stage)) ≡ stored flat_kind (flat_state (session_of bytes seen stage)) word key value
    by Resting stands holds = absurd (cc stands)
    by (Open t) stands holds = cc (done, grown_map bytes new more t.committed is holds.committed)
    by Broken stands holds = absurd (cc stands)

-- a key that was taken out, and one that was not there
deleted_there : (s : DbState) (key : List ℕ) → is_some (value_at s.seen key) ≡ true → deleted flat_kind s key ≡ record s { seen = without s.seen key; has_changed = true }
deleted_there s key there = ap (λ (t : Bool). record s { seen = without s.seen key; load = if t then s.load else s.load; has_changed = if t then true else s.has_changed }) there

pub deleted_absent : (s : DbState) (key : List ℕ) → is_some (value_at s.seen key) ≡ false → s ≡ deleted flat_kind s key
deleted_absent s key none =
    ap (λ (m : Map). record s { seen = m }) (sym (without_absent s.seen key none))
    ∙ sym (ap (λ (t : Bool). record s { seen = without s.seen key; load = if t then s.load else s.load; has_changed = if t then true else s.has_changed }) none)

pub seen_deleted : (bytes : List ℕ) (seen later : Pairs) (stage : Stage) (s : FlatSession) (key : List ℕ) → session_of bytes seen stage ≡ s → (flat_state s).in_transaction ≡ true → is_some (value_at (map_among bytes seen) key) ≡ true
    → map_among bytes later ≡ without (map_among bytes seen) key → flat_state (session_of bytes later (changed stage)) ≡ deleted flat_kind (flat_state s) key
seen_deleted bytes seen later stage s key view stands there done =
    by stage (ap (λ (t : FlatSession). (flat_state t).in_transaction) view ∙ stands) ∙ ap (λ (t : FlatSession). deleted flat_kind (flat_state t) key) view
  where
    by : (stage : Stage) → (flat_state (session_of bytes seen stage)).in_transaction ≡ true → flat_state (session_of bytes later (changed stage)) ≡ deleted flat_kind (flat_state (session_of bytes seen stage)) key
    by Resting stands = absurd (cc stands)
    by (Open t) stands = ap (λ (m : Map). flat_state (within m (map_among bytes t.committed) true)) done ∙ sym (deleted_there (flat_state (session_of bytes seen (Open t))) key there)
    by Broken stands = absurd (cc stands)

-- ---- what is owed

pub nothing_owed : (s : FlatSession) → (flat_state s).is_broken ≡ false → broken_refusal (flat_state s) ≡ None
nothing_owed s sound = ap (λ (b : Bool). if b then Some Refused else None) sound

pub within_limit : (size n : ℕ) → size ≡ n → size ≤ FLAT_LIMIT → size_refusal flat_kind n ≡ None
within_limit size n is fits = let not_over : nat_lt FLAT_LIMIT n ≡ false = grind (arith, is, fits) in ap (λ (b : Bool). if b then Some (Full n) else None) not_over

pub over_limit : (size n : ℕ) → size ≡ n → FLAT_LIMIT < size → size_refusal flat_kind n ≡ Some (Full size)
over_limit size n is over = let so : nat_lt FLAT_LIMIT n ≡ true = grind (arith, is, over) in ap (λ (b : Bool). if b then Some (Full n) else None) so ∙ ap (λ (k : ℕ). Some (Full k)) (sym is)

pub delete_owed : (s : DbState) (key : List ℕ) → s.is_broken ≡ false → is_some (value_at s.seen key) ≡ true → delete_refusal flat_kind s key ≡ size_refusal flat_kind (length (canonical_text (without s.seen key)))
delete_owed s key sound there =
    ap (λ (b : Bool). if b then Some Refused else (if is_some (value_at s.seen key) then size_refusal flat_kind (length (canonical_text (without s.seen key))) else None)) sound
    ∙ ap (λ (b : Bool). if b then size_refusal flat_kind (length (canonical_text (without s.seen key))) else None) there

pub delete_free : (s : DbState) (key : List ℕ) → s.is_broken ≡ false → is_some (value_at s.seen key) ≡ false → delete_refusal flat_kind s key ≡ None
delete_free s key sound none =
    ap (λ (b : Bool). if b then Some Refused else (if is_some (value_at s.seen key) then size_refusal flat_kind (length (canonical_text (without s.seen key))) else None)) sound
    ∙ ap (λ (b : Bool). if b then size_refusal flat_kind (length (canonical_text (without s.seen key))) else None) none

pub store_owed : (s : DbState) (word : ℕ) (key value : List ℕ) → s.is_broken ≡ false → pair_refusal key value ≡ None → store_refusal flat_kind s word key value ≡ size_refusal flat_kind (length (canonical_text (put s.seen key value)))
store_owed s word key value sound right =
    ap (λ (b : Bool). if b then Some Refused else option_or (pair_refusal key value) (size_refusal flat_kind (length (canonical_text (put s.seen key value))))) sound
    ∙ ap (λ (o : Option DbFault). option_or o (size_refusal flat_kind (length (canonical_text (put s.seen key value))))) right

-- ---- what the key's place says of the map seen

none_left : (m : Map) (place : ℕ) → slice_get m place ≡ None → drop place m ≡ []
none_left m place none = ⊎_elim (λ some. absurd (cc (sym none ∙ some.2))) (λ past. drop_all place m past.0) (slice_get_cases m place).1

some_left : (m : Map) (place : ℕ) (p : List ℕ × List ℕ) → slice_get m place ≡ Some p → drop place m ≡ p ∷ drop (place + 1) m
some_left m place p some = drop_more m place p (slice_get_within m place p some) ∙ ap (λ (q : List ℕ × List ℕ). q ∷ drop (place + 1) m) (get_or_from_slice_get m place p p some)

module _ (bytes slice key : List ℕ) (seen : Pairs) (stage : Stage) (s : FlatSession) (place : ℕ) (view : session_of bytes seen stage ≡ s) (sound : (flat_state s).is_broken ≡ false) (same : slice ≡ bytes) where
  among : map_among slice seen ≡ (flat_state s).seen
  among = ap (λ (l : List ℕ). map_among l seen) same ∙ seen_is bytes seen stage s view sound

  pub key_is_there : HasKeyAt key (map_among slice seen) place → is_some (value_at (flat_state s).seen key) ≡ true
  key_is_there has = ap (λ (m : Map). is_some (value_at m key)) (sym among) ∙ ap is_some (value_own key (map_among slice seen) place has)

  pub key_is_absent : LacksKeyAt key (map_among slice seen) place → IsSession bytes seen stage → is_some (value_at (flat_state s).seen key) ≡ false
  key_is_absent lacks session =
      let ordered = subst (λ (l : List ℕ). IsOrderedMap (map_among l seen)) (sym same) session.kept.sound.ordered in
      ap (λ (m : Map). is_some (value_at m key)) (sym among) ∙ ap is_some (value_lacks key (map_among slice seen) place lacks ordered)

  pub size_then : (size : ℕ) → size ≡ length (canonical_text (without (map_among slice seen) key)) → size ≡ length (canonical_text (without (flat_state s).seen key))
  size_then size is = is ∙ ap (λ (m : Map). length (canonical_text (without m key))) among

  pub first_pair : IsPlaceOf key (map_among slice seen) place → slice_get (map_among slice seen) place ≡ first_from (flat_state s).seen key
  first_pair at = sym (first_from_place key (map_among slice seen) place at) ∙ ap (λ (m : Map). first_from m key) among

  -- and where a walk from it begins
  pub walk_place : IsPlaceOf key (map_among slice seen) place → pairs_from (flat_state s).seen key ≡ drop place (flat_state s).seen
  walk_place at = subst (λ (m : Map). pairs_from m key ≡ drop place m) among (pairs_from_place (map_among slice seen) key place at.within at.lower at.others)

  -- what is left there of a walk
  pub walk_end : (left : Map) → None ≡ slice_get (map_among slice seen) place → left ≡ drop place (flat_state s).seen → left ≡ []
  walk_end left none is = is ∙ ap (drop place) (sym among) ∙ none_left (map_among slice seen) place (sym none)

  pub walk_on : (left : Map) (p : List ℕ × List ℕ) → Some p ≡ slice_get (map_among slice seen) place → left ≡ drop place (flat_state s).seen → left ≡ p ∷ drop (place + 1) (flat_state s).seen
  walk_on left p some is =
      is ∙ ap (drop place) (sym among) ∙ some_left (map_among slice seen) place p (sym some) ∙ ap (λ (m : Map). p ∷ drop (place + 1) m) among

  pub next_pair_between : LacksKeyAt key (map_among slice seen) place → slice_get (map_among slice seen) place ≡ first_above (flat_state s).seen key
  next_pair_between lacks = sym (first_above_between key (map_among slice seen) place lacks) ∙ ap (λ (m : Map). first_above m key) among

  pub next_pair_own : HasKeyAt key (map_among slice seen) place → IsSession bytes seen stage → slice_get (map_among slice seen) (place + 1) ≡ first_above (flat_state s).seen key
  next_pair_own has session =
      let ordered = subst (λ (l : List ℕ). IsOrderedMap (map_among l seen)) (sym same) session.kept.sound.ordered in
      sym (first_above_own key (map_among slice seen) place has ordered) ∙ ap (λ (m : Map). first_above m key) among

-- a transaction goes on with a map seen that changed among the same bytes
pub session_still : (bytes : List ℕ) (seen later : Pairs) (stage : Stage) → IsKept bytes later → later.size ≤ FLAT_LIMIT → IsSession bytes seen stage → IsSession bytes later (changed stage)
session_still bytes seen later stage kept fits session = session_changed bytes bytes [] seen later stage (sym (append-nil bytes)) kept.short kept fits session

-- ---- the end of a transaction

-- a text that is within the limit opens to its map
text_opens : (bytes slice : List ℕ) (seen : Pairs) (i : Image) → slice ≡ bytes → IsKept bytes seen → seen.size ≤ FLAT_LIMIT → i ≡ Some (canonical_text (map_among slice seen)) → flat_opens i (map_among bytes seen)
text_opens bytes slice seen i same kept fits is = record {
  bytes = canonical_text (map_among bytes seen);
  there = is ∙ ap (λ (l : List ℕ). Some (canonical_text (map_among l seen))) same;
  within = omega (arith, kept.counted, fits);
  so = canonical_reads_back (map_among bytes seen) kept.sound;
}

module _ (bytes slice : List ℕ) (seen : Pairs) (stage result : Stage) (t : Transaction) (s : FlatSession) (view : session_of bytes seen stage ≡ s) (given : result ≡ stage) (is : result ≡ Open t) (session : IsSession bytes seen stage) where
  stands_open : IsOpen bytes seen t
  stands_open = subst (HoldsBy bytes seen) (sym given ∙ is) session.stands

  view_open : within (map_among bytes seen) (map_among bytes t.committed) t.has_changed ≡ s
  view_open = ap (session_of bytes seen) (sym is ∙ given) ∙ view

  -- without a change both maps are the same
  pub tied_unchanged : (d : DiskState) → t.has_changed ≡ false → FlatTied s d → FlatTied (resting (map_among bytes seen)) d
  tied_unchanged d not tie = tied_same s (resting (map_among bytes seen)) d (stands_open.same not ∙ ap (λ (u : FlatSession). (flat_state u).committed) view_open) (ap (λ (u : FlatSession). (flat_state u).is_broken) view_open) tie

  -- with one the map seen is the committed one now
  pub committed_state : t.has_changed ≡ true → flat_state (resting (map_among bytes seen)) ≡ committed flat_kind (flat_state s)
  committed_state made =
      sym (ap (λ (b : Bool). committed flat_kind (flat_state (within (map_among bytes seen) (map_among bytes t.committed) b))) made)
      ∙ ap (λ (u : FlatSession). committed flat_kind (flat_state u)) view_open

  -- once the text of the map seen took the file's place
  pub tied_replaced : (d : DiskState) → slice ≡ bytes → t.has_changed ≡ true → ((i : Image) → d.leaves i → i ≡ Some (canonical_text (map_among slice seen))) → FlatTied (resting (map_among bytes seen)) d
  tied_replaced d same made only = record { leaves = λ sound i left. text_opens bytes slice seen i same session.kept (stands_open.fits made) (only i left) }

  -- and wherever that stops
  pub disk_replaced : (old new : DiskState) → slice ≡ bytes → t.has_changed ≡ true → FlatTied s old → MayReplace (canonical_text (map_among slice seen)) old new
      → OnDisk (flat_state s) (OpensEither flat_kind (flat_state s)) old new
  disk_replaced old new same made tie may = record {
    each = λ sound. record {
      each = λ i n left. let p = may.each.each i n left in
          (p.0, ⊎_elim (λ was. inl (tie.leaves sound i was)) (λ now. inr (subst (flat_opens i) (ap (λ (u : FlatSession). (flat_state u).seen) view_open) (text_opens bytes slice seen i same session.kept (stands_open.fits made) now))) p.1);
    };
    mark = may.mark;
  }

  -- the committed pairs, among the bytes of before
  pub back_kept : (cut : List ℕ) → cut ≡ take t.end bytes → IsKept cut t.committed × (map_among cut t.committed ≡ map_among bytes t.committed)
  back_kept cut shorter = (
    record {
      sound = subst IsDbMap (sym map_same) stands_open.committed.sound;
      ends = subst (λ (n : ℕ). All (EndsBy n) t.committed.entries.items) (omega (arith, ap length shorter, length-take-le t.end bytes stands_open.before)) stands_open.ends;
      counted = stands_open.committed.counted ∙ ap (λ (m : Map). length (canonical_text m)) (sym map_same);
      short = omega (arith, ap length shorter, length-take-le t.end bytes stands_open.before, stands_open.before, stands_open.committed.short);
      small = stands_open.committed.small;
    },
    map_same,
  )
    where
      map_same : map_among cut t.committed ≡ map_among bytes t.committed
      map_same = sym (pairs_below cut bytes t.end t.committed.entries.items (sym shorter ∙ sym (take_all t.end cut (omega (arith, ap length shorter, length-take-le t.end bytes stands_open.before)))) stands_open.ends)

  pub back_state : (cut : List ℕ) → cut ≡ take t.end bytes → flat_state (resting (map_among cut t.committed)) ≡ aborted (flat_state s)
  back_state cut shorter = ap (λ (m : Map). flat_state (resting m)) (back_kept cut shorter).1 ∙ ap (λ (u : FlatSession). aborted (flat_state u)) view_open
