-- How the calls of a session follow one another.
use Rattle.std.proofs.Common.{◌≡◌, ◌⊎◌, inl, inr, ⊎_elim, Bool, ℕ, ◌+◌, ◌<◌, List, [], ◌∷◌, Option, None, false, true, Some, Result, Ok, Err, arith, length, drop, get_or, refl, sym, ◌∙◌, ap, subst}
use Rattle.std.specs.Prelude.{if◌then◌else◌, IsErrOf}
use Rattle.std.proofs.lemmas.List.{drop_more}
use Rattle.std.specs.Option.{option_or}
use Rattle.base_devices.specs.CrashImages.{Image, DiskState, GoesOn}
use Rattle.base_bytes.specs.OrderedMap.{Map}
use Rattle.base_bytes.specs.Transactions.{after_change, after_transaction}
use Rattle.base_devices.proofs.Moments.{each_then}
use Rattle.base_devices.specs.Causes.{Rose, FaultHasCause}
use Rattle.db_core.specs.Sessions.{DbKind, DbState, over, aborted, begun, committed, change_after, changes_after}
use Rattle.db_core.specs.Refusals.{MayAnswer, IsAfterRefusal, LeavesDisk, broken_refusal, change_refusal, changes_refusal, IsDiskFault}
use Rattle.db_core.specs.Calls.{OnDisk, OpensCommitted, Commits}
use Rattle.db_core.specs.WholeTransactions.{MayEnd, InTransaction, GivesUp, IsAfterSomeChanges, MakesSome, MakesWhole, OpensWhole, run_refusal}
use Rattle.base_bytes.specs.declared.change.Change.{Change}
use Rattle.base_bytes.specs.declared.change.Change.TheVariants.{Put, Del}
use Rattle.db_core.specs.declared.fault.DbFault.{DbFault}
use Rattle.db_core.specs.declared.fault.DbFault.TheVariants.{Broken, KeyEmpty, KeyTooLong, ValueTooLong, Full, NoMemory, DiskFault}

-- a call after others
pub on_then : (s t : DbState) (Q R : Image → Type 0) (a b c : DiskState) → GoesOn a b → GoesOn b c → t.is_broken ≡ false → ((i : Image) → R i → Q i)
    → OnDisk s Q a b → OnDisk t R b c → OnDisk s Q a c
on_then s t Q R a b c ab bc whole implies first second = record {
  each = λ sound. each_then a b c (λ i n. (n ≡ a.mark) × Q i) ab bc (first.each sound) (record { each = λ i n left. let pair = (second.each whole).each i n left in (pair.0 ∙ first.mark, implies i pair.1) });
  mark = second.mark ∙ first.mark;
}

-- a change stays over the same committed map
pub change_stays : (kind : DbKind) (s : DbState) (change : Change) → aborted (change_after kind s change) ≡ aborted s
change_stays kind s (Put word key value) = refl
change_stays kind s (Del key) = refl

pub change_open : (kind : DbKind) (s : DbState) (change : Change) → (change_after kind s change).in_transaction ≡ s.in_transaction
change_open kind s (Put word key value) = refl
change_open kind s (Del key) = refl

-- the refusal of the first change is that of the list
pub may_end : (owed later : Option DbFault) (fault : DbFault) → MayAnswer owed fault → MayEnd (option_or owed later) fault
may_end owed later NoMemory p = tt
may_end owed later DiskFault p = tt
may_end owed later Broken p = ap (λ (o : Option DbFault). option_or o later) p
may_end owed later KeyEmpty p = ap (λ (o : Option DbFault). option_or o later) p
may_end owed later (KeyTooLong n) p = ap (λ (o : Option DbFault). option_or o later) p
may_end owed later (ValueTooLong n) p = ap (λ (o : Option DbFault). option_or o later) p
may_end owed later (Full n) p = ap (λ (o : Option DbFault). option_or o later) p

-- after a refusal within a transaction
pub after_within : (start now new : DbState) (fault : DbFault) → InTransaction start now → IsAfterRefusal fault now new → IsAfterSomeChanges fault start new
after_within start now new DiskFault over p = inl (tt, p.0, p.1)
after_within start now new fault over p = inr (λ never. never, subst (λ (s : DbState). InTransaction start s) (sym p) over)

pub refusal_at : (kind : DbKind) (s : DbState) (changes : List Change) (i : ℕ) (x : Change) → i < length changes → x ≡ get_or changes i x
    → changes_refusal kind s (drop i changes) ≡ option_or (change_refusal kind s x) (changes_refusal kind (change_after kind s x) (drop (i + 1) changes))
refusal_at kind s changes i x within is =
    ap (changes_refusal kind s) (drop_more changes i x within)
    ∙ ap (λ (y : Change). changes_refusal kind s (y ∷ drop (i + 1) changes)) (sym is)

-- where nothing is owed
pub none_owed : (fault : DbFault) → MayAnswer None fault → (fault ≡ NoMemory) ⊎ (fault ≡ DiskFault)
none_owed NoMemory p = inl refl
none_owed DiskFault p = inr refl
none_owed Broken p = absurd (cc p)
none_owed KeyEmpty p = absurd (cc p)
none_owed (KeyTooLong n) p = absurd (cc p)
none_owed (ValueTooLong n) p = absurd (cc p)
none_owed (Full n) p = absurd (cc p)

pub on_weaker : (s t : DbState) (Q R : Image → Type 0) (a b : DiskState) → (s.is_broken ≡ false → t.is_broken ≡ false) → ((i : Image) → R i → Q i) → OnDisk t R a b → OnDisk s Q a b
on_weaker s t Q R a b whole implies on = record {
  each = λ sound. record { each = λ i n left. let pair = (on.each (whole sound)).each i n left in (pair.0, implies i pair.1) };
  mark = on.mark;
}

change_seen : (kind : DbKind) (s : DbState) (change : Change) → (change_after kind s change).seen ≡ after_change s.seen (change)
change_seen kind s (Put word key value) = refl
change_seen kind s (Del key) = refl

changes_seen : (kind : DbKind) (s : DbState) (changes : List Change) → (changes_after kind s changes).seen ≡ after_transaction s.seen changes
changes_seen kind s [] = refl
changes_seen kind s (x ∷ rest) = changes_seen kind (change_after kind s x) rest ∙ ap (λ (m : Map). after_transaction m rest) (change_seen kind s x)

-- what stands in a session that is whole after a refusal
pub committed_within : (start now : DbState) (fault : DbFault) → IsAfterRefusal fault start now → now.is_broken ≡ false → now.committed ≡ start.committed
committed_within start now DiskFault p whole = absurd (cc (p.0, whole))
committed_within start now fault p whole = ap (λ (s : DbState). s.committed) p

-- what the changes of a transaction leave
pub begun_disk : (kind : DbKind) (old first : DbState) (a b : DiskState) → first ≡ begun old → first.is_broken ≡ false → OnDisk first (λ i. kind.opens i first.committed) a b → OnDisk old (λ i. kind.opens i old.committed) a b
begun_disk kind old first a b start sound on =
    on_weaker old first (λ i. kind.opens i old.committed) (λ i. kind.opens i first.committed) a b (λ _. sound) (λ i p. subst (λ (m : Map). kind.opens i m) (ap (λ (s : DbState). s.committed) start) p) on

-- a whole transaction
pub whole_disk : (kind : DbKind) (old first last : DbState) (changes : List Change) (a b c : DiskState) → first ≡ begun old → first.is_broken ≡ false → last ≡ changes_after kind first changes → InTransaction first last
    → GoesOn a b → GoesOn b c → OnDisk first (λ i. kind.opens i first.committed) a b → OnDisk last (λ i. kind.opens i last.committed ⊎ kind.opens i last.seen) b c
    → OnDisk old (λ i. kind.opens i old.committed ⊎ kind.opens i (after_transaction old.seen changes)) a c
whole_disk kind old first last changes a b c start sound made within ab bc before after =
    let from : first.committed ≡ old.committed = ap (λ (s : DbState). s.committed) start in
    let same : last.committed ≡ old.committed = ap (λ (s : DbState). s.committed) within.base ∙ from in
    let whole : last.is_broken ≡ false = ap (λ (s : DbState). s.is_broken) within.base ∙ sound in
    let seen : last.seen ≡ after_transaction old.seen changes = ap (λ (s : DbState). s.seen) made ∙ changes_seen kind first changes ∙ ap (λ (s : DbState). after_transaction s.seen changes) start in
    let Q : Image → Type 0 = λ i. kind.opens i old.committed ⊎ kind.opens i (after_transaction old.seen changes) in
    on_then old last Q (λ i. kind.opens i last.committed ⊎ kind.opens i last.seen) a b c ab bc whole
    (λ i. ⊎_elim (λ p. inl (subst (λ (m : Map). kind.opens i m) same p)) (λ p. inr (subst (λ (m : Map). kind.opens i m) seen p)))
    (on_weaker old first Q (λ i. kind.opens i first.committed) a b (λ _. sound) (λ i p. inl (subst (λ (m : Map). kind.opens i m) from p)) before)
    after

-- and one that is given up
pub given_up_disk : (kind : DbKind) (old first mid new : DbState) (fault answer : DbFault) (a b c : DiskState) → first ≡ begun old → first.is_broken ≡ false → IsAfterSomeChanges fault first mid
    → GoesOn a b → GoesOn b c → OnDisk first (OpensCommitted kind first) a b → (mid.is_broken ≡ true → c ≡ b) → GivesUp kind fault answer (over b mid) (over c new) → OnDisk old (OpensCommitted kind old) a c
given_up_disk kind old first mid new fault answer a b c start sound (inl p) ab bc before still ends =
    subst (λ (d : DiskState). OnDisk old (OpensCommitted kind old) a d) (sym (still p.1)) (begun_disk kind old first a b start sound before)
given_up_disk kind old first mid new fault answer a b c start sound (inr p) ab bc before still ends =
    let whole : mid.is_broken ≡ false = ap (λ (s : DbState). s.is_broken) p.1.base ∙ sound in
    let same : mid.committed ≡ old.committed = ap (λ (s : DbState). s.committed) p.1.base ∙ ap (λ (s : DbState). s.committed) start in
    on_then old mid (OpensCommitted kind old) (OpensCommitted kind mid) a b c ab bc whole (λ i opens. subst (λ (m : Map). kind.opens i m) same opens) (begun_disk kind old first a b start sound before) ends.disk

-- how it ends after a refusal
after_same : (fault : DbFault) (old new : DbState) → (IsDiskFault fault → ⊥) → new ≡ old → IsAfterRefusal fault old new
after_same DiskFault old new not_disk p = absurd (not_disk tt)
after_same fault old new not_disk p = p

after_broken : (fault : DbFault) (old new : DbState) → IsDiskFault fault → (new.is_broken ≡ true) × (new.in_transaction ≡ false) → IsAfterRefusal fault old new
after_broken DiskFault old new is p = p
after_broken fault old new is p = absurd is

pub ended : (kind : DbKind) (old first mid new : DbState) (fault answer : DbFault) (owed : Option DbFault) (b c : DiskState) → first ≡ begun old → first.is_broken ≡ false → aborted old ≡ old → MayEnd owed fault → IsAfterSomeChanges fault first mid
    → GivesUp kind fault answer (over b mid) (over c new) → MayEnd owed answer × IsAfterRefusal answer old new
ended kind old first mid new fault answer owed b c start sound closed may (inl p) ends =
    let q = ends.broken p.1 in
    let same = q.1 in
    (subst (λ (f : DbFault). MayEnd owed f) (sym q.0) may, subst (λ (f : DbFault). IsAfterRefusal f old new) (sym q.0) (after_broken fault old new p.0 (ap (λ (s : DbState). s.is_broken) same ∙ p.1, ap (λ (s : DbState). s.in_transaction) same ∙ p.2)))
ended kind old first mid new fault answer owed b c start sound closed may (inr p) ends = ⊎_elim
    (λ q. (subst (λ (f : DbFault). MayEnd owed f) (sym q.0) may, subst (λ (f : DbFault). IsAfterRefusal f old new) (sym q.0) (after_same fault old new p.0 (q.1 ∙ p.1.base ∙ ap aborted start ∙ closed))))
    (λ q. (subst (λ (f : DbFault). MayEnd owed f) (sym q.0) tt, subst (λ (f : DbFault). IsAfterRefusal f old new) (sym q.0) (q.2, q.3)))
    (ends.back (ap (λ (s : DbState). s.is_broken) p.1.base ∙ sound))

-- the count over a transaction that is given up
pub ended_cause : {X : Type 0} (kind : DbKind) (first mid new : DbState) (fault answer : DbFault) (a b c : DiskState) → first.is_broken ≡ false → IsAfterSomeChanges fault first mid
    → FaultHasCause {T = X} IsDiskFault a.faults b.faults (Err fault) → GivesUp kind fault answer (over b mid) (over c new) → FaultHasCause {T = X} IsDiskFault a.faults c.faults (Err answer)
ended_cause {X = X} kind first mid new fault answer a b c sound (inl p) cause ends =
    let q = ends.broken p.1 in
    let same = q.2 in
    subst (λ (f : DbFault). FaultHasCause {T = X} IsDiskFault a.faults c.faults (Err f)) (sym q.0) (subst (λ (n : ℕ). FaultHasCause {T = X} IsDiskFault a.faults n (Err fault)) (sym same) cause)
ended_cause {X = X} kind first mid new fault answer a b c sound (inr p) cause ends =
    let stood : b.faults ≡ a.faults = ⊎_elim (λ failed. absurd (p.0 failed)) (λ same. same) cause.stood in
    ⊎_elim
    (λ q. subst (λ (f : DbFault). FaultHasCause {T = X} IsDiskFault a.faults c.faults (Err f)) (sym q.0) (subst (λ (n : ℕ). FaultHasCause {T = X} IsDiskFault a.faults n (Err fault)) (sym q.2) cause))
    (λ q. subst (λ (f : DbFault). FaultHasCause {T = X} IsDiskFault a.faults c.faults (Err f)) (sym q.0)
    (record { later = omega (arith, ends.later, stood); rose = λ _. subst (λ (n : ℕ). Rose n c.faults) stood q.1; stood = inl tt; kept = tt }))
    (ends.back (ap (λ (s : DbState). s.is_broken) p.1.base ∙ sound))

-- a session that could begin is not broken
unbroken : (b : Bool) → (if b then Some Broken else None) ≡ None → b ≡ false
unbroken true p = absurd (cc p)
unbroken false p = refl

pub sound_begun : (old first : DbState) → broken_refusal old ≡ None → first ≡ begun old → first.is_broken ≡ false
sound_begun old first owed start = ap (λ (s : DbState). s.is_broken) start ∙ unbroken old.is_broken owed

pub run_owed : (kind : DbKind) (old first : DbState) (changes : List Change) → broken_refusal old ≡ None → first ≡ begun old → changes_refusal kind first changes ≡ run_refusal kind old changes
run_owed kind old first changes owed start =
    ap (λ (s : DbState). changes_refusal kind s changes) start ∙ ap (λ (o : Option DbFault). option_or o (changes_refusal kind (begun old) changes)) (sym owed)

-- ---- a transaction as a whole

-- all changes are made, and the commit ends it
pub whole_made : {X D : Type 0} (state : D → DiskState) (kind : DbKind) (changes : List Change) (old first last new : DbState) (x y z : D) (r : Result X DbFault) → broken_refusal old ≡ None → first ≡ begun old
    → GoesOn (state x) (state y) → GoesOn (state y) (state z) → MakesSome kind changes (over (state x) first) (over (state y) last) (Ok (tt {0})) → Commits kind (over (state y) last) (over (state z) new) r → ¬ IsErrOf r NoMemory → LeavesDisk r y z
    → MakesWhole kind changes (over (state x) old) (over (state z) new) r
whole_made state kind changes old first last new x y z (Ok v) owed start ab bc some commit memory still = record {
  ok = sym (run_owed kind old first changes owed start) ∙ some.ok;
  done = commit.answer.done ∙ ap (committed kind) (some.done ∙ ap (λ (s : DbState). changes_after kind s changes) start);
  refused = tt;
  after = tt;
  disk = whole_disk kind old first last changes (state x) (state y) (state z) start (sound_begun old first owed start) some.done some.made ab bc some.disk commit.disk;
  given_up = tt;
  in_place = λ is. commit.in_place is ∙ some.in_place is;
  cause = record { later = omega (arith, commit.cause.kept, some.cause.kept); rose = tt; stood = tt; kept = commit.cause.kept ∙ some.cause.kept };
}
whole_made {X = X} state kind changes old first last new x y z (Err fault) owed start ab bc some commit memory still =
    let sound = sound_begun old first owed start in
    let whole : last.is_broken ≡ false = ap (λ (s : DbState). s.is_broken) some.made.base ∙ sound in
    let none : broken_refusal last ≡ None = ap (λ (b : Bool). if b then Some Broken else None) whole in
    let failed : fault ≡ DiskFault = ⊎_elim (λ (is : fault ≡ NoMemory). absurd (memory (ap (λ (f : DbFault). Err f) is))) (λ is. is) (none_owed fault (subst (λ (o : Option DbFault). MayAnswer o fault) none commit.answer.refused)) in
    record {
      ok = tt;
      done = tt;
      refused = subst (λ (f : DbFault). MayEnd (run_refusal kind old changes) f) (sym failed) tt;
      after = subst (λ (f : DbFault). IsAfterRefusal f old new) (sym failed) (subst (λ (f : DbFault). IsAfterRefusal f last new) failed commit.answer.after);
      disk = whole_disk kind old first last changes (state x) (state y) (state z) start sound some.done some.made ab bc some.disk commit.disk;
      given_up = ⊎_elim (λ failed. inl (failed, sym (run_owed kind old first changes owed start) ∙ some.ok)) (λ same. inr (subst (λ d. OnDisk old (OpensCommitted kind old) (state x) (state d)) (sym same) (begun_disk kind old first (state x) (state y) start sound some.disk))) still;
      in_place = λ is. commit.in_place is ∙ some.in_place is;
      cause = subst (λ (n : ℕ). FaultHasCause {T = X} IsDiskFault n (state z).faults (Err fault)) some.cause.kept commit.cause;
    }

-- a change is refused, and the transaction given up
pub whole_refused : {X : Type 0} (kind : DbKind) (changes : List Change) (old first mid new : DbState) (fault answer : DbFault) (a b c : DiskState) → broken_refusal old ≡ None → first ≡ begun old → aborted old ≡ old
    → GoesOn a b → GoesOn b c → MakesSome {T = X} kind changes (over a first) (over b mid) (Err fault) → (mid.is_broken ≡ true → c ≡ b) → GivesUp kind fault answer (over b mid) (over c new)
    → MakesWhole {T = X} kind changes (over a old) (over c new) (Err answer)
whole_refused {X = X} kind changes old first mid new fault answer a b c owed start closed ab bc some still ends =
    let sound = sound_begun old first owed start in
    let end = ended kind old first mid new fault answer (run_refusal kind old changes) b c start sound closed (subst (λ (o : Option DbFault). MayEnd o fault) (run_owed kind old first changes owed start) some.refused) some.after ends in
    let given_up = given_up_disk kind old first mid new fault answer a b c start sound some.after ab bc some.disk still ends in
    record {
      ok = tt;
      done = tt;
      refused = end.0;
      after = end.1;
      disk = on_weaker old old (OpensWhole kind changes old) (OpensCommitted kind old) a c (λ whole. whole) (λ i opens. inl opens) given_up;
      given_up = inr given_up;
      in_place = λ is. ends.in_place is ∙ some.in_place is;
      cause = ended_cause {X = X} kind first mid new fault answer a b c sound some.after some.cause ends;
    }
