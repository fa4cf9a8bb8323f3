-- Transactions are made one after another.
use Rattle.std.proofs.Common.{◌≡◌, ◌∙◌, ⊎_elim, ℕ, ◌≤◌, Bool, false, List, [], ◌∷◌, ◌++◌, Ok, length, refl, sym, ap, subst, arith, length-append}
use Rattle.std.proofs.lemmas.List.{take-append-le, take_all}
use Rattle.std.proofs.lemmas.List.Sums.{fold-append}
use Rattle.base_bytes.specs.OrderedMap.{Map}
use Rattle.base_bytes.specs.Transactions.{Transaction, after_change, after_transaction, after_transactions, after_first}
use Rattle.base_bytes.specs.declared.change.Change.{Change}
use Rattle.base_bytes.specs.declared.change.Change.TheVariants.{Put, Del}
use Rattle.base_devices.specs.CrashImages.{Image, GoesOn, LeavesOnly, IsMoment}
use Rattle.base_devices.proofs.Moments.{each_then}
use Rattle.db_core.specs.Calls.{OnDisk, OpensCommitted}
use Rattle.db_core.specs.Sessions.{DbKind, DbState, over, at_rest, begun, change_after, changes_after, committed, load_then}
use Rattle.db_core.specs.WholeTransactions.{MakesWhole, OpensWhole, run_after}
use Rattle.db_tool.specs.Doing.{ToolMoment}
use Rattle.db_exercise.specs.Rounds.{OpensAfterSome, MakesAll}
use Rattle.db_exercise.proofs.RefusalLemmas.{change_sound}

-- ---- the session after a transaction

change_seen : (kind : DbKind) (s : DbState) (change : Change) → (change_after kind s change).seen ≡ after_change s.seen change
change_seen kind s (Put word key value) = refl
change_seen kind s (Del key) = refl

changes_seen : (kind : DbKind) (s : DbState) (changes : Transaction) → (changes_after kind s changes).seen ≡ after_transaction s.seen changes
changes_seen kind s [] = refl
changes_seen kind s (x ∷ rest) = changes_seen kind (change_after kind s x) rest ∙ ap (λ (m : Map). after_transaction m rest) (change_seen kind s x)

changes_sound : (kind : DbKind) (s : DbState) (changes : Transaction) → (changes_after kind s changes).is_broken ≡ s.is_broken
changes_sound kind s [] = refl
changes_sound kind s (x ∷ rest) = changes_sound kind (change_after kind s x) rest ∙ change_sound kind s x

-- it is at rest
rests_after : (kind : DbKind) (m : Map) (load : ℕ) (changes : Transaction) → run_after kind (at_rest m load) changes ≡ at_rest (after_transaction m changes) (run_after kind (at_rest m load) changes).load
rests_after kind m load changes =
    let t : DbState = changes_after kind (begun (at_rest m load)) changes in
    ap (λ (b : Bool). record (committed kind t) { is_broken = b }) (changes_sound kind (begun (at_rest m load)) changes)
    ∙ ap (λ (n : Map). at_rest n (load_then kind t)) (changes_seen kind (begun (at_rest m load)) changes)

-- ---- the map after the first few

pub after_within : (count : ℕ) (m : Map) (ts more : List Transaction) → count ≤ length ts → after_first count m (ts ++ more) ≡ after_first count m ts
after_within count m ts more within = ap (after_transactions m) (take-append-le count ts more within)

pub after_all : (m : Map) (ts : List Transaction) → after_first (length ts) m ts ≡ after_transactions m ts
after_all m ts = ap (after_transactions m) (take_all (length ts) ts (omega arith))

after_more : (m : Map) (ts : List Transaction) (t : Transaction) → after_transactions m (ts ++ (t ∷ [])) ≡ after_transaction (after_transactions m ts) t
after_more m ts t = fold-append after_transaction m ts (t ∷ [])

opens_wider : (kind : DbKind) (m : Map) (ts more : List Transaction) (c : Image) → OpensAfterSome kind m ts c → OpensAfterSome kind m (ts ++ more) c
opens_wider kind m ts more c some = record {
  count = some.count;
  within = omega (arith, some.within, length-append ts more);
  holds = subst (λ (n : Map). kind.opens c n) (sym (after_within some.count m ts more some.within)) some.holds;
}

opens_all : (kind : DbKind) (m : Map) (ts : List Transaction) (c : Image) → kind.opens c (after_transactions m ts) → OpensAfterSome kind m ts c
opens_all kind m ts c opens = record { count = length ts; within = omega arith; holds = subst (λ (n : Map). kind.opens c n) (sym (after_all m ts)) opens }

-- ---- none, and one more

pub makes_none : (kind : DbKind) (t : ToolMoment) → IsMoment t.host.disk → t.session ≡ at_rest t.session.committed t.session.load
    → ((c : Image) → t.host.disk.leaves c → kind.opens c t.session.committed) → MakesAll kind [] t t
makes_none kind t is rests opens = record {
  rests = rests;
  each = record { each = λ c n left. let now = is.now c n left in (now.1, opens_all kind t.session.committed [] c (opens c now.0)) };
  mark = refl;
  streams = refl;
  in_place = λ _. refl;
  faults = refl;
  same = λ _. refl;
  idle = λ _ _. record { fresh = refl; written = refl; publishes = refl };
}

module _ (kind : DbKind) (ts : List Transaction) (t : Transaction) (old mid new : ToolMoment) (first : MakesAll kind ts old mid) (om : GoesOn old.host.disk mid.host.disk) (mn : GoesOn mid.host.disk new.host.disk) where
  abbrev m : Map
  m = old.session.committed

  pub sound : mid.session.is_broken ≡ false
  sound = ap (λ (s : DbState). s.is_broken) first.rests

  map_committed : mid.session.committed ≡ after_transactions m ts
  map_committed = ap (λ (s : DbState). s.committed) first.rests

  map_seen : mid.session.seen ≡ after_transactions m ts
  map_seen = ap (λ (s : DbState). s.seen) first.rests

  -- each image is from before the next one, or also from after it
  pub each_kept : OnDisk mid.session (OpensCommitted kind mid.session) mid.host.disk new.host.disk → LeavesOnly old.host.disk new.host.disk (λ c n. (n ≡ old.host.disk.mark) × OpensAfterSome kind m ts c)
  each_kept kept = each_then old.host.disk mid.host.disk new.host.disk _ om mn first.each (record {
    each = λ c n left.
        let p = (kept.each sound).each c n left in
        (p.0 ∙ first.mark, opens_all kind m ts c (subst (λ (x : Map). kind.opens c x) map_committed p.1));
  })

  pub each_whole : OnDisk mid.session (OpensWhole kind t mid.session) mid.host.disk new.host.disk → LeavesOnly old.host.disk new.host.disk (λ c n. (n ≡ old.host.disk.mark) × OpensAfterSome kind m (ts ++ (t ∷ [])) c)
  each_whole whole = each_then old.host.disk mid.host.disk new.host.disk _ om mn
      (record { each = λ c n left. let p = first.each.each c n left in (p.0, opens_wider kind m ts (t ∷ []) c p.1) })
      (record {
        each = λ c n left.
            let p = (whole.each sound).each c n left in (
              p.0 ∙ first.mark,
              ⊎_elim
                  (λ opens. opens_wider kind m ts (t ∷ []) c (opens_all kind m ts c (subst (λ (x : Map). kind.opens c x) map_committed opens)))
                  (λ opens. opens_all kind m (ts ++ (t ∷ [])) c (subst (λ (x : Map). kind.opens c x) (ap (λ (x : Map). after_transaction x t) map_seen ∙ sym (after_more m ts t)) opens))
                  p.1,
            );
      })

  abbrev after : DbState
  after = run_after kind (at_rest (after_transactions m ts) mid.session.load) t

  pub makes_more : (v : Unit {0}) → new.host.streams ≡ mid.host.streams → MakesWhole {T = Unit {0}} kind t (over mid.host.disk mid.session) (over new.host.disk new.session) (Ok v) → MakesAll kind (ts ++ (t ∷ [])) old new
  makes_more v streams whole =
      let is : new.session ≡ after = whole.done ∙ ap (λ (s : DbState). run_after kind s t) first.rests in
      record {
        rests = is ∙ rests_after kind (after_transactions m ts) mid.session.load t ∙ ap (λ (n : Map). at_rest n after.load) (sym (after_more m ts t))
            ∙ ap (λ (n : ℕ). at_rest (after_transactions m (ts ++ (t ∷ []))) n) (sym (ap (λ (s : DbState). s.load) is));
        each = each_whole whole.disk;
        mark = whole.disk.mark ∙ first.mark;
        streams = streams ∙ first.streams;
        in_place = λ works. whole.in_place works ∙ first.in_place works;
        faults = whole.cause.kept ∙ first.faults;
        same = λ none. absurd (omega (arith, none, length-append ts (t ∷ [])));
        idle = λ none _. absurd (omega (arith, none, length-append ts (t ∷ [])));
      }
