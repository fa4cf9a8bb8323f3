-- Lists of live records: where they begin, and which are on a level.
use Rattle.std.proofs.Common.{◌≡◌, ◌≢◌, ℕ, ◌<◌, ◌≤◌, Bool, cond, ltb, List, [], ◌∷◌, ◌++◌, map, refl, sym, ap, subst, ◌∙◌, inl, inr, ◌⊎◌, arith, append-nil}
use Rattle.std.specs.List.{AllByRecursion}
use Rattle.std.proofs.lemmas.List.Elements.{filter-append}
use Rattle.std.proofs.lemmas.Bool.{lt-ltb, le-ltb, cases_lt}
use Rattle.skip_spec.specs.Rows.{IsAmong}
use Rattle.skip_spec.specs.Chain.{Entry}
use Rattle.skip_spec.specs.Change.{first_at, last_at, heads_of}
use Rattle.skip_spec.specs.Opens.{on_level}

-- ---- offsets

-- where these records begin
abbrev pub ats : List Entry → List ℕ
ats es = map (λ e. e.at) es

pub among_both : (es fs : List Entry) (v : ℕ) → IsAmong (ats (es ++ fs)) v → IsAmong (ats es) v ⊎ IsAmong (ats fs) v
among_both [] fs v m = inr m
among_both (e ∷ es) fs v (inl is) = inl (inl is)
among_both (e ∷ es) fs v (inr m) = elim (among_both es fs v m) [ inl l ↦ inl (inr l) | inr r ↦ inr r ]

pub among_front : (es fs : List Entry) (v : ℕ) → IsAmong (ats es) v → IsAmong (ats (es ++ fs)) v
among_front (e ∷ es) fs v (inl is) = inl is
among_front (e ∷ es) fs v (inr m) = inr (among_front es fs v m)
among_front [] fs v m = absurd m

pub among_back : (es fs : List Entry) (v : ℕ) → IsAmong (ats fs) v → IsAmong (ats (es ++ fs)) v
among_back [] fs v m = m
among_back (e ∷ es) fs v m = inr (among_back es fs v m)

-- the last record of a run is the one it begins at, or is of the run
pub last_among : (at : ℕ) (es : List Entry) → IsAmong (at ∷ ats es) (last_at at es)
last_among at [] = inl refl
last_among at (e ∷ es) = inr (last_among e.at es)

pub last_more : (at : ℕ) (es : List Entry) (e : Entry) → last_at at (es ++ e ∷ []) ≡ e.at
last_more at [] e = refl
last_more at (f ∷ fs) e = last_more f.at fs e

pub first_in : (es : List Entry) → (first_at es ≡ 0) ⊎ IsAmong (ats es) (first_at es)
first_in [] = inl refl
first_in (e ∷ es) = inr (inl refl)

pub all_front : (P : Entry → Type 0) (es fs : List Entry) → AllByRecursion P (es ++ fs) → AllByRecursion P es
all_front P [] fs all = tt
all_front P (e ∷ es) fs all = (all.0, all_front P es fs all.1)

pub all_of_each : (P : ℕ → Type 0) (es : List Entry) → ((v : ℕ) → IsAmong (ats es) v → P v) → AllByRecursion (λ e. P e.at) es
all_of_each P [] all = tt
all_of_each P (e ∷ es) all = (all e.at (inl refl), all_of_each P es (λ v m. all v (inr m)))

pub each_of_all : (P : ℕ → Type 0) (es : List Entry) (v : ℕ) → AllByRecursion (λ e. P e.at) es → IsAmong (ats es) v → P v
each_of_all P [] v all m = absurd m
each_of_all P (e ∷ es) v all (inl is) = subst P is all.0
each_of_all P (e ∷ es) v all (inr m) = each_of_all P es v all.1 m

-- ---- lists without repetition

abbrev pub Different : List ℕ → Type 0
Different [] = Unit {0}
Different (x ∷ xs) = ((v : ℕ) → IsAmong xs v → v ≢ x) × Different xs

pub different_front : (front back : List Entry) (at : ℕ) → Different (at ∷ ats (front ++ back)) → Different (at ∷ ats front)
different_front [] back at d = ((λ v m. absurd m), record {})
different_front (e ∷ es) back at d = ((λ v m. d.0 v (among_front (e ∷ es) back v m)), different_front es back e.at d.1)

-- a record of the back is none of the front
pub apart_front : (front back : List Entry) (at v w : ℕ) → Different (at ∷ ats (front ++ back)) → IsAmong (ats back) v → IsAmong (at ∷ ats front) w → v ≢ w
apart_front [] back at v w d m (inl e) same = d.0 v m (same ∙ sym e)
apart_front [] back at v w d m (inr n) same = absurd n
apart_front (f ∷ fs) back at v w d m (inl e) same = d.0 v (among_back (f ∷ fs) back v m) (same ∙ sym e)
apart_front (f ∷ fs) back at v w d m (inr n) same = apart_front fs back f.at v w d.1 m n same

-- ---- the records on a level

abbrev taken : Bool → Entry → List Entry → List Entry
taken b e es = cond b (e ∷ es) es

pub on_level-append : (level : ℕ) (es fs : List Entry) → on_level level (es ++ fs) ≡ on_level level es ++ on_level level fs
on_level-append level es fs = filter-append (λ e. ltb level e.level) es fs

pub on_level-in : (level : ℕ) (e : Entry) (es : List Entry) → level < e.level → on_level level (e ∷ es) ≡ e ∷ on_level level es
on_level-in level e es lt = ap (λ (b : Bool). taken b e (on_level level es)) (lt-ltb level e.level lt)

pub on_level-out : (level : ℕ) (e : Entry) (es : List Entry) → e.level ≤ level → on_level level (e ∷ es) ≡ on_level level es
on_level-out level e es le = ap (λ (b : Bool). taken b e (on_level level es)) (le-ltb level e.level le)

-- one record more at the end
pub on_level-more : (level : ℕ) (es : List Entry) (e : Entry) → level < e.level → on_level level (es ++ e ∷ []) ≡ on_level level es ++ e ∷ []
on_level-more level es e lt = on_level-append level es (e ∷ []) ∙ ap (λ (fs : List Entry). on_level level es ++ fs) (on_level-in level e [] lt)

pub on_level-no_more : (level : ℕ) (es : List Entry) (e : Entry) → e.level ≤ level → on_level level (es ++ e ∷ []) ≡ on_level level es
on_level-no_more level es e le = on_level-append level es (e ∷ []) ∙ ap (λ (fs : List Entry). on_level level es ++ fs) (on_level-out level e [] le) ∙ append-nil (on_level level es)

-- all records have a level above 0
pub level_zero : (es : List Entry) → AllByRecursion (λ e. 1 ≤ e.level) es → on_level 0 es ≡ es
level_zero [] all = refl
level_zero (e ∷ es) all = on_level-in 0 e es (omega (arith, all.0)) ∙ ap (λ (l : List Entry). e ∷ l) (level_zero es all.1)

pub among_level : (level : ℕ) (es : List Entry) (v : ℕ) → IsAmong (ats (on_level level es)) v → IsAmong (ats es) v
among_level level [] v m = m
among_level level (e ∷ es) v m = elim (cases_lt level e.level) [
  | inl lt ↦ elim (subst (λ (l : List Entry). IsAmong (ats l) v) (on_level-in level e es lt) m) [ inl is ↦ inl is | inr n ↦ inr (among_level level es v n) ]
  | inr le ↦ inr (among_level level es v (subst (λ (l : List Entry). IsAmong (ats l) v) (on_level-out level e es le) m))
]

pub level_head : (level : ℕ) (es : List Entry) (v : ℕ) → IsAmong (64 ∷ ats (on_level level es)) v → IsAmong (heads_of es) v
level_head level es v (inl e) = inl e
level_head level es v (inr m) = inr (among_level level es v m)

pub different_level : (level : ℕ) (at : ℕ) (es : List Entry) → Different (at ∷ ats es) → Different (at ∷ ats (on_level level es))
different_level level at [] d = d
different_level level at (e ∷ es) d = elim (cases_lt level e.level) [
  | inl lt ↦ subst (λ (l : List Entry). Different (at ∷ ats l)) (sym (on_level-in level e es lt)) ((λ v m. elim m [ inl is ↦ d.0 v (inl is) | inr n ↦ d.0 v (inr (among_level level es v n)) ]), different_level level e.at es d.1)
  | inr le ↦ subst (λ (l : List Entry). Different (at ∷ ats l)) (sym (on_level-out level e es le)) (different_level level at es ((λ v m. d.0 v (inr m)), d.1.1))
]

-- the front of a list on a level, and its back
module _ (level : ℕ) (front back : List Entry) where
  pub in_front : (v : ℕ) → IsAmong (64 ∷ ats (on_level level front)) v → IsAmong (64 ∷ ats (on_level level (front ++ back))) v
  in_front v (inl e) = inl e
  in_front v (inr m) = inr (subst (λ (l : List Entry). IsAmong (ats l) v) (sym (on_level-append level front back)) (among_front (on_level level front) (on_level level back) v m))

  pub in_back : (v : ℕ) → IsAmong (ats (on_level level back)) v → IsAmong (64 ∷ ats (on_level level (front ++ back))) v
  in_back v m = inr (subst (λ (l : List Entry). IsAmong (ats l) v) (sym (on_level-append level front back)) (among_back (on_level level front) (on_level level back) v m))
