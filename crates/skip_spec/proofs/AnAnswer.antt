-- Verification has an answer for each file.
use Rattle.std.proofs.Common.{◌≡◌, ◌≢◌, ℕ, zero, suc, ◌+◌, ◌<◌, ◌≤◌, Bool, true, false, cond, eqb, List, [], ◌∷◌, length, Option, Some, None, refl, sym, ap, subst, ◌∙◌, inl, inr, arith, ◌⊎◌}
use Rattle.std.specs.Prelude.{◌||◌}
use Rattle.std.specs.Ordering.{nat_cmp, is_lt, ordering_reverse}
use Rattle.std.specs.Cmp.Lexicographic.{slice_cmp, nat_list_cmp_total}
use Rattle.std.specs.declared.cmp.Ordering.{Ordering}
use Rattle.std.specs.declared.cmp.Ordering.TheVariants.{Less, Equal, Greater}
use Rattle.std.proofs.lemmas.Bool.{cases_lt, cases_eq, eqb-true, ne_eqb, leb-true}
use Rattle.std.proofs.lemmas.List.{length-take}
use Rattle.base_bytes.specs.OrderedMap.{IsBelow}
use Rattle.base_bytes.specs.declared.flaw.Flaw.{Flaw}
use Rattle.base_bytes.specs.declared.flaw.Damage.{Damage}
use Rattle.skip_form.specs.declared.head.Kind.TheVariants.{Gone}
use Rattle.skip_form.specs.Fields.{pointer_in}
use Rattle.skip_form.specs.declared.head.Head.{Head}
use Rattle.skip_form.specs.Flaws.{head_flaw, head_in}
use Rattle.skip_form.proofs.HeadLemmas.{head_inside}
use Rattle.skip_spec.proofs.BeforeEnd.{same_head}
use Rattle.skip_spec.specs.Records.{key_in}
use Rattle.skip_spec.specs.Rows.{IsAmong}
use Rattle.skip_spec.specs.Chain.{Entry, entry_at}
use Rattle.skip_spec.specs.Successor.{is_of, successor_under}
use Rattle.skip_spec.specs.FirstFlaw.{unless, first_some, end_of, is_among, is_below, before_end, at_place, row_flaw, front_checks, front_flaw, dummy_flaw, delete_checks, delete_flaw, pointer_checks, pointer_flaw, pointer_under_end, way_checks, way_flaw, live_checks, live_flaw, end_flaw, next_checks, next_flaw, successor, latest, latest_key, RightRows, RightLive, InChain, FromDummy, FromRows, FirstFlaw}

-- ---- checks in a row

abbrev pub AllNone : List (Option Damage) → Type 0
AllNone [] = Unit {0}
AllNone (x ∷ xs) = (x ≡ None) × AllNone xs

pub all_none : (xs : List (Option Damage)) → first_some xs ≡ None → AllNone xs
all_none [] e = tt
all_none (None ∷ xs) e = (refl, all_none xs e)
all_none (Some d ∷ xs) e = absurd (let h : Some d ≡ None = e in cc)

pub holds : (b : Bool) (at : ℕ) (f : Flaw) → unless b at f ≡ None → b ≡ true
holds true at f e = refl
holds false at f e = absurd cc

pub otherwise : {A : Type 0} (b : Bool) (x y : A) → b ≡ false → cond b x y ≡ y
otherwise false x y e = refl
otherwise true x y e = absurd cc

pub or_some : (p q : Bool) → (p || q) ≡ true → (p ≡ true) ⊎ (q ≡ true)
or_some true q e = inl refl
or_some false q e = inr e

pub among : (starts : List ℕ) (v : ℕ) → is_among starts v ≡ true → IsAmong starts v
among [] v e = absurd cc
among (s ∷ ss) v e = elim (or_some (eqb s v) (is_among ss v) e) [ inl same ↦ inl (eqb-true s v same) | inr more ↦ inr (among ss v more) ]

-- ---- rows

pub no_row_flaw : (file : List ℕ) (at : ℕ) → row_flaw file at ≡ None → head_flaw (before_end file) at ≡ None
unfolding row_flaw
no_row_flaw file at e = nothing (head_flaw (before_end file) at) e
  where
    nothing : (x : Option Flaw) → at_place at x ≡ None → x ≡ None
    nothing None e = refl
    nothing (Some f) e = absurd (let h : Some (record { at = at; check = f }) ≡ None = e in cc)

pub row_fits : (file : List ℕ) (at : ℕ) → row_flaw file at ≡ None → at + (head_in file at).size ≤ end_of file
row_fits file at e =
    let fits = head_inside (before_end file) at (no_row_flaw file at e) in
    let same = same_head file (end_of file) at (omega (arith, fits)) in
    omega (arith, subst (λ (h : Head). at + h.size ≤ length (before_end file)) same fits, length-take (end_of file) file)

-- right rows from here on, up to a flaw or to the end
abbrev RowsFrom : List ℕ → ℕ → Type 0
RowsFrom file from = (starts : List ℕ) × (at : ℕ) × RightRows file from starts at × (((at < end_of file) × (row_flaw file at ≢ None)) ⊎ (at ≡ end_of file))

rows_step : (file : List ℕ) (from : ℕ) → from ≤ end_of file → (from < end_of file → from + (head_in file from).size ≤ end_of file → RowsFrom file (from + (head_in file from).size)) → RowsFrom file from
rows_step file from le more = elim (cases_lt from (end_of file)) [
  | inr past ↦ ([], from, refl, inr (omega arith))
  | inl lt ↦ decide lt (row_flaw file from) refl
]
  where
    decide : from < end_of file → (x : Option Damage) → row_flaw file from ≡ x → RowsFrom file from
    decide lt (Some d) e = ([], from, refl, inl (lt, λ none. absurd (let h : Some d ≡ None = sym e ∙ none in cc)))
    decide lt None e = let rest = more lt (row_fits file from e) in (from ∷ rest.0, rest.1, (refl, e, lt, rest.2), rest.3)

rows_from : (file : List ℕ) (n from : ℕ) → from ≤ end_of file → end_of file ≤ from + n → RowsFrom file from
rows_from file zero from le near = rows_step file from le (λ lt fits. absurd (omega (arith, lt, near)))
rows_from file (suc n) from le near = rows_step file from le (λ lt fits. rows_from file n (from + (head_in file from).size) fits (omega (arith, near)))

-- ---- live records

less : (o : Ordering) → is_lt o ≡ true → o ≡ Less
less Less e = refl
less Equal e = absurd cc
less Greater e = absurd cc

pub below : (a b : List ℕ) → is_below a b ≡ true → IsBelow a b
below a b e = less (slice_cmp nat_cmp a b) e

not_below : (t : Bool) → (t ≡ true → ⊥) → t ≡ false
not_below true no_way = absurd (no_way refl)
not_below false no_way = refl

below_itself : (k : List ℕ) → is_below k k ≡ false
below_itself k = not_below (is_below k k) (λ e.
    let same = below k k e in
    let turned = nat_list_cmp_total.antisymm k k in
    let reversed = ap ordering_reverse same in
    cc)

-- how many starts have a greater key
abbrev pub rank : List ℕ → List ℕ → List ℕ → ℕ
rank file key [] = 0
rank file key (s ∷ ss) = cond (is_below key (key_in file s)) (suc (rank file key ss)) (rank file key ss)

no_more : (p q : Bool) (m n : ℕ) → (p ≡ true → q ≡ true) → m ≤ n → cond p (suc m) m ≤ cond q (suc n) n
no_more true true m n h le = omega arith
no_more true false m n h le = absurd (let e = h refl in cc)
no_more false true m n h le = omega arith
no_more false false m n h le = le

fewer : (p q : Bool) (m n : ℕ) → (p ≡ true → q ≡ true) → m < n → cond p (suc m) m < cond q (suc n) n
fewer true true m n h lt = omega arith
fewer true false m n h lt = absurd (let e = h refl in cc)
fewer false true m n h lt = omega arith
fewer false false m n h lt = lt

one_fewer : (p q : Bool) (m n : ℕ) → p ≡ false → q ≡ true → m ≤ n → cond p (suc m) m < cond q (suc n) n
one_fewer true q m n e f le = absurd cc
one_fewer false false m n e f le = absurd cc
one_fewer false true m n e f le = omega arith

then_below : (k l j : List ℕ) → IsBelow k l → is_below l j ≡ true → is_below k j ≡ true
then_below k l j p e = ap is_lt (nat_list_cmp_total.trans k l j p (below l j e))

rank_le : (file k l : List ℕ) (ss : List ℕ) → IsBelow k l → rank file l ss ≤ rank file k ss
rank_le file k l [] p = omega arith
rank_le file k l (s ∷ ss) p = no_more (is_below l (key_in file s)) (is_below k (key_in file s)) _ _ (then_below k l (key_in file s) p) (rank_le file k l ss p)

pub rank_lt : (file k : List ℕ) (ss : List ℕ) (v : ℕ) → IsBelow k (key_in file v) → IsAmong ss v → rank file (key_in file v) ss < rank file k ss
rank_lt file k [] v p m = absurd m
rank_lt file k (s ∷ ss) v p (inl e) =
    one_fewer (is_below (key_in file v) (key_in file s)) (is_below k (key_in file s)) _ _
    (subst (λ (x : ℕ). is_below (key_in file v) (key_in file x) ≡ false) (sym e) (below_itself (key_in file v)))
    (subst (λ (x : ℕ). is_below k (key_in file x) ≡ true) (sym e) (ap is_lt p))
    (rank_le file k (key_in file v) ss p)
rank_lt file k (s ∷ ss) v p (inr m) = fewer (is_below (key_in file v) (key_in file s)) (is_below k (key_in file s)) _ _ (then_below k (key_in file v) (key_in file s) p) (rank_lt file k ss v p m)

past_delete : (file starts : List ℕ) (at : ℕ) → delete_flaw file starts at ≡ None → pointer_in file at 0 ≢ 0 → IsAmong starts (pointer_in file at 0)
unfolding delete_flaw
past_delete file starts at e some =
    let all = all_none (delete_checks file starts at) e in
    elim (or_some (eqb (pointer_in file at 0) 0) (is_among starts (pointer_in file at 0)) (holds _ at _ all.1.1.0)) [
      | inl z ↦ absurd (some (eqb-true _ _ z))
      | inr m ↦ among starts (pointer_in file at 0) m
    ]

-- where a pointer leads, by the tests of whether it is the end and whether a delete record stands there
leads : (file starts : List ℕ) (at pointer : ℕ) (ends gone : Bool) → eqb pointer 0 ≡ ends → is_of file pointer Gone ≡ gone → pointer_flaw file starts at pointer ≡ None → cond ends 0 (cond gone (pointer_in file pointer 0) pointer) ≢ 0 → IsAmong starts (cond ends 0 (cond gone (pointer_in file pointer 0) pointer))
leads file starts at pointer true gone e g flaw some = absurd (some refl)
leads file starts at pointer false gone e g flaw some =
    let all = all_none (pointer_checks file starts at pointer) (sym (otherwise (eqb pointer 0) None (first_some (pointer_checks file starts at pointer)) e) ∙ flaw) in
    to gone g some (among starts pointer (holds _ at _ all.0)) all.1.1.0
  where
    to : (gone : Bool) → is_of file pointer Gone ≡ gone → cond gone (pointer_in file pointer 0) pointer ≢ 0 → IsAmong starts pointer → cond (is_of file pointer Gone) (delete_flaw file starts pointer) None ≡ None → IsAmong starts (cond gone (pointer_in file pointer 0) pointer)
    to false g some m d = m
    to true g some m d = past_delete file starts pointer (subst (λ (t : Bool). cond t (delete_flaw file starts pointer) None ≡ None) g d) some

pub next_is : (file starts : List ℕ) (at : ℕ) → way_flaw file starts at ≡ None → successor file at ≢ 0 → IsAmong starts (successor file at)
unfolding way_flaw successor_under
next_is file starts at e some =
    let all = all_none (way_checks file starts at) e in
    let pointer = pointer_under_end file at in
    leads file starts at pointer (eqb pointer 0) (is_of file pointer Gone) refl refl all.1.0 some

pub live_below : (file : List ℕ) (passed : List Entry) (at : ℕ) → live_flaw file passed at ≡ None → IsBelow (latest_key passed) (key_in file at)
unfolding live_flaw
live_below file passed at e = let all = all_none (live_checks file passed at) e in below (latest_key passed) (key_in file at) (holds _ at _ all.1.1.1.0)

-- a right step to a live record leaves fewer starts with a greater key
pub next_falls : (file starts : List ℕ) (passed : List Entry) → next_flaw file starts passed ≡ None → successor file (latest passed) ≢ 0 → rank file (key_in file (successor file (latest passed))) starts < rank file (latest_key passed) starts
unfolding next_flaw
next_falls file starts passed e some =
    let all = all_none (next_checks file starts passed) e in
    let next = successor file (latest passed) in
    let live = sym (otherwise (eqb next 0) (end_flaw file passed) (live_flaw file passed next) (ne_eqb next 0 some)) ∙ all.1.0 in
    rank_lt file (latest_key passed) starts next (live_below file passed next live) (next_is file starts (latest passed) all.0 some)

abbrev ChainFrom : List ℕ → List ℕ → Type 0
ChainFrom file starts = (answer : Option Damage) × InChain file starts answer

chain_step : (file starts : List ℕ) (passed : List Entry) → RightLive file starts passed → ((e : Entry) → RightLive file starts (e ∷ passed) → rank file e.key starts < rank file (latest_key passed) starts → ChainFrom file starts) → ChainFrom file starts
chain_step file starts passed r more = decide (next_flaw file starts passed) refl
  where
    decide : (x : Option Damage) → next_flaw file starts passed ≡ x → ChainFrom file starts
    decide (Some d) e = (Some d, (passed, r, e, inl (λ h. absurd cc)))
    decide None e = elim (cases_eq (successor file (latest passed)) 0) [
      | inl z ↦ (None, (passed, r, e, inr z))
      | inr some ↦ more (entry_at file (successor file (latest passed))) (e, some, refl, r) (next_falls file starts passed e some)
    ]

chain_from : (file starts : List ℕ) (n : ℕ) (passed : List Entry) → RightLive file starts passed → rank file (latest_key passed) starts ≤ n → ChainFrom file starts
chain_from file starts zero passed r le = chain_step file starts passed r (λ e s lt. absurd (omega (arith, lt, le)))
chain_from file starts (suc n) passed r le = chain_step file starts passed r (λ e s lt. chain_from file starts n (e ∷ passed) s (omega (arith, lt, le)))

-- ---- the whole

from_dummy : (file starts : List ℕ) (x : Option Damage) → dummy_flaw file ≡ x → (answer : Option Damage) × FromDummy file starts answer
from_dummy file starts (Some d) e = (Some d, inl (λ h. absurd cc, e))
from_dummy file starts None e =
    let chain = chain_from file starts (rank file [] starts) [] tt (omega arith) in
    (chain.0, inr (e, chain.1))

from_rows : (file : List ℕ) → 336 ≤ end_of file → (answer : Option Damage) × FromRows file answer
from_rows file least =
    let rows = rows_from file (end_of file) 336 least (omega arith) in
    elim rows.3 [
      | inl flaw ↦ (row_flaw file rows.1, (rows.0, rows.1, rows.2, inl (flaw.0, flaw.1, refl)))
      | inr ends ↦ let rest = from_dummy file rows.0 (dummy_flaw file) refl in (rest.0, (rows.0, rows.1, rows.2, inr (ends, rest.1)))
    ]

front_long : (file : List ℕ) → front_flaw file ≡ None → 336 ≤ end_of file
unfolding front_flaw
front_long file e = let all = all_none (front_checks file) e in leb-true 336 (end_of file) (holds _ 48 _ all.1.0)

from_front : (file : List ℕ) (x : Option Damage) → front_flaw file ≡ x → (answer : Option Damage) × FirstFlaw file answer
from_front file (Some d) e = (Some d, inl (λ h. absurd cc, e))
from_front file None e = let rest = from_rows file (front_long file e) in (rest.0, inr (e, rest.1))

pub first_flaw_some : (file : List ℕ) → (answer : Option Damage) × FirstFlaw file answer
first_flaw_some file = from_front file (front_flaw file) refl
