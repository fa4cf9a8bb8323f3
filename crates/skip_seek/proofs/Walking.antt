-- One hop of a search on an upper level.
use Rattle.std.proofs.Common.{◌≡◌, ℕ, ◌+◌, ◌<◌, Bool, true, false, List, [], ◌∷◌, ◌++◌, length, refl, sym, ap, subst, ◌∙◌, inl, inr}
use Rattle.std.specs.List.{AllByRecursion}
use Rattle.std.specs.Ordering.{is_lt, is_eq}
use Rattle.std.specs.declared.cmp.Ordering.{Ordering}
use Rattle.std.specs.declared.cmp.Ordering.TheVariants.{Less, Equal, Greater}
use Rattle.std.proofs.lemmas.Bool.{cases_lt}
use Rattle.base_bytes.specs.OrderedMap.{IsBelow, BeginsAbove}
use Rattle.base_bytes.specs.Fields.{part}
use Rattle.skip_form.specs.Flaws.{head_in}
use Rattle.skip_spec.specs.Records.{key_in, head_size_of}
use Rattle.skip_spec.specs.Chain.{Entry, Chain, StandsAsEntry, pairs}
use Rattle.skip_spec.specs.Change.{first_at, last_at, last_key}
use Rattle.skip_spec.specs.Opens.{on_level}
use Rattle.skip_spec.specs.SearchBound.{count_above}
use Rattle.skip_spec.proofs.KindLemmas.{dummy_lengths}
use Rattle.skip_spec.proofs.Places.{dummy_stands}
use Rattle.skip_spec.proofs.Splice.{below_trans, below_not_same}
use Rattle.skip_spec.specs.Live.{Listed, Live}
use Rattle.skip_spec.specs.Place.{Place}
use Rattle.skip_spec.proofs.Lists.{on_level-in, on_level-out}
use Rattle.skip_seek.specs.Climbing.{comes_before}
use Rattle.skip_seek.specs.Searches.{levels_of}
use Rattle.skip_seek.proofs.Left.{count_not}

-- ---- the order of keys

pub is_less : (o : Ordering) → o ≡ Less → is_lt o ≡ true
is_less o e = ap is_lt e

pub less_is : (o : Ordering) → is_lt o ≡ true → o ≡ Less
less_is Less e = refl
less_is Equal e = absurd cc
less_is Greater e = absurd cc

pub equal_is : (o : Ordering) → is_eq o ≡ true → o ≡ Equal
equal_is Equal e = refl
equal_is Less e = absurd cc
equal_is Greater e = absurd cc

-- ---- the place of a key

above_not : (e key : List ℕ) → IsBelow key e → comes_before e key ≡ false
above_not e key above = go (comes_before e key) refl
  where
    go : (t : Bool) → comes_before e key ≡ t → comes_before e key ≡ false
    go false h = h
    go true h = absurd (below_not_same key key (below_trans key e key above (less_is _ h)) refl)

all_above : (b : List ℕ) (bound : ℕ) (starts : List ℕ) (at : ℕ) (k key : List ℕ) (rest : List Entry) → Chain b bound starts at k rest → BeginsAbove key (pairs rest) → AllByRecursion (λ e. IsBelow key e.key) rest
all_above b bound starts at k key [] ch above = record {}
all_above b bound starts at k key (e ∷ []) ch above = (above, record {})
all_above b bound starts at k key (e ∷ f ∷ fs) ch above = (above, all_above b bound starts e.at e.key key (f ∷ fs) ch.3 (below_trans key e.key f.key above ch.3.2))

-- what the pointer of a level leads to, among the records to come
pub data Next (level : ℕ) (rest : List Entry) (pointer : ℕ) : Type 0 where
  none : pointer ≡ 0 → on_level level rest ≡ [] → Next level rest pointer
  some : (skipped : List Entry) (e : Entry) (back : List Entry) → rest ≡ skipped ++ e ∷ back → on_level level skipped ≡ [] → level < e.level → pointer ≡ e.at → Next level rest pointer

pub next_on : (level pointer : ℕ) (rest : List Entry) → pointer ≡ first_at (on_level level rest) → Next level rest pointer
next_on level pointer [] l = none l refl
next_on level pointer (e ∷ es) l = elim (cases_lt level e.level) [
  | inl lt ↦ some [] e es refl refl lt (l ∙ ap first_at (on_level-in level e es lt))
  | inr le ↦ elim (next_on level pointer es (l ∙ ap first_at (on_level-out level e es le))) [
    | none z n ↦ none z (on_level-out level e es le ∙ n)
    | some skipped f back parts n lt is ↦ some (e ∷ skipped) f back (ap (λ (xs : List Entry). e ∷ xs) parts) (on_level-out level e skipped le ∙ n) lt is
  ]
]

pub none_counted : (level : ℕ) (es : List Entry) → on_level level es ≡ [] → count_above level (levels_of es) ≡ 0
none_counted level [] n = refl
none_counted level (e ∷ es) n = elim (cases_lt level e.level) [
  | inl lt ↦ absurd (let h : e ∷ on_level level es ≡ [] = sym (on_level-in level e es lt) ∙ n in cc)
  | inr le ↦ count_not level e.level (levels_of es) le ∙ none_counted level es (sym (on_level-out level e es le) ∙ n)
]

pub levels-append : (es fs : List Entry) → levels_of (es ++ fs) ≡ levels_of es ++ levels_of fs
levels-append [] fs = refl
levels-append (e ∷ es) fs = ap (λ (xs : List ℕ). e.level ∷ xs) (levels-append es fs)

pub last-append : (at : ℕ) (es : List Entry) (e : Entry) → last_at at (es ++ e ∷ []) ≡ e.at
last-append at [] e = refl
last-append at (f ∷ fs) e = last-append f.at fs e

-- the split of two splits of one list
pub data Split (front back skipped : List Entry) (e : Entry) (after : List Entry) : Type 0 where
  inside : (more : List Entry) → front ≡ skipped ++ e ∷ more → after ≡ more ++ back → Split front back skipped e after
  beyond : (more : List Entry) → skipped ≡ front ++ more → back ≡ more ++ e ∷ after → Split front back skipped e after

cons_same : (a b : Entry) (xs ys : List Entry) → a ∷ xs ≡ b ∷ ys → (a ≡ b) × (xs ≡ ys)
cons_same a b xs ys e = let h : a ≡ b = cc in let t : xs ≡ ys = cc in (h, t)

pub split_two : (front back skipped : List Entry) (e : Entry) (after : List Entry) → front ++ back ≡ skipped ++ e ∷ after → Split front back skipped e after
split_two [] back skipped e after same = beyond skipped refl same
split_two (f ∷ fs) back [] e after same = let c = cons_same f e (fs ++ back) after same in inside fs (let h = c.0 in λ i. h i ∷ fs) (sym c.1)
split_two (f ∷ fs) back (s ∷ ss) e after same =
    let c = cons_same f s (fs ++ back) (ss ++ e ∷ after) same in
    elim (split_two fs back ss e after c.1) [
      | inside more p q ↦ inside more (let h = c.0 in λ i. h i ∷ p i) q
      | beyond more p q ↦ beyond more (let h = sym c.0 in λ i. h i ∷ p i) q
    ]

pub none_left : (level : ℕ) (xs ys : List Entry) → on_level level (xs ++ ys) ≡ [] → on_level level xs ≡ []
none_left level [] ys n = refl
none_left level (x ∷ xs) ys n = elim (cases_lt level x.level) [
  | inl lt ↦ absurd (let h : x ∷ on_level level (xs ++ ys) ≡ [] = sym (on_level-in level x (xs ++ ys) lt) ∙ n in cc)
  | inr le ↦ on_level-out level x xs le ∙ none_left level xs ys (sym (on_level-out level x (xs ++ ys) le) ∙ n)
]

-- ---- along the chain

pub entry_of : (b : List ℕ) (bound : ℕ) (starts : List ℕ) (at : ℕ) (k : List ℕ) (front : List Entry) (e : Entry) (back : List Entry) → Chain b bound starts at k (front ++ e ∷ back) → StandsAsEntry b starts e
entry_of b bound starts at k [] e back ch = ch.1
entry_of b bound starts at k (f ∷ fs) e back ch = entry_of b bound starts f.at f.key fs e back ch.3

rises : (b : List ℕ) (bound : ℕ) (starts : List ℕ) (at : ℕ) (k : List ℕ) (skipped : List Entry) (e : Entry) (back : List Entry) → Chain b bound starts at k (skipped ++ e ∷ back) → IsBelow k e.key
rises b bound starts at k [] e back ch = ch.2
rises b bound starts at k (s ∷ ss) e back ch = below_trans k s.key e.key ch.2 (rises b bound starts s.at s.key ss e back ch.3)

pub rises_from : (b : List ℕ) (bound : ℕ) (starts : List ℕ) (at : ℕ) (k : List ℕ) (front skipped : List Entry) (e : Entry) (back : List Entry) → Chain b bound starts at k (front ++ (skipped ++ e ∷ back)) → IsBelow (last_key k front) e.key
rises_from b bound starts at k [] skipped e back ch = rises b bound starts at k skipped e back ch
rises_from b bound starts at k (f ∷ fs) skipped e back ch = rises_from b bound starts f.at f.key fs skipped e back ch.3

pub key_at : (b : List ℕ) (bound : ℕ) (starts : List ℕ) (at : ℕ) (k : List ℕ) (front back : List Entry) → key_in b at ≡ k → Chain b bound starts at k (front ++ back) → key_in b (last_at at front) ≡ last_key k front
key_at b bound starts at k [] back is ch = is
key_at b bound starts at k (f ∷ fs) back is ch = key_at b bound starts f.at f.key fs back ch.1.key ch.3

none_at : (file : List ℕ) (at count : ℕ) → count ≡ 0 → part file at count ≡ []
unfolding part
none_at file at count e = subst (λ (n : ℕ). part file at n ≡ []) (sym e) refl

pub dummy_key : (b starts : List ℕ) (es : List Entry) → Listed b starts es → key_in b 64 ≡ []
dummy_key b starts es l = none_at b (64 + head_size_of (head_in b 64)) (head_in b 64).key_len (dummy_lengths (head_in b 64) l.log.dummy.head (dummy_stands b l.log.dummy)).0

in_all : (P : Entry → Type 0) (front : List Entry) (e : Entry) (back : List Entry) → AllByRecursion P (front ++ e ∷ back) → P e
in_all P [] e back all = all.0
in_all P (f ∷ fs) e back all = in_all P fs e back all.1

-- ---- which records are below the key

pub below_key : (es : List Entry) (key : List ℕ) (place : Place es key) (front : List Entry) (e : Entry) (back : List Entry) → place.front ≡ front ++ e ∷ back → comes_before e.key key ≡ true
below_key es key place front e back parts =
    is_less _ (in_all (λ e. IsBelow e.key key) front e back (subst (λ (l : List Entry). AllByRecursion (λ e. IsBelow e.key key) l) parts place.below))

pub itself_not : (key : List ℕ) → comes_before key key ≡ false
itself_not key = go (comes_before key key) refl
  where
    go : (t : Bool) → comes_before key key ≡ t → comes_before key key ≡ false
    go false h = h
    go true h = absurd (below_not_same key key (less_is _ h) refl)

pub chain_rest : (b : List ℕ) (bound : ℕ) (starts : List ℕ) (at : ℕ) (k : List ℕ) (front back : List Entry) → Chain b bound starts at k (front ++ back) → Chain b bound starts (last_at at front) (last_key k front) back
chain_rest b bound starts at k [] back ch = ch
chain_rest b bound starts at k (f ∷ fs) back ch = chain_rest b bound starts f.at f.key fs back ch.3

pub from_key : (b starts : List ℕ) (es : List Entry) (key : List ℕ) → Live b starts es → (place : Place es key) → (more : List Entry) (e : Entry) (back : List Entry) → place.dropped ++ place.rest ≡ more ++ e ∷ back → comes_before e.key key ≡ false
from_key b starts es key live place more e back parts =
    let chain = subst (λ (l : List Entry). Chain b (length b) starts 64 [] l) place.split live.listed.log.chain in
    let after = chain_rest b (length b) starts 64 [] place.front (place.dropped ++ place.rest) chain in
    elim place.same_key [
      | inl empty ↦
          let all = all_above b (length b) starts (last_at 64 place.front) (last_key [] place.front) key place.rest (subst (λ (s : List Entry). Chain b (length b) starts (last_at 64 place.front) (last_key [] place.front) (s ++ place.rest)) empty after) place.above in
          above_not e.key key (in_all (λ e. IsBelow key e.key) more e back (subst (λ (l : List Entry). AllByRecursion (λ e. IsBelow key e.key) l) (sym (ap (λ (s : List Entry). s ++ place.rest) empty) ∙ parts) all))
      | inr one ↦
          let d : Entry = one.0 in
          let ch = subst (λ (s : List Entry). Chain b (length b) starts (last_at 64 place.front) (last_key [] place.front) (s ++ place.rest)) one.1 after in
          let all = all_above b (length b) starts d.at d.key key place.rest ch.3 place.above in
          let whole : d ∷ place.rest ≡ more ++ e ∷ back = sym (ap (λ (s : List Entry). s ++ place.rest) one.1) ∙ parts in
          pick more e back d place.rest key one.2 all whole
    ]
  where
    pick : (more : List Entry) (e : Entry) (back : List Entry) (d : Entry) (rest : List Entry) (key : List ℕ) → d.key ≡ key → AllByRecursion (λ e. IsBelow key e.key) rest → d ∷ rest ≡ more ++ e ∷ back → comes_before e.key key ≡ false
    pick [] e back d rest key same all parts =
        let c = cons_same d e rest back parts in
        subst (λ (k : List ℕ). comes_before k key ≡ false) (sym same ∙ ap (λ (x : Entry). x.key) c.0) (itself_not key)
    pick (m ∷ ms) e back d rest key same all parts =
        let c = cons_same d m rest (ms ++ e ∷ back) parts in
        above_not e.key key (in_all (λ e. IsBelow key e.key) ms e back (subst (λ (l : List Entry). AllByRecursion (λ e. IsBelow key e.key) l) c.1 all))
