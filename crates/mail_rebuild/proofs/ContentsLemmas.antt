-- A folder and an index have one list of messages, one of odd names, and one of uids.
use Rattle.std.proofs.Common.{◌≡◌, ◌⊎◌, inl, inr, ⊎_elim, ◌<◌, ◌≤◌, ◌+◌, ℕ, suc, Bool, true, false, List, [], ◌∷◌, map, get_or, refl, sym, ap, ◌∙◌, subst, arith}
use Rattle.std.specs.Prelude.{nat_eq, if◌then◌else◌}
use Rattle.std.specs.Cmp.Lexicographic.{pointwise, nat_list_cmp_total}
use Rattle.std.specs.List.{AllByRecursion, filter, sum_by}
use Rattle.std.specs.List.Sorted.{IsPermutation, IsSorted, IsStrictlyIncreasing}
use Rattle.std.specs.Ordering.{is_lt}
use Rattle.std.specs.declared.cmp.Ordering.{Ordering}
use Rattle.std.specs.declared.cmp.Ordering.TheVariants.{Less, Equal, Greater}
use Rattle.std.proofs.lemmas.List.{map-id}
use Rattle.std.proofs.lemmas.List.Elements.{All-from_recursion, recursion_from_All}
use Rattle.std.proofs.lemmas.List.Sorted.{All-permutation, IsPermutation-sym, IsPermutation-trans, ranks_by, sorted_far, sum_by-IsPermutation}
use Rattle.std.proofs.lemmas.List.Sums.{sum_by-cons}
use Rattle.base_bytes.specs.OrderedMap.{key_order}
use Rattle.base_bytes.proofs.OrderedMaps.{above_turned, same_key}
use Rattle.base_devices.specs.CrashImages.{Image}
use Rattle.base_devices.specs.SpoolCalls.{MessageFile, names_of}
use Rattle.mail_rebuild.specs.Rebuilds.{AreContents, Contents}
use Rattle.mail_rebuild.specs.Rebuilt.{SortsFiles, is_message, is_odd, uid_of_file}
use Rattle.mail_rebuild.proofs.MergeLemmas.{RisesFrom, increasing_rises}
use Rattle.mail_scan.proofs.NameLemmas.{same_text, text_same}

-- an element stands in a list
abbrev Among : {X : Type 0} → List X → X → Type 0
Among {X} [] z = ⊥
Among {X} (x ∷ xs) z = (z ≡ x) ⊎ Among xs z

-- ---- lists by a key that rises strictly

module _ {X : Type 0} (key : X → ℕ) where
  itself : (xs : List X) → AllByRecursion (Among xs) xs
  itself [] = tt
  itself (x ∷ xs) = (inl refl, further x xs xs (itself xs))
    where
      further : (x : X) (xs zs : List X) → AllByRecursion (Among xs) zs → AllByRecursion (Among (x ∷ xs)) zs
      further x xs [] all = tt
      further x xs (z ∷ zs) all = (inr all.0, further x xs zs all.1)

  not_below : (m : ℕ) (ys : List X) (z : X) → RisesFrom m (map key ys) → Among ys z → m ≤ key z
  not_below m [] z rises there = absurd there
  not_below m (y ∷ ys) z rises (inl same) = subst (λ (x : X). m ≤ key x) (sym same) rises.0
  not_below m (y ∷ ys) z rises (inr there) = let more = not_below (key y + 1) ys z rises.1 there in omega (arith, more, rises.0)

  -- those with greater keys stand behind the first
  behind : (x : X) (m : ℕ) (ys zs : List X) → key x < m → RisesFrom m (map key zs) → AllByRecursion (Among (x ∷ ys)) zs → AllByRecursion (Among ys) zs
  behind x m ys [] less rises all = tt
  behind x m ys (z ∷ zs) less rises all = (
    ⊎_elim (λ same. let keys : key z ≡ key x = ap key same in absurd (omega (arith, keys, rises.0, less))) (λ there. there) all.0,
    behind x (key z + 1) ys zs (omega (arith, rises.0, less)) rises.1 all.1,
  )

  rising_once : (n m : ℕ) (xs ys : List X) → RisesFrom n (map key xs) → RisesFrom m (map key ys) → AllByRecursion (Among ys) xs → AllByRecursion (Among xs) ys → xs ≡ ys
  rising_once n m [] [] one other there back = refl
  rising_once n m [] (y ∷ ys) one other there back = absurd back.0
  rising_once n m (x ∷ xs) [] one other there back = absurd there.0
  rising_once n m (x ∷ xs) (y ∷ ys) one other there back = by (rising_once (key x + 1) (key y + 1) xs ys one.1 other.1) (⊎_elim (λ same. same) (λ behind_y. ⊎_elim sym (λ behind_x. crossed behind_y behind_x) back.0) there.0)
    where
      crossed : Among ys x → Among xs y → x ≡ y
      crossed behind_y behind_x =
          let above_y = not_below (key y + 1) ys x other.1 behind_y in
          let above_x = not_below (key x + 1) xs y one.1 behind_x in
          absurd (omega (arith, above_y, above_x))

      by : (AllByRecursion (Among ys) xs → AllByRecursion (Among xs) ys → xs ≡ ys) → x ≡ y → x ∷ xs ≡ y ∷ ys
      by behind_heads same =
          let keys : key y ≡ key x = ap key (sym same) in
          let first = behind x (key x + 1) ys xs (omega arith) one.1 (subst (λ (z : X). AllByRecursion (Among (z ∷ ys)) xs) (sym same) there.1) in
          let second = behind x (key y + 1) xs ys (omega (arith, keys)) other.1 back.1 in
          let others = behind_heads first second in
          λ i. same i ∷ others i

  among_both : (xs ys : List X) → IsPermutation xs ys → AllByRecursion (Among ys) xs
  among_both xs ys same = recursion_from_All (Among ys) xs (All-permutation (Among ys) ys xs (IsPermutation-sym xs ys same) (All-from_recursion (Among ys) ys (itself ys)))

  pub increasing_once : (xs ys : List X) → IsPermutation xs ys → IsStrictlyIncreasing (map key xs) → IsStrictlyIncreasing (map key ys) → xs ≡ ys
  increasing_once xs ys same one other =
      rising_once 0 0 xs ys (increasing_rises 0 (map key xs) (λ some. omega arith) one) (increasing_rises 0 (map key ys) (λ some. omega arith) other)
      (among_both xs ys same) (among_both ys xs (IsPermutation-sym xs ys same))

-- ---- names by their bytes

abbrev hits : List ℕ → List ℕ → ℕ
hits name other = if pointwise nat_eq other name then 1 else 0

-- no name stands behind one that it comes before
abbrev Ordered : List (List ℕ) → Type 0
Ordered [] = Unit {0}
Ordered (x ∷ xs) = AllByRecursion (λ y. is_lt (key_order y x) ≡ false) xs × Ordered xs

ordered_from : (xs : List (List ℕ)) → IsSorted key_order xs → Ordered xs
ordered_from [] sorted = tt
ordered_from (x ∷ xs) sorted = (
  recursion_from_All (λ y. is_lt (key_order y x) ≡ false) xs
      (λ k d within. sorted_far (λ a b. is_lt (key_order a b)) (ranks_by nat_list_cmp_total (λ (l : List ℕ). l)) (x ∷ xs) sorted 0 (suc k) d (omega arith) (omega (arith, within))),
  ordered_from xs (λ k d low high. let e : suc k + 1 ≡ suc (k + 1) = omega arith in subst (λ n. is_lt (key_order (get_or (x ∷ xs) n d) (get_or xs k d)) ≡ false) e (sorted (suc k) d (omega arith) (omega (arith, high)))),
)

hits_itself : (x : List ℕ) → hits x x ≡ 1
hits_itself x = ap (λ (b : Bool). if b then 1 else 0) (text_same x x refl)

-- a name that is counted in a list stands there
found_one : (P : List ℕ → Type 0) (x : List ℕ) (ys : List (List ℕ)) → 1 ≤ sum_by (hits x) ys → AllByRecursion P ys → P x
found_one P x [] some all = absurd (omega (arith, some))
found_one P x (y ∷ ys) some all = go (λ more. found_one P x ys more all.1) (pointwise nat_eq y x) refl
  where
    go : (1 ≤ sum_by (hits x) ys → P x) → (b : Bool) → pointwise nat_eq y x ≡ b → P x
    go others true e = subst P (same_text y x e) all.0
    go others false e =
        let none : hits x y ≡ 0 = ap (λ (t : Bool). if t then 1 else 0) e in
        others (omega (arith, some, none, sum_by-cons (hits x) y ys))

tied : (x y : List ℕ) → is_lt (key_order x y) ≡ false → is_lt (key_order y x) ≡ false → x ≡ y
tied x y one other = go (key_order x y) refl
  where
    go : (o : Ordering) → key_order x y ≡ o → x ≡ y
    go Less e = absurd (cc (sym one ∙ ap is_lt e))
    go Equal e = same_key x y e
    go Greater e = absurd (cc (sym other ∙ ap is_lt (above_turned x y e)))

ordered_once : (xs ys : List (List ℕ)) → Ordered xs → Ordered ys → ((z : List ℕ) → sum_by (hits z) ys ≡ sum_by (hits z) xs) → xs ≡ ys
ordered_once [] [] one other counts = refl
ordered_once [] (y ∷ ys) one other counts = absurd (omega (arith, counts y, sum_by-cons (hits y) y ys, hits_itself y))
ordered_once (x ∷ xs) [] one other counts = absurd (omega (arith, counts x, sum_by-cons (hits x) x xs, hits_itself x))
ordered_once (x ∷ xs) (y ∷ ys) one other counts = by (ordered_once xs ys one.1 other.1) (go (pointwise nat_eq y x) refl)
  where
    go : (b : Bool) → pointwise nat_eq y x ≡ b → x ≡ y
    go true e = sym (same_text y x e)
    go false e =
        let no_hit : hits x y ≡ 0 = ap (λ (t : Bool). if t then 1 else 0) e in
        let there : 1 ≤ sum_by (hits x) ys = omega (arith, counts x, sum_by-cons (hits x) x xs, sum_by-cons (hits x) y ys, hits_itself x, no_hit) in
        let not_before = found_one (λ z. is_lt (key_order z y) ≡ false) x ys there other.0 in
        back not_before (pointwise nat_eq x y) refl
      where
        back : is_lt (key_order x y) ≡ false → (b : Bool) → pointwise nat_eq x y ≡ b → x ≡ y
        back before true e = same_text x y e
        back before false e =
            let no_hit : hits y x ≡ 0 = ap (λ (t : Bool). if t then 1 else 0) e in
            let there : 1 ≤ sum_by (hits y) xs = omega (arith, counts y, sum_by-cons (hits y) x xs, sum_by-cons (hits y) y ys, hits_itself y, no_hit) in
            tied x y before (found_one (λ z. is_lt (key_order z x) ≡ false) y xs there one.0)

    by : (((z : List ℕ) → sum_by (hits z) ys ≡ sum_by (hits z) xs) → xs ≡ ys) → x ≡ y → x ∷ xs ≡ y ∷ ys
    by behind_heads same =
        let others = behind_heads (λ z.
        let hit : hits z x ≡ hits z y = ap (hits z) same in
        omega (arith, counts z, sum_by-cons (hits z) x xs, sum_by-cons (hits z) y ys, hit)) in
        λ i. same i ∷ others i

sorted_once : (xs ys : List (List ℕ)) → IsPermutation xs ys → IsSorted key_order xs → IsSorted key_order ys → xs ≡ ys
sorted_once xs ys same one other = ordered_once xs ys (ordered_from xs one) (ordered_from ys other) (λ z. sum_by-IsPermutation (hits z) xs ys same)

-- ---- the contents

-- two orders of what one list has
between : {X : Type 0} (xs ys zs : List X) → IsPermutation xs ys → IsPermutation xs zs → IsPermutation ys zs
between xs ys zs one other = IsPermutation-trans ys xs zs (IsPermutation-sym xs ys one) other

pub messages_once : (files messages others : List MessageFile) (odd odds : List (List ℕ)) → SortsFiles files messages odd → SortsFiles files others odds → messages ≡ others
messages_once files messages others odd odds one other =
    increasing_once uid_of_file messages others (between (filter is_message files) messages others one.all_messages other.all_messages) one.by_uid other.by_uid

pub contents_once : (files : List MessageFile) (old : Image) (a b : Contents) → AreContents files old a → AreContents files old b → a ≡ b
contents_once files old a b one other =
    let messages = messages_once files a.messages b.messages a.odd b.odd one.sorted other.sorted in
    let odd = sorted_once a.odd b.odd (between (names_of (filter is_odd files)) a.odd b.odd one.sorted.all_odd other.sorted.all_odd) one.sorted.by_bytes other.sorted.by_bytes in
    let turned : AreContents files old (record b { messages = a.messages }) = subst (λ (ms : List MessageFile). AreContents files old (record b { messages = ms })) (sym messages) other in
    let uids = increasing_once (λ (n : ℕ). n) a.uids b.uids (between _ a.uids b.uids one.all_uids.all_uids turned.all_uids.all_uids)
    (subst IsStrictlyIncreasing (sym (map-id a.uids)) one.all_uids.rising) (subst IsStrictlyIncreasing (sym (map-id b.uids)) other.all_uids.rising) in
    λ i. record { messages = messages i; odd = odd i; uids = uids i }
