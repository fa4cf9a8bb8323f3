-- Names and records that are merged.
use Rattle.std.proofs.Common.{◌≡◌, ◌⊎◌, ◌<◌, ◌≤◌, ◌+◌, ℕ, zero, suc, Bool, true, false, ◌&&◌, List, [], ◌∷◌, map, length, Option, None, Some, refl, sym, ap, ◌∙◌, inl, inr, arith}
use Rattle.std.specs.Prelude.{nat_lt, slice_index}
use Rattle.std.specs.List.{AllByRecursion, filter_map}
use Rattle.std.specs.List.Sorted.{IsStrictlyIncreasing}
use Rattle.std.proofs.lemmas.Bool.{cases_lt, lt-ltb, le-ltb, eq-eqb, ne_eqb, ltb-true}
use Rattle.std.proofs.Math.Nat.{eq-or-lt_of_le}
use Rattle.index_form.specs.declared.record.IndexRecord.{IndexRecord}
use Rattle.index_form.specs.declared.view.IndexView.{IndexView}
use Rattle.index_form.specs.Reading.{StoredRecord, records_of}
use Rattle.index_form.specs.Views.{file_of}
use Rattle.index_form.specs.Usable.{usable_from, is_usable}
use Rattle.mail_scan.specs.Listing.{uid_in}
use Rattle.mail_rebuild.specs.Merging.{Pair, both, name_alone, record_alone, uid_of, HasOneUid, IsMerge, merged, merged_behind, usable_of}

-- ---- numbers that rise strictly, from one on

abbrev pub RisesFrom : ℕ → List ℕ → Type 0
RisesFrom n [] = Unit {0}
RisesFrom n (m ∷ ms) = (n ≤ m) × RisesFrom (m + 1) ms

pub rises_increasing : (n : ℕ) (ms : List ℕ) → RisesFrom n ms → (k : ℕ) → k + 1 < length ms → slice_index ms k < slice_index ms (k + 1)
rises_increasing n [] rises k within = absurd (omega (arith, within))
rises_increasing n (m ∷ []) rises k within = absurd (omega (arith, within))
rises_increasing n (m ∷ (l ∷ ls)) rises zero within = omega (arith, rises.1.0)
rises_increasing n (m ∷ (l ∷ ls)) rises (suc k) within =
    let e : suc k + 1 ≡ suc (k + 1) = omega arith in
    rw e (rises_increasing (m + 1) (l ∷ ls) rises.1 k (omega (arith, within)))

pub increasing_rises : (n : ℕ) (ms : List ℕ) → (0 < length ms → n ≤ slice_index ms 0) → IsStrictlyIncreasing ms → RisesFrom n ms
increasing_rises n [] first is = tt
increasing_rises n (m ∷ ms) first is = (first (omega arith), increasing_rises (m + 1) ms next later)
  where
    next : 0 < length ms → m + 1 ≤ slice_index ms 0
    next some = let step : m < slice_index ms 0 = is 0 (omega (arith, some)) in omega (arith, step)

    later : (k : ℕ) → k + 1 < length ms → slice_index ms k < slice_index ms (k + 1)
    later k within =
        let e : suc k + 1 ≡ suc (k + 1) = omega arith in
        let step : slice_index (m ∷ ms) (suc k) < slice_index (m ∷ ms) (suc k + 1) = is (suc k) (omega (arith, within)) in
        rw e at step

second_true : (a b : Bool) → (a && b) ≡ true → b ≡ true
second_true true b both = both
second_true false b both = absurd (cc)

rises_sooner : (ms : List ℕ) → RisesFrom 1 ms → RisesFrom 0 ms
rises_sooner [] rises = tt
rises_sooner (m ∷ ms) rises = (omega arith, rises.1)

-- the usable records rise
usable_rises : (place last : ℕ) (stored : List StoredRecord) → RisesFrom (last + 1) (map (λ r. r.uid) (map (λ p. p.1) (usable_from place last stored)))
usable_rises place last [] = tt
usable_rises place last (item ∷ others) = go (λ p l. usable_rises p l others) (is_usable last item) refl
  where
    go : ((p l : ℕ) → RisesFrom (l + 1) (map (λ r. r.uid) (map (λ p. p.1) (usable_from p l others)))) → (b : Bool) → is_usable last item ≡ b
        → RisesFrom (last + 1) (map (λ r. r.uid) (map (λ p. p.1) (usable_from place last (item ∷ others))))
    go more true is = rw is (omega (arith, ltb-true last item.fields.uid (second_true item.check_right (nat_lt last item.fields.uid) is)), more (place + 1) item.fields.uid)
    go more false is = rw is (more (place + 1) last)

pub usable_of-rises : (old : Option IndexView) → RisesFrom 0 (map (λ r. r.uid) (usable_of old))
usable_of-rises None = tt
usable_of-rises (Some view) = rises_sooner (map (λ r. r.uid) (usable_of (Some view))) (usable_rises 0 0 (records_of (file_of view)))

-- ---- one step of a merge

-- what holds of each of the three steps holds
pub by_step : (name : List ℕ) (others : List IndexRecord → List Pair) (old : IndexRecord) (records : List IndexRecord) (P : List Pair → Type 0)
    → (uid_in name < old.uid → P (name_alone name ∷ others (old ∷ records)))
    → (uid_in name ≡ old.uid → P (both name old ∷ others records))
    → (old.uid < uid_in name → P (record_alone old ∷ merged_behind name others records))
    → P (merged_behind name others (old ∷ records))
by_step name others old records P less same greater = go (cases_lt (uid_in name) old.uid)
  where
    equal_or_greater : (old.uid ≡ uid_in name) ⊎ (old.uid < uid_in name) → P (merged_behind name others (old ∷ records))
    equal_or_greater (inl e) = rw (le-ltb (uid_in name) old.uid (omega (arith, e)), eq-eqb (uid_in name) old.uid (sym e)) (same (sym e))
    equal_or_greater (inr above) = rw (le-ltb (uid_in name) old.uid (omega (arith, above)), ne_eqb (uid_in name) old.uid (λ e. omega (arith, e, above))) (greater above)

    go : (uid_in name < old.uid) ⊎ (old.uid ≤ uid_in name) → P (merged_behind name others (old ∷ records))
    go (inl below) = rw (lt-ltb (uid_in name) old.uid below) (less below)
    go (inr within) = equal_or_greater (eq-or-lt_of_le {n = old.uid} {m = uid_in name} within)

-- ---- all of a merge

-- records alone
alone_names : (records : List IndexRecord) → filter_map (λ pair. pair.name) (map record_alone records) ≡ []
alone_names [] = refl
alone_names (old ∷ records) = alone_names records

alone_records : (records : List IndexRecord) → filter_map (λ pair. pair.old) (map record_alone records) ≡ records
alone_records [] = refl
alone_records (old ∷ records) = ap (λ rs. old ∷ rs) (alone_records records)

alone_together : (records : List IndexRecord) → AllByRecursion HasOneUid (map record_alone records)
alone_together [] = tt
alone_together (old ∷ records) = (λ name old none some. absurd (cc), alone_together records)

alone_rises : (n : ℕ) (records : List IndexRecord) → RisesFrom n (map (λ r. r.uid) records) → RisesFrom n (map uid_of (map record_alone records))
alone_rises n [] rises = tt
alone_rises n (old ∷ records) rises = (rises.0, alone_rises (old.uid + 1) records rises.1)

-- each name stands in one pair
names_behind : (name : List ℕ) (names : List (List ℕ)) (others : List IndexRecord → List Pair)
    → ((records : List IndexRecord) → filter_map (λ pair. pair.name) (others records) ≡ names)
    → (records : List IndexRecord) → filter_map (λ pair. pair.name) (merged_behind name others records) ≡ name ∷ names
names_behind name names others each [] = ap (λ ns. name ∷ ns) (each [])
names_behind name names others each (old ∷ records) = by_step name others old records (λ pairs. filter_map (λ pair. pair.name) pairs ≡ name ∷ names)
    (λ _. ap (λ ns. name ∷ ns) (each (old ∷ records)))
    (λ _. ap (λ ns. name ∷ ns) (each records))
    (λ _. names_behind name names others each records)

pub names_merged : (names : List (List ℕ)) (records : List IndexRecord) → filter_map (λ pair. pair.name) (merged names records) ≡ names
names_merged [] records = alone_names records
names_merged (name ∷ names) records = names_behind name names (merged names) (names_merged names) records

-- each record stands in one pair
records_behind : (name : List ℕ) (others : List IndexRecord → List Pair)
    → ((records : List IndexRecord) → filter_map (λ pair. pair.old) (others records) ≡ records)
    → (records : List IndexRecord) → filter_map (λ pair. pair.old) (merged_behind name others records) ≡ records
records_behind name others each [] = each []
records_behind name others each (old ∷ records) = by_step name others old records (λ pairs. filter_map (λ pair. pair.old) pairs ≡ old ∷ records)
    (λ _. each (old ∷ records))
    (λ _. ap (λ rs. old ∷ rs) (each records))
    (λ _. ap (λ rs. old ∷ rs) (records_behind name others each records))

pub records_merged : (names : List (List ℕ)) (records : List IndexRecord) → filter_map (λ pair. pair.old) (merged names records) ≡ records
records_merged [] records = alone_records records
records_merged (name ∷ names) records = records_behind name (merged names) (records_merged names) records

-- a name and a record in one pair have one uid
together_behind : (name : List ℕ) (others : List IndexRecord → List Pair)
    → ((records : List IndexRecord) → AllByRecursion HasOneUid (others records))
    → (records : List IndexRecord) → AllByRecursion HasOneUid (merged_behind name others records)
together_behind name others each [] = (λ n o some none. absurd (cc), each [])
together_behind name others each (old ∷ records) = by_step name others old records (AllByRecursion HasOneUid)
    (λ _. (λ n o some none. absurd (cc), each (old ∷ records)))
    (λ same. (λ n o is_name is_old. one_uid n o same is_name is_old, each records))
    (λ _. (λ n o none some. absurd (cc), together_behind name others each records))
  where
    one_uid : (n : List ℕ) (o : IndexRecord) → uid_in name ≡ old.uid → Some name ≡ Some n → Some old ≡ Some o → uid_in n ≡ o.uid
    one_uid n o same is_name is_old =
        let a : name ≡ n = cc in
        let b : old ≡ o = cc in
        ap uid_in (sym a) ∙ same ∙ ap (λ (r : IndexRecord). r.uid) b

pub together_merged : (names : List (List ℕ)) (records : List IndexRecord) → AllByRecursion HasOneUid (merged names records)
together_merged [] records = alone_together records
together_merged (name ∷ names) records = together_behind name (merged names) (together_merged names) records

-- the pairs rise by uid
rises_behind : (name : List ℕ) (names : List (List ℕ)) (others : List IndexRecord → List Pair)
    → ((n : ℕ) (records : List IndexRecord) → RisesFrom n (map uid_in names) → RisesFrom n (map (λ r. r.uid) records) → RisesFrom n (map uid_of (others records)))
    → (n : ℕ) (records : List IndexRecord) → n ≤ uid_in name → RisesFrom (uid_in name + 1) (map uid_in names) → RisesFrom n (map (λ r. r.uid) records)
    → RisesFrom n (map uid_of (merged_behind name others records))
rises_behind name names others each n [] first rest rises = (first, each (uid_in name + 1) [] rest tt)
rises_behind name names others each n (old ∷ records) first rest rises = by_step name others old records (λ pairs. RisesFrom n (map uid_of pairs))
    (λ less. (first, each (uid_in name + 1) (old ∷ records) rest (omega (arith, less), rises.1)))
    (λ same. (rises.0, each (old.uid + 1) records (rw same at rest) rises.1))
    (λ greater. (rises.0, rises_behind name names others each (old.uid + 1) records (omega (arith, greater)) rest rises.1))

pub rises_merged : (names : List (List ℕ)) (n : ℕ) (records : List IndexRecord) → RisesFrom n (map uid_in names) → RisesFrom n (map (λ r. r.uid) records) → RisesFrom n (map uid_of (merged names records))
rises_merged [] n records names_rise rises = alone_rises n records rises
rises_merged (name ∷ names) n records names_rise rises = rises_behind name names (merged names) (rises_merged names) n records names_rise.0 names_rise.1 rises

-- a merge with records that rise
pub merged-whole : (names : List (List ℕ)) (records : List IndexRecord) → IsStrictlyIncreasing (map uid_in names) → RisesFrom 0 (map (λ r. r.uid) records) → IsMerge names records (merged names records)
merged-whole names records names_rise rises = record {
  all_names = names_merged names records;
  all_records = records_merged names records;
  together = together_merged names records;
  rising = rises_increasing 0 (map uid_of (merged names records)) (rises_merged names 0 records (increasing_rises 0 (map uid_in names) (λ some. omega arith) names_rise) rises);
}
