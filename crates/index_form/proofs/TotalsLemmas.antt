-- Totals of records, with one record more.
use Rattle.std.proofs.Common.{◌≡◌, ◌⊎◌, inl, inr, ◌<◌, ℕ, ◌+◌, Bool, true, false, cond, ◌&&◌, List, [], ◌∷◌, ◌++◌, map, length, count_by, refl, sym, ap, ◌∙◌, arith, min}
use Rattle.std.specs.List.{filter, reduce, sum_by}
use Rattle.std.specs.Option.{unwrap_or}
use Rattle.std.proofs.lemmas.Bool.{not-false}
use Rattle.std.proofs.Math.Bool.{not-not}
use Rattle.std.proofs.lemmas.List.{append-nil, map_push, length-map, nil_from_length}
use Rattle.std.proofs.lemmas.List.Filters.{length-filter_both}
use Rattle.std.proofs.lemmas.List.Elements.{filter-append}
use Rattle.std.proofs.lemmas.List.Sums.{length-filter, count_by-le-length, sum_by_push, fold_push}
use Rattle.std.proofs.Math.Nat.{eq-or-lt_of_le}
use Rattle.index_form.specs.declared.record.IndexRecord.{IndexRecord}
use Rattle.index_form.specs.Totals.{stands, has_flag, expunged, flag_count, size_used, first_expunged_of}

-- one item more, which passes, or which does not
pub filter_push_yes : {A : Type 0} (p : A → Bool) (xs : List A) (x : A) → p x ≡ true → filter p (xs ++ x ∷ []) ≡ filter p xs ++ x ∷ []
filter_push_yes p xs x passes = filter-append p xs (x ∷ []) ∙ rw passes refl

pub filter_push_no : {A : Type 0} (p : A → Bool) (xs : List A) (x : A) → p x ≡ false → filter p (xs ++ x ∷ []) ≡ filter p xs
filter_push_no p xs x fails = filter-append p xs (x ∷ []) ∙ rw fails (append-nil (filter p xs))

pub count_push_no : {A : Type 0} (p : A → Bool) (xs : List A) (x : A) → p x ≡ false → count_by p (xs ++ x ∷ []) ≡ count_by p xs
count_push_no p xs x fails = sum_by_push (λ y. cond (p y) 1 0) xs x ∙ rw fails (omega arith)

-- the record is expunged
pub flag_count-expunged : (flag : ℕ) (rs : List IndexRecord) (r : IndexRecord) → stands r ≡ false → flag_count flag (rs ++ r ∷ []) ≡ flag_count flag rs
flag_count-expunged flag rs r is = sum_by_push (λ y. cond (stands y && has_flag flag y) 1 0) rs r ∙ rw is (omega arith)

pub size_used-expunged : (rs : List IndexRecord) (r : IndexRecord) → stands r ≡ false → size_used (rs ++ r ∷ []) ≡ size_used rs
size_used-expunged rs r is = ap (sum_by (λ y. y.size)) (filter_push_no stands rs r is)

-- the least of the numbers, with one more
least_push : (ns : List ℕ) (n : ℕ) → 0 < length ns → unwrap_or (reduce min (ns ++ n ∷ [])) 0 ≡ min (unwrap_or (reduce min ns) 0) n
least_push [] n some = absurd (omega (arith, some))
least_push (m ∷ ns) n some = fold_push min m ns n

expunged_count : (rs : List IndexRecord) → count_by stands rs + length (filter (has_flag expunged) rs) ≡ length rs
expunged_count rs =
    ap (λ n. n + length (filter (has_flag expunged) rs)) (sym (length-filter stands rs))
    ∙ length-filter_both stands (has_flag expunged) (λ r. sym (not-not (has_flag expunged r))) rs

-- the times of change of the expunged ones, with one more
expunged_push : (rs : List IndexRecord) (r : IndexRecord) → stands r ≡ false → map (λ y. y.last_updated) (filter (has_flag expunged) (rs ++ r ∷ [])) ≡ map (λ y. y.last_updated) (filter (has_flag expunged) rs) ++ r.last_updated ∷ []
expunged_push rs r is =
    ap (map (λ y. y.last_updated)) (filter_push_yes (has_flag expunged) rs r (not-false (has_flag expunged r) is))
    ∙ map_push (λ y. y.last_updated) (filter (has_flag expunged) rs) r

pub first_of_none : (rs : List IndexRecord) (r : IndexRecord) → stands r ≡ false → count_by stands rs ≡ length rs → first_expunged_of (rs ++ r ∷ []) ≡ r.last_updated
first_of_none rs r is all =
    let empty : filter (has_flag expunged) rs ≡ [] = nil_from_length (filter (has_flag expunged) rs) (omega (arith, expunged_count rs, all)) in
    ap (λ ns. unwrap_or (reduce min ns) 0) (expunged_push rs r is) ∙ rw empty refl

pub first_of_some : (rs : List IndexRecord) (r : IndexRecord) → stands r ≡ false → count_by stands rs < length rs → first_expunged_of (rs ++ r ∷ []) ≡ min (first_expunged_of rs) r.last_updated
first_of_some rs r is some =
    let ns = map (λ y. y.last_updated) (filter (has_flag expunged) rs) in
    ap (λ ns. unwrap_or (reduce min ns) 0) (expunged_push rs r is)
    ∙ least_push ns r.last_updated (omega (arith, expunged_count rs, some, length-map (filter (has_flag expunged) rs) (λ y. y.last_updated)))

-- the first time, whether there was one before or not
pub first_with-expunged : (rs : List IndexRecord) (r : IndexRecord) (exists num_records first result : ℕ) → stands r ≡ false → exists ≡ count_by stands rs → num_records ≡ length rs → first ≡ first_expunged_of rs
    → (exists ≡ num_records → result ≡ r.last_updated) → (exists < num_records → result ≡ min first r.last_updated) → result ≡ first_expunged_of (rs ++ r ∷ [])
first_with-expunged rs r exists num_records first result is e n f without among = go (eq-or-lt_of_le {n = exists} {m = num_records} (omega (arith, e, n, count_by-le-length stands rs)))
  where
    go : (exists ≡ num_records) ⊎ (exists < num_records) → result ≡ first_expunged_of (rs ++ r ∷ [])
    go (inl same) = without same ∙ sym (first_of_none rs r is (omega (arith, same, e, n)))
    go (inr below) = among below ∙ ap (λ k. min k r.last_updated) f ∙ sym (first_of_some rs r is (omega (arith, below, e, n)))
