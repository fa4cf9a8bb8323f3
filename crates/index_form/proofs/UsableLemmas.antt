-- The usable records, one after another.
use Rattle.std.proofs.Common.{◌≡◌, ◌⊎◌, ◌<◌, ◌≤◌, inl, inr, ℕ, ◌+◌, true, false, List, ◌∷◌, Some, drop, refl, sym, ◌∙◌, add-one}
use Rattle.std.specs.List.{slice_get}
use Rattle.std.proofs.Math.Seq.{drop-cons}
use Rattle.std.proofs.lemmas.Bool.{lt-ltb, le-ltb}
use Rattle.std.proofs.Math.Bool.{and-false}
use Rattle.std.proofs.lemmas.Option.{slice_get_within, get_or_from_slice_get}
use Rattle.index_form.specs.Reading.{StoredRecord}
use Rattle.index_form.specs.Usable.{is_usable, usable_from}

-- the record at a place, and those behind it
pub drop-slice_get : {A : Type 0} (xs : List A) (place : ℕ) (x : A) → slice_get xs place ≡ Some x → drop place xs ≡ x ∷ drop (place + 1) xs
drop-slice_get xs place x is =
    drop-cons xs place x (slice_get_within xs place x is)
    ∙ (λ i. get_or_from_slice_get xs place x x is i ∷ drop (sym (add-one place) i) xs)

pub takes_usable : (stored : List StoredRecord) (place last : ℕ) (item : StoredRecord) → slice_get stored place ≡ Some item → is_usable last item ≡ true
    → usable_from place last (drop place stored) ≡ (place, item.fields) ∷ usable_from (place + 1) item.fields.uid (drop (place + 1) stored)
takes_usable stored place last item is usable = rw (drop-slice_get stored place item is, usable) refl

pub passes_over : (stored : List StoredRecord) (place last : ℕ) (item : StoredRecord) → slice_get stored place ≡ Some item → is_usable last item ≡ false
    → usable_from place last (drop place stored) ≡ usable_from (place + 1) last (drop (place + 1) stored)
passes_over stored place last item is other = rw (drop-slice_get stored place item is, other) refl

pub is_usable-true : (last : ℕ) (item : StoredRecord) → item.check_right ≡ true → last < item.fields.uid → is_usable last item ≡ true
is_usable-true last item right above = rw (right, lt-ltb last item.fields.uid above) refl

pub is_usable-false : (last : ℕ) (item : StoredRecord) → (item.check_right ≡ false) ⊎ (item.fields.uid ≤ last) → is_usable last item ≡ false
is_usable-false last item (inl wrong) = rw wrong refl
is_usable-false last item (inr below) = rw (le-ltb last item.fields.uid below) (and-false item.check_right)
