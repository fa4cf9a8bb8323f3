-- The pointers of a put record, by slots.
use Rattle.std.proofs.Common.{◌≡◌, ℕ, zero, suc, ◌+◌, ◌-◌, ◌<◌, ◌≤◌, List, length, take, get_or, refl, sym, ap, ◌∙◌, arith}
use Rattle.std.proofs.lemmas.List.{get_or-take, ext_get_or}
use Rattle.skip_form.specs.declared.head.Kind.TheVariants.{Put}
use Rattle.skip_spec.specs.Chain.{Entry}
use Rattle.skip_spec.specs.Change.{first_at}
use Rattle.skip_spec.specs.Opens.{on_level}
use Rattle.skip_spec.specs.Appending.{upper_pointers, pointers_to, record_of, put_entry, put_record}
use Rattle.skip_lists.specs.Levels.{ArePast}

length-upper : (level count : ℕ) (rest : List Entry) → length (upper_pointers level count rest) ≡ count
length-upper level zero rest = refl
length-upper level (suc count) rest = ap suc (length-upper (suc level) count rest)

upper_is : (level count : ℕ) (rest : List Entry) (i : ℕ) → i < count → get_or (upper_pointers level count rest) i 0 ≡ first_at (on_level (level + i) rest)
upper_is level zero rest i lt = absurd (omega (arith, lt))
upper_is level (suc count) rest zero lt = ap (λ (n : ℕ). first_at (on_level n rest)) (let e : level ≡ level + zero = omega arith in e)
upper_is level (suc count) rest (suc i) lt = upper_is (suc level) count rest i (omega (arith, lt)) ∙ ap (λ (n : ℕ). first_at (on_level n rest)) (let e : suc level + i ≡ level + suc i = omega arith in e)

pub pointers_are : (pointers : List ℕ) (rest : List Entry) (level height : ℕ) → 1 ≤ level → level ≤ height → ArePast pointers rest height → length (take (level + 1) pointers) ≡ level + 1 → take (level + 1) pointers ≡ pointers_to level rest
pointers_are pointers rest level height low le past long =
    let size = length-upper 1 (level - 1) rest in
    ext_get_or 0 (take (level + 1) pointers) (pointers_to level rest) (omega (arith, long, size, low)) (λ i lt. get_or-take (level + 1) pointers i 0 (omega (arith, lt, long)) ∙ each i (omega (arith, lt, long)))
  where
    each : (i : ℕ) → i < level + 1 → get_or pointers i 0 ≡ get_or (pointers_to level rest) i 0
    each zero lt = past.zero_is
    each (suc zero) lt = past.one_is
    each (suc (suc i)) lt =
        ap (λ (n : ℕ). get_or pointers n 0) (let e : suc (suc i) ≡ suc i + 1 = omega arith in e)
        ∙ past.upper (suc i) (omega arith) (omega (arith, lt, le))
        ∙ ap (λ (n : ℕ). first_at (on_level n rest)) (let e : suc i ≡ 1 + i = omega arith in e)
        ∙ sym (upper_is 1 (level - 1) rest i (omega (arith, lt)))

pub put_record_is : (at level height : ℕ) (pointers key value : List ℕ) (rest : List Entry) → 1 ≤ level → level ≤ height → ArePast pointers rest height → length (take (level + 1) pointers) ≡ level + 1
    → record_of Put level (take (level + 1) pointers) key value ≡ put_record (put_entry at level key value) rest
put_record_is at level height pointers key value rest low le past long = ap (λ (ps : List ℕ). record_of Put level ps key value) (pointers_are pointers rest level height low le past long)
