-- A field and the byte that ends it.
use Rattle.std.proofs.Common.{◌≡◌, ◌≢◌, ◌⊎◌, inl, inr, ⊎_elim, ℕ, zero, suc, ◌<◌, ◌≤◌, Bool, true, false, List, [], ◌∷◌, ◌++◌, length, get_or, take, refl, sym, ◌∙◌, ap, subst, arith}
use Rattle.std.specs.Prelude.{◌==◌, ◌&&◌, ◌||◌, not, flat_map}
use Rattle.base_bytes.specs.Escapes.{escaped_byte, escaped}
use Rattle.base_bytes.proofs.EscapeLemmas.{one_or_two, escapes}
use Rattle.flat_db.specs.FlatText.{IsFree}

both : (a b : Bool) → a ≡ true → b ≡ true → (a && b) ≡ true
both true true p q = refl
both true false p q = q
both false b p q = absurd (cc p)

pub first_of_both : (a b : Bool) → (a && b) ≡ true → a ≡ true
first_of_both true b p = refl
first_of_both false b p = p

pub second_of_both : (a b : Bool) → (a && b) ≡ true → b ≡ true
second_of_both true b p = p
second_of_both false b p = absurd (cc p)

not_true : (a : Bool) → (a ≡ true → ⊥) → not a ≡ true
not_true true never = absurd (never refl)
not_true false never = refl

not_both : (a : Bool) → not a ≡ true → a ≡ true → ⊥
not_both true p q = cc p
not_both false p q = cc q

same_byte : (n : ℕ) → (n == n) ≡ true
same_byte n = grind (arith)

pub free_take : (end n : ℕ) (xs : List ℕ) → n ≤ length xs → ((i : ℕ) → i < n → (get_or xs i 0 == end) ≡ true → ⊥) → IsFree end (take n xs)
free_take end zero xs fits none = refl
free_take end (suc n) [] fits none = absurd (omega (arith, fits))
free_take end (suc n) (x ∷ xs) fits none =
    both _ _ (not_true (x == end) (none 0 (omega arith))) (free_take end n xs (omega (arith, fits)) (λ i below. none (suc i) (omega arith)))

pub free_then : (end : ℕ) (xs ys : List ℕ) → IsFree end xs → IsFree end ys → IsFree end (xs ++ ys)
free_then end [] ys free other = other
free_then end (x ∷ xs) ys free other = both _ _ (first_of_both _ _ free) (free_then end xs ys (second_of_both _ _ free) other)

pub free_one : (end x : ℕ) → x ≢ end → IsFree end (x ∷ [])
free_one end x isnt = both _ _ (not_true (x == end) (λ is. isnt (grind (arith)))) refl

pub free_none : (end : ℕ) (xs ys : List ℕ) → IsFree end (xs ++ (end ∷ ys)) → ⊥
free_none end [] ys free = not_both (end == end) (first_of_both _ _ free) (same_byte end)
free_none end (x ∷ xs) ys free = free_none end xs ys (second_of_both _ _ free)

-- what stands before the first such byte, and after it
pub split_unique : (end : ℕ) (xs ys r s : List ℕ) → IsFree end xs → IsFree end ys → xs ++ (end ∷ r) ≡ ys ++ (end ∷ s) → (xs ≡ ys) × (r ≡ s)
split_unique end [] [] r s fx fy same = (refl, cc same)
split_unique end [] (y ∷ ys) r s fx fy same =
    let is : end ≡ y = cc same in
    absurd (not_both (y == end) (first_of_both _ _ fy) (subst (λ (n : ℕ). (n == end) ≡ true) is (same_byte end)))
split_unique end (x ∷ xs) [] r s fx fy same =
    let is : end ≡ x = cc same in
    absurd (not_both (x == end) (first_of_both _ _ fx) (subst (λ (n : ℕ). (n == end) ≡ true) is (same_byte end)))
split_unique end (x ∷ xs) (y ∷ ys) r s fx fy same =
    let head : x ≡ y = cc same in
    let rest = split_unique end xs ys r s (second_of_both _ _ fx) (second_of_both _ _ fy) (cc same) in
    (cc (head, rest.0), rest.1)

-- a list up to the first such byte, if there is one
pub record Split (end : ℕ) (xs : List ℕ) : Type 0 where
  pub front : List ℕ
  pub back : List ℕ
  pub free : IsFree end front
  pub is : xs ≡ front ++ (end ∷ back)

pub split_or_free : (end : ℕ) (xs : List ℕ) → Split end xs ⊎ IsFree end xs
split_or_free end [] = inr refl
split_or_free end (x ∷ xs) = by (x == end) refl (split_or_free end xs)
  where
    by : (b : Bool) → (x == end) ≡ b → Split end xs ⊎ IsFree end xs → Split end (x ∷ xs) ⊎ IsFree end (x ∷ xs)
    by true is later = inl (record { front = []; back = xs; free = refl; is = ap (λ (n : ℕ). n ∷ xs) (grind (arith)) })
    by false is (inl split) = inl (record {
      front = x ∷ split.front;
      back = split.back;
      free = both _ _ (not_true (x == end) (λ e. cc (sym is ∙ e))) split.free;
      is = ap (λ (l : List ℕ). x ∷ l) split.is;
    })
    by false is (inr free) = inr (both _ _ (not_true (x == end) (λ e. cc (sym is ∙ e))) free)

-- what is escaped ends no field and no line
byte_free : (end byte : ℕ) → (end ≡ 9) ⊎ (end ≡ 10) → IsFree end (escaped_byte byte)
unfolding escaped_byte
byte_free end byte side = by (one_or_two byte)
  where
    plain_isnt : (byte ≢ 255) × (escaped_byte byte ≡ byte ∷ []) → byte ≢ end
    plain_isnt p is = ⊎_elim (λ nine. other 9 (is ∙ nine) refl) (λ ten. other 10 (is ∙ ten) refl) side
      where
        other : (n : ℕ) → byte ≡ n → (n == 9 || n == 10) ≡ true → ⊥
        other n same which = grind (arith, p.1)

    by : ((byte ≢ 255) × (escaped_byte byte ≡ byte ∷ [])) ⊎ ((second : ℕ) × (escaped_byte byte ≡ 255 ∷ second ∷ [])) → IsFree end (escaped_byte byte)
    by (inl p) = subst (IsFree end) (sym p.1) (free_one end byte (plain_isnt p))
    by (inr q) = subst (IsFree end) (sym q.1) (free_then end (255 ∷ []) (q.0 ∷ []) (free_one end 255 (⊎_elim (λ n. λ e. omega (arith, n, e)) (λ n. λ e. omega (arith, n, e)) side))
        (free_one end q.0 (⊎_elim (λ same. ⊎_elim (λ n. λ e. omega (arith, same.1, n, e)) (λ n. λ e. omega (arith, same.1, n, e)) side) (λ low. ⊎_elim (λ n. λ e. omega (arith, low.0, n, e)) (λ n. λ e. omega (arith, low.0, n, e)) side) (escapes byte q.0 q.1))))

pub escaped_free : (end : ℕ) (bytes : List ℕ) → (end ≡ 9) ⊎ (end ≡ 10) → IsFree end (escaped bytes)
unfolding escaped
escaped_free end [] side = refl
escaped_free end (byte ∷ bytes) side = free_then end (escaped_byte byte) (flat_map escaped_byte bytes) (byte_free end byte side) (escaped_free end bytes side)

pub byte_is : (a b : ℕ) → (a == b) ≡ true → a ≡ b
byte_is a b is = grind (arith)
