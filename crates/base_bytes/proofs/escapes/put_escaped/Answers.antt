use Rattle.std.proofs.Common.{◌≡◌, ◌≤◌, ◌∷◌, [], ℕ, List, length, take, set, refl, sym, ◌∙◌, arith}
use Rattle.base_bytes.proofs.escapes.put_escaped.Goals as goal

two_set : (xs : List ℕ) (a b : ℕ) → 2 ≤ length xs → take 2 (set (set xs 0 a) 1 b) ≡ a ∷ b ∷ []
two_set [] a b room = absurd (omega (arith, room))
two_set (x ∷ []) a b room = absurd (omega (arith, room))
two_set (x ∷ y ∷ xs) a b room = refl

one_set : (xs : List ℕ) (a : ℕ) → 1 ≤ length xs → take 1 (set xs 0 a) ≡ a ∷ []
one_set [] a room = absurd (omega (arith, room))
one_set (x ∷ xs) a room = refl

pub returns-in-Some-clause-written : goal.returns-in-Some-clause-written
returns-in-Some-clause-written c = two_set _ _ _ (omega arith) ∙ sym c.in-Some.ensures.some

pub returns-in-None-clause-written : goal.returns-in-None-clause-written
returns-in-None-clause-written c = one_set _ _ (omega arith) ∙ sym (c.in-None.ensures.none refl)
