-- Checks in a row, and the first that finds something.
use Rattle.std.proofs.Common.{◌≡◌, ℕ, Bool, List, [], ◌∷◌, Option, Some, None, Result, Ok, Err, refl, sym, ap, subst, ◌∙◌}
use Rattle.base_bytes.specs.declared.flaw.Flaw.{Flaw}
use Rattle.base_bytes.specs.declared.flaw.Damage.{Damage}
use Rattle.skip_spec.specs.FirstFlaw.{unless, first_some}
use Rattle.skip_image.specs.Verifying.{Finds}

pub step_over : (x : Option Damage) (rest : List (Option Damage)) → x ≡ None → first_some (x ∷ rest) ≡ first_some rest
step_over x rest e = ap (λ (y : Option Damage). first_some (y ∷ rest)) e

pub stop_at : (x : Option Damage) (d : Damage) (rest : List (Option Damage)) → x ≡ Some d → first_some (x ∷ rest) ≡ Some d
stop_at x d rest e = ap (λ (y : Option Damage). first_some (y ∷ rest)) e

pub last_check : (x : Option Damage) → first_some (x ∷ []) ≡ x
last_check None = refl
last_check (Some d) = refl

-- the exit of a check that finds something
pub found : {T : Type 0} (wrong : Option Damage) (r : Result T Damage) (d y : Damage) → r ≡ Err y → y ≡ d → wrong ≡ Some d → Finds wrong r
found wrong r d y is same e = subst (λ (x : Result _ Damage). Finds wrong x) (sym is) (e ∙ ap (λ (z : Damage). let o : Option Damage = Some z in o) (sym same))

-- what is found is found in the same by another name
pub found_as : {T : Type 0} (x y : Option Damage) (r : Result T Damage) → x ≡ y → Finds y r → Finds x r
found_as x y (Ok v) e f = e ∙ f
found_as x y (Err d) e f = e ∙ f

-- a check by a test with the value of another
pub same_unless : {T : Type 0} (a b : Bool) (at : ℕ) (f : Flaw) (r : Result T Damage) → a ≡ b → Finds (unless b at f) r → Finds (unless a at f) r
same_unless a b at f r e found = found_as (unless a at f) (unless b at f) r (ap (λ (t : Bool). unless t at f) e) found
