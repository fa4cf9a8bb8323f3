-- Tests in a row, each of which names a flaw.
use Rattle.std.proofs.Common.{◌≡◌, Bool, true, false, not, cond, Option, Some, None, refl}

-- where no flaw was named, the first test did not name one
pub passed : {A : Type 0} (t : Bool) (e : A) (r : Option A) → cond t (Some e) r ≡ None → (t ≡ false) × (r ≡ None)
passed true e r h = absurd cc
passed false e r h = (refl, h)

pub not_false : (t : Bool) → not t ≡ false → t ≡ true
not_false true h = refl
not_false false h = absurd cc
