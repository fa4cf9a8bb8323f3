-- Numbers of 16 bits.
use Rattle.std.proofs.Common.{◌≡◌, ℕ, ◌+◌, ◌^◌, ◌<◌, ◌≤◌, List, length, refl, arith}
use Rattle.std.specs.Int.{w16, to_be_bytes}
use Rattle.std.proofs.lemmas.Nat.{be_bytes_2}
use Rattle.base_bytes.specs.Fields.{AreBytes, part}
use Rattle.base_bytes.proofs.Parts.{length-part, AreBytes-part}
use Rattle.skip_form.specs.Fields.{u16_in}

-- the number's bytes are those that stand there
pub to_be_bytes-u16_in : (b : List ℕ) (at : ℕ) → AreBytes b → at + 2 ≤ length b → to_be_bytes w16 (u16_in (part b at 2)) ≡ part b at 2
unfolding u16_in
to_be_bytes-u16_in b at fits within = be_bytes_2 (part b at 2) _ (length-part b at 2 within) (AreBytes-part b at 2 fits) refl

pub u16_in-lt : (b : List ℕ) (at : ℕ) → AreBytes b → u16_in (part b at 2) < 2 ^ 16
unfolding u16_in
u16_in-lt b at fits = let f = AreBytes-part b at 2 fits in omega (arith, f 0, f 1)
