-- What the answer of `length` says of the main file.
use Rattle.std.proofs.Common.{◌≡◌, ℕ, ◌≤◌, List, Option, Some, None, length, refl, sym, ap, ◌∙◌, arith}
use Rattle.std.specs.Prelude.{IsSome}
use Rattle.base_devices.specs.CrashImages.{Image}
use Rattle.base_devices.specs.DiskCalls.{HasLength, HasOffset, IsLength}

pub absent_length : (main : Image) (answer : Option ℕ) → answer ≡ None → IsLength main answer → main ≡ None
absent_length None answer none is = refl
absent_length (Some b) answer none is = cc (none, is)

pub there_length : (main : Image) (answer : Option ℕ) (size : ℕ) → answer ≡ Some size → IsLength main answer → (b : List ℕ) × (main ≡ Some b) × (length b ≡ size)
there_length None answer size some is = cc (some, is)
there_length (Some b) answer size some is = let same : Some (length b) ≡ Some size = sym is ∙ some in (b, refl, cc same)

-- where it is told what the disk reads as, the main file is there and has this length
pub told_length : (reads : Option Image) (size : ℕ) → ((main : Image) → reads ≡ Some main → IsLength main (Some size)) → IsSome reads → HasLength reads size
told_length None size is told = absurd (cc told)
told_length (Some main) size is told = let there = there_length main (Some size) size refl (is main refl) in (there.0, ap Some there.1, there.2)

-- and each offset up to it is in the main file or at its end
pub told_offset : (reads : Option Image) (size at : ℕ) → ((main : Image) → reads ≡ Some main → IsLength main (Some size)) → at ≤ size → IsSome reads → HasOffset reads at
told_offset reads size at is inside told = let there = told_length reads size is told in (there.0, there.1, omega (arith, there.2, inside))

-- where a length was answered, the main file is not absent
pub told_there : (reads : Option Image) (size : ℕ) → ((main : Image) → reads ≡ Some main → IsLength main (Some size)) → reads ≡ Some None → ⊥
told_there reads size is absent = absurd (cc (is None absent))
