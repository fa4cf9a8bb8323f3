-- What is known of a file once it was read, and once it is open.
use Rattle.std.proofs.Common.{◌≡◌, ℕ, ◌≤◌, Bool, List, [], ◌∷◌, Some, Ok, length, refl, sym, ◌∙◌, arith}
use Rattle.base_bytes.specs.declared.limits.TheConstants.{SKIP_LIMIT}
use Rattle.base_devices.specs.CrashImages.{DiskState, WhereRead}
use Rattle.db_core.specs.Opening.{ChecksAs}
use Rattle.skip_spec.specs.Chain.{Entry, pairs}
use Rattle.skip_spec.specs.Opens.{Opens}
use Rattle.skip_image.specs.Verifying.{IsVerified}
use Rattle.skip_kind.specs.Kind.{skip_kind}

pairs_long : (es : List Entry) → length (pairs es) ≡ length es
pairs_long [] = refl
pairs_long (e ∷ es) = omega (arith, pairs_long es)

-- the file that verification accepts opens to the map of its live records
pub verified_opens : {count : ℕ} {clean : Bool} (bytes : List ℕ) (is : IsVerified bytes count clean) → Opens bytes (pairs is.says.chain)
verified_opens bytes is = record { says = is.says; reads = is.reads; map = refl; sound = is.sound }

-- and so many pairs are counted
pub checks_as : (old : DiskState) (bytes : List ℕ) (count : ℕ) (clean : Bool) → WhereRead old (λ main. main ≡ Some bytes) → length bytes ≤ SKIP_LIMIT → IsVerified bytes count clean
    → ChecksAs skip_kind old (Ok count)
checks_as old bytes count clean reads within is = record {
  counted = λ main read. (
    pairs is.says.chain,
    record { bytes = bytes; there = reads main read; within = within; so = verified_opens bytes is },
    is.counted ∙ sym (pairs_long is.says.chain),
  );
  refused = tt;
}
