-- The bytes of the empty file, by computation.
use Rattle.std.proofs.Common.{◌≡◌, ℕ, List, [], ◌++◌, refl, sym, subst}
use Rattle.check_word.specs.CheckWord.{after_byte, after_bits, after_bit}
use Rattle.skip_form.specs.declared.head.Kind.TheVariants.{Dummy}
use Rattle.skip_form.specs.Spelling.{header_bytes, record_bytes, head_bytes}
use Rattle.skip_spec.specs.Appending.{pointers_to}
use Rattle.skip_spec.specs.Layout.{fresh_layout}

-- its header, and its dummy with a tail check
abbrev pub bytes_with : ℕ → List ℕ
bytes_with tail =
    header_bytes (record { version = 1; generation = 1; num_records = 0; repack_size = 336; current_size = 336; flags = 0 })
    ++ head_bytes (record { kind = Dummy; level = 31; key_len = 0; value_len = 0; size = 272 }) (pointers_to 31 []) tail

empty_zero : bytes_with 0 ≡ fresh_layout 1 0 []
unfolding fresh_layout header_bytes record_bytes head_bytes after_byte after_bits after_bit
empty_zero = refl

-- the tail check of no bytes is zero
pub empty_is : (tail : ℕ) → tail ≡ 0 → bytes_with tail ≡ fresh_layout 1 0 []
empty_is tail is = subst (λ (n : ℕ). bytes_with n ≡ fresh_layout 1 0 []) (sym is) empty_zero
