-- The files that the tests repair open, by computation.
use Rattle.std.proofs.Common.{ℕ, List, [], ◌∷◌, ◌++◌, refl, arith, lit<, replicate}
use Rattle.std.specs.Prelude.{codes}
use Rattle.base_bytes.specs.Fields.{part, u32_in, u64_in}
use Rattle.base_bytes.specs.OrderedMap.{Map}
use Rattle.check_word.specs.CheckWord.{after_byte, after_bits, after_bit}
use Rattle.skip_form.specs.Fields.{u16_in}
use Rattle.skip_spec.specs.Chain.{Entry}
use Rattle.skip_spec.specs.Examples.{header_of, word, long, put_bytes, commit_bytes, torn_image, one_pair, pair_a}
use Rattle.skip_spec.specs.FirstFlaw.{row_flaw, front_flaw, dummy_flaw, delete_flaw, way_flaw, live_flaw, end_flaw, next_flaw}
use Rattle.skip_spec.specs.Opens.{Opens}
use Rattle.skip_spec.specs.Successor.{successor_under}
use Rattle.skip_spec.proofs.Flawless.{front_right, opens}
use Rattle.skip_spec.proofs.RecordBytes.{are_bytes}

-- three records, and wrong heads
abbrev pub loose_file : List ℕ
loose_file =
    header_of 5 8 336 504 7 0xe3b12d3
    ++ (61 ∷ 31 ∷ replicate 6 0 ++ long 1000 ++ long 336 ++ long 432 ++ long 7 ++ replicate 16 0 ++ long 336 ++ replicate 192 0 ++ long 480 ++ word 0x01020304 ++ word 0)
    ++ put_bytes 3 (392 ∷ 504 ∷ 7 ∷ 392 ∷ []) (codes "a") (codes "1") 0xc15a3981 0x7777d1aa
    ++ put_bytes 1 (0 ∷ 432 ∷ []) (codes "b") (codes "2") 7 0xc810ccd4
    ++ put_bytes 2 (0 ∷ 0 ∷ 336 ∷ []) (codes "c") (codes "3") 0xa0804ca9 0xa2cdc7fe
    ++ commit_bytes 336 0x5dc51c1a
    ++ replicate 56 9

abbrev pub three_pairs : Map
three_pairs = (codes "a", codes "1") ∷ (codes "b", codes "2") ∷ (codes "c", codes "3") ∷ []

abbrev first : Entry
first = record { at = 336; level = 3; key = codes "a"; value = codes "1" }

abbrev second : Entry
second = record { at = 392; level = 1; key = codes "b"; value = codes "2" }

abbrev third : Entry
third = record { at = 432; level = 2; key = codes "c"; value = codes "3" }

pub loose : Opens loose_file three_pairs
unfolding row_flaw front_flaw dummy_flaw delete_flaw way_flaw live_flaw end_flaw next_flaw successor_under part u16_in u32_in u64_in after_byte after_bits after_bit
loose =
    opens loose_file (are_bytes loose_file refl) (front_right loose_file refl) (336 ∷ 392 ∷ 432 ∷ 480 ∷ [])
    (refl, refl, lit< tt, (refl, refl, lit< tt, (refl, refl, lit< tt, (refl, refl, lit< tt, refl))))
    refl (third ∷ second ∷ first ∷ []) (refl, (λ e. omega (arith, e)), refl, (refl, (λ e. omega (arith, e)), refl, (refl, (λ e. omega (arith, e)), refl, tt))) refl refl

-- of the head of the dummy only the check word has landed
pub torn : Opens torn_image one_pair
unfolding row_flaw front_flaw dummy_flaw delete_flaw way_flaw live_flaw end_flaw next_flaw successor_under part u16_in u32_in u64_in after_byte after_bits after_bit
torn =
    opens torn_image (are_bytes torn_image refl) (front_right torn_image refl) (336 ∷ 376 ∷ []) (refl, refl, lit< tt, (refl, refl, lit< tt, refl))
    refl (pair_a ∷ []) (refl, (λ e. omega (arith, e)), refl, tt) refl refl
