-- The files with a deleted pair and with a circle, by computation.
use Rattle.std.proofs.Common.{[], ◌∷◌, Some, refl, inl, inr, arith, lit<}
use Rattle.check_word.specs.CheckWord.{after_byte, after_bits, after_bit}
use Rattle.base_bytes.specs.Fields.{part, u32_in, u64_in}
use Rattle.skip_form.specs.Fields.{u16_in}
use Rattle.skip_spec.specs.Opens.{Opens}
use Rattle.skip_spec.proofs.Flawless.{front_right, opens}
use Rattle.skip_spec.proofs.RecordBytes.{are_bytes}
use Rattle.skip_spec.specs.Chain.{Entry}
use Rattle.skip_spec.specs.Successor.{successor_under}
use Rattle.skip_spec.specs.FirstFlaw.{FirstFlaw, row_flaw, front_flaw, dummy_flaw, delete_flaw, way_flaw, live_flaw, end_flaw, next_flaw}
use Rattle.skip_spec.specs.Examples.{deleted_file, circular_file, circular_flaw, one_pair, pair_a, stored_image, torn_image, two_levels_file, two_pairs}

abbrev first : Entry
first = record { at = 336; level = 1; key = 97 ∷ []; value = 49 ∷ [] }

abbrev second : Entry
second = record { at = 376; level = 1; key = 98 ∷ []; value = 50 ∷ [] }

pub circular : FirstFlaw circular_file (Some circular_flaw)
unfolding row_flaw front_flaw dummy_flaw delete_flaw way_flaw live_flaw end_flaw next_flaw successor_under part u16_in u32_in u64_in after_byte after_bits after_bit
circular = inr (
  refl,
  (
    336 ∷ 376 ∷ 416 ∷ [],
    440,
    (refl, refl, lit< tt, (refl, refl, lit< tt, (refl, refl, lit< tt, refl))),
    inr (
      refl,
      inr (
        refl,
        (
          second ∷ first ∷ [],
          (refl, (λ e. omega (arith, e)), refl, (refl, (λ e. omega (arith, e)), refl, tt)),
          refl,
          inl (λ h. absurd cc),
        ),
      ),
    ),
  ),
)

-- the file with a deleted pair opens, as verification finds no live record and no flaw
pub deleted : Opens deleted_file []
unfolding row_flaw front_flaw dummy_flaw delete_flaw way_flaw live_flaw end_flaw next_flaw successor_under part u16_in u32_in u64_in after_byte after_bits after_bit
deleted =
    opens deleted_file (are_bytes deleted_file refl) (front_right deleted_file refl) (336 ∷ 376 ∷ 400 ∷ 424 ∷ [])
    (refl, refl, lit< tt, (refl, refl, lit< tt, (refl, refl, lit< tt, (refl, refl, lit< tt, refl))))
    refl [] tt refl refl

-- the file with two levels; the latest record comes first
abbrev level_two : Entry
level_two = record { at = 336; level = 2; key = 97 ∷ []; value = 49 ∷ [] }

abbrev level_one : Entry
level_one = record { at = 408; level = 1; key = 98 ∷ []; value = 50 ∷ [] }

pub two_levels : Opens two_levels_file two_pairs
unfolding row_flaw front_flaw dummy_flaw delete_flaw way_flaw live_flaw end_flaw next_flaw successor_under part u16_in u32_in u64_in after_byte after_bits after_bit
two_levels =
    opens two_levels_file (are_bytes two_levels_file refl) (front_right two_levels_file refl) (336 ∷ 384 ∷ 408 ∷ 448 ∷ [])
    (refl, refl, lit< tt, (refl, refl, lit< tt, (refl, refl, lit< tt, (refl, refl, lit< tt, refl))))
    refl (level_one ∷ level_two ∷ []) (refl, (λ e. omega (arith, e)), refl, (refl, (λ e. omega (arith, e)), refl, tt)) refl refl

-- the files that a stop left of a store: only the committed record is live
pub stored_opens : Opens stored_image one_pair
unfolding row_flaw front_flaw dummy_flaw delete_flaw way_flaw live_flaw end_flaw next_flaw successor_under part u16_in u32_in u64_in after_byte after_bits after_bit
stored_opens =
    opens stored_image (are_bytes stored_image refl) (front_right stored_image refl) (336 ∷ 376 ∷ []) (refl, refl, lit< tt, (refl, refl, lit< tt, refl))
    refl (pair_a ∷ []) (refl, (λ e. omega (arith, e)), refl, tt) refl refl

pub torn_opens : Opens torn_image one_pair
unfolding row_flaw front_flaw dummy_flaw delete_flaw way_flaw live_flaw end_flaw next_flaw successor_under part u16_in u32_in u64_in after_byte after_bits after_bit
torn_opens =
    opens torn_image (are_bytes torn_image refl) (front_right torn_image refl) (336 ∷ 376 ∷ []) (refl, refl, lit< tt, (refl, refl, lit< tt, refl))
    refl (pair_a ∷ []) (refl, (λ e. omega (arith, e)), refl, tt) refl refl
