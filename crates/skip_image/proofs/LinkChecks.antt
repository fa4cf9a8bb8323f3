-- Whether the latest records of the upper levels lead on.
use Rattle.std.proofs.Common.{◌≡◌, ◌≢◌, ℕ, zero, suc, ◌+◌, ◌-◌, ◌≤◌, Bool, false, eqb, List, slice_index, sym, ap, ◌∙◌, arith}
use Rattle.std.specs.Prelude.{◌&&◌}
use Rattle.std.proofs.lemmas.Bool.{eq-eqb, ne_eqb}
use Rattle.skip_form.specs.Fields.{pointer_in}
use Rattle.skip_spec.specs.Chain.{Entry}
use Rattle.skip_spec.specs.FirstFlaw.{latest_on, lead_to}
use Rattle.skip_image.specs.Verifying.{AreLatest}

module _ (file : List ℕ) (passed : List Entry) (last : List ℕ) (are : AreLatest last passed) (to : ℕ) where
  there : (k : ℕ) → suc k ≤ 30 → eqb (pointer_in file (latest_on (suc k) passed) (suc k + 1)) to ≡ eqb (pointer_in file (slice_index last (suc k)) (suc k + 1)) to
  there k le = ap (λ (at : ℕ). eqb (pointer_in file at (suc k + 1)) to) (sym (are (suc k) (omega arith) le))

  pub leads_on : (level : ℕ) → 1 ≤ level → level ≤ 30 → pointer_in file (slice_index last level) (level + 1) ≡ to → lead_to file passed to level ≡ lead_to file passed to (level - 1)
  leads_on zero low high e = absurd (omega (arith, low))
  leads_on (suc k) low high e = ap (λ (b : Bool). b && lead_to file passed to k) (there k high ∙ eq-eqb _ to e) ∙ ap (lead_to file passed to) (omega arith)

  pub leads_elsewhere : (level : ℕ) → 1 ≤ level → level ≤ 30 → pointer_in file (slice_index last level) (level + 1) ≢ to → lead_to file passed to level ≡ false
  leads_elsewhere zero low high ne = absurd (omega (arith, low))
  leads_elsewhere (suc k) low high ne = ap (λ (b : Bool). b && lead_to file passed to k) (there k high ∙ ne_eqb _ to ne)
