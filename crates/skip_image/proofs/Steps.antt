-- From one live record to the next, by the byte of a type.
use Rattle.std.proofs.Common.{◌≡◌, ◌≢◌, ℕ, Bool, true, false, cond, eqb, List, slice_index, sym, ap, ◌∙◌, arith, Result, Ok, Err}
use Rattle.std.proofs.lemmas.Bool.{eq-eqb, ne_eqb}
use Rattle.base_bytes.specs.declared.flaw.Flaw.{Flaw}
use Rattle.skip_form.specs.declared.head.Head.{Head}
use Rattle.skip_form.specs.declared.head.Kind.TheVariants.{Dummy, Put, Gone, Commit}
use Rattle.skip_form.specs.Fields.{pointer_in}
use Rattle.skip_form.specs.Flaws.{kind_of}
use Rattle.skip_form.specs.Spelling.{type_byte}
use Rattle.skip_spec.specs.Successor.{pointer_under, successor_under, is_of}
use Rattle.skip_spec.proofs.Successors.{past_gone, chosen_first, chosen_second}

pub no_error : (r : Result Head Flaw) (h : Head) (f : Flaw) → r ≡ Ok h → r ≡ Err f → ⊥
no_error r h f good bad = let clash : ◌≡◌ {A = Result Head Flaw} (Ok h) (Err f) = sym good ∙ bad in absurd cc

no_gone : (a b c : Bool) → c ≡ false → type_byte (cond a Dummy (cond b Put (cond c Gone Commit))) ≢ 45
no_gone true b c e = λ f. omega (arith, f)
no_gone false true c e = λ f. omega (arith, f)
no_gone false false false e = λ f. omega (arith, f)
no_gone false false true e = absurd cc

pub is_gone : (file : List ℕ) (at : ℕ) → slice_index file at ≡ 45 → is_of file at Gone ≡ true
is_gone file at e = ap (λ (byte : ℕ). eqb (type_byte (kind_of byte)) 45) e

pub is_not_gone : (file : List ℕ) (at : ℕ) → slice_index file at ≢ 45 → is_of file at Gone ≡ false
is_not_gone file at ne =
    let byte = slice_index file at in
    ne_eqb (type_byte (kind_of byte)) 45 (no_gone (eqb byte 61) (eqb byte 43) (eqb byte 45) (ne_eqb byte 45 ne))

module _ (file : List ℕ) (bound at v : ℕ) (is : v ≡ pointer_under file bound at) where
  steps_past : successor_under file bound at ≡ past_gone file v
  unfolding successor_under
  steps_past = ap (past_gone file) (sym is)

  pub step_to_end : v ≡ 0 → 0 ≡ successor_under file bound at
  step_to_end z = sym (steps_past ∙ chosen_first (eqb v 0) 0 (cond (is_of file v Gone) (pointer_in file v 0) v) (eq-eqb v 0 z))

  pub step_to_live : v ≢ 0 → is_of file v Gone ≡ false → v ≡ successor_under file bound at
  step_to_live nz put =
      sym (steps_past
      ∙ chosen_second (eqb v 0) 0 (cond (is_of file v Gone) (pointer_in file v 0) v) (ne_eqb v 0 nz)
      ∙ chosen_second (is_of file v Gone) (pointer_in file v 0) v put)

  pub step_to_put : v ≢ 0 → slice_index file v ≢ 45 → v ≡ successor_under file bound at
  step_to_put nz ne = step_to_live nz (is_not_gone file v ne)

  pub step_over_gone : v ≢ 0 → is_of file v Gone ≡ true → pointer_in file v 0 ≡ successor_under file bound at
  step_over_gone nz gone =
      sym (steps_past
      ∙ chosen_second (eqb v 0) 0 (cond (is_of file v Gone) (pointer_in file v 0) v) (ne_eqb v 0 nz)
      ∙ chosen_first (is_of file v Gone) (pointer_in file v 0) v gone)

  pub step_past_gone : v ≢ 0 → slice_index file v ≡ 45 → pointer_in file v 0 ≡ successor_under file bound at
  step_past_gone nz e = step_over_gone nz (is_gone file v e)
