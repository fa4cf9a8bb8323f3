-- Where records start, and of which type they are.
use Rattle.std.proofs.Common.{◌≡◌, ◌≢◌, ℕ, ◌%◌, ◌≤◌, Bool, true, false, eqb, List, [], ◌∷◌, get_or, slice_index, IsTrue, Option, None, refl, sym, ap, ◌∙◌, inl, inr, arith}
use Rattle.std.specs.Prelude.{◌↔◌, ◌||◌}
use Rattle.std.proofs.lemmas.Bool.{eq-eqb}
use Rattle.base_bytes.specs.declared.flaw.Flaw.TheVariants.{Place, Kind}
use Rattle.base_bytes.specs.declared.flaw.Damage.{Damage}
use Rattle.base_bytes.specs.Fields.{AreBytes}
use Rattle.skip_form.specs.Flaws.{head_in}
use Rattle.skip_form.specs.Spelling.{type_byte}
use Rattle.skip_spec.specs.Rows.{IsAmong}
use Rattle.skip_spec.specs.FirstFlaw.{unless, first_some, end_of, is_among}
use Rattle.skip_spec.proofs.AnAnswer.{among}
use Rattle.skip_spec.proofs.Flawless.{row_stands}
use Rattle.skip_spec.proofs.Parts.{get_or-part}
use Rattle.skip_image.specs.Image.{HasRecord}
use Rattle.skip_image.specs.Verifying.{IsMarked}
use Rattle.skip_image.proofs.RowWalk.{row_among, start_aligned}

-- ---- starts

or_true : (a b : Bool) → b ≡ true → (a || b) ≡ true
or_true true b e = refl
or_true false b e = e

pub among_is : (starts : List ℕ) (v : ℕ) → IsAmong starts v → is_among starts v ≡ true
among_is [] v m = absurd m
among_is (s ∷ ss) v (inl e) = ap (λ (b : Bool). b || is_among ss v) (eq-eqb s v e)
among_is (s ∷ ss) v (inr m) = or_true (eqb s v) (is_among ss v) (among_is ss v m)

if_not : (t : Bool) → (t ≡ true → ⊥) → false ≡ t
if_not true never = absurd (never refl)
if_not false never = refl

same_truth : (a b : Bool) → (a ≡ true → b ≡ true) → (b ≡ true → a ≡ true) → a ≡ b
same_truth true b f g = sym (f refl)
same_truth false b f g = if_not b (λ e. let h : false ≡ true = g e in cc)

module _ (file marks starts : List ℕ) (m : IsMarked file marks starts) where
  pub past_end : (at : ℕ) → end_of file ≤ at → false ≡ is_among starts at
  past_end at le = if_not (is_among starts at) (λ t. let r = row_among file 336 starts (end_of file) at m.0 (among starts at t) in omega (arith, r.1, le))

  pub not_aligned : (at : ℕ) → at % 8 ≢ 0 → false ≡ is_among starts at
  not_aligned at odd = if_not (is_among starts at) (λ t. odd (start_aligned file 336 starts (end_of file) at refl m.0 (among starts at t)))

  pub as_marked : (at : ℕ) (b : Bool) → IsTrue b ↔ IsAmong starts at → b ≡ is_among starts at
  as_marked at b is = same_truth b (is_among starts at) (λ t. among_is starts at (is.0 t)) (λ t. is.1 (among starts at t))

  pub stands_there : AreBytes file → (at : ℕ) → is_among starts at ≡ true → HasRecord file at
  stands_there bytes at t = let r = row_among file 336 starts (end_of file) at m.0 (among starts at t) in row_stands file at bytes r.0

-- ---- types

pub type_is : (file : List ℕ) (at : ℕ) → HasRecord file at → slice_index file at ≡ type_byte (head_in file at).kind
type_is file at r =
    ap (λ (i : ℕ). get_or file i 0) (omega arith)
    ∙ sym (get_or-part file at 8 0 (omega arith))
    ∙ ap (λ (l : List ℕ). get_or l 0 0) r.opening

-- ---- a delete record, check by check

abbrev pub past_checks : Bool → Bool → Bool → ℕ → ℕ → List (Option Damage)
past_checks z a p at to = unless (z || a) at Place ∷ unless (z || p) to Kind ∷ []

pub ends_there : (z a p : Bool) (at to : ℕ) → z ≡ true → first_some (past_checks z a p at to) ≡ None
ends_there true a p at to e = refl
ends_there false a p at to e = absurd cc

pub goes_on : (z a p : Bool) (at to : ℕ) (x : Option Damage) → z ≡ false → first_some (unless a at Place ∷ unless p to Kind ∷ []) ≡ x → first_some (past_checks z a p at to) ≡ x
goes_on false a p at to x e f = f
goes_on true a p at to x e f = absurd cc
