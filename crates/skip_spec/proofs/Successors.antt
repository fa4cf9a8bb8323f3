-- The live record after another, as a function of the bytes.
use Rattle.std.proofs.Common.{◌≡◌, ◌≢◌, ℕ, Bool, true, false, cond, eqb, List, refl, sym, ap, subst, ◌∙◌, inl, inr, arith}
use Rattle.std.proofs.lemmas.Bool.{eq-eqb, ne_eqb}
use Rattle.skip_form.specs.declared.head.Kind as kinds
use Rattle.skip_form.specs.declared.head.Kind.TheVariants.{Put, Gone}
use Rattle.skip_form.specs.Fields.{pointer_in}
use Rattle.skip_form.specs.Flaws.{head_in}
use Rattle.skip_form.specs.Spelling.{type_byte}
use Rattle.skip_spec.specs.Records.{HasKind}
use Rattle.skip_spec.specs.Rows.{IsAmong, Rows}
use Rattle.skip_spec.specs.Successor.{LeadsTo, IsSuccessorUnder, is_of, successor_under}
use Rattle.skip_spec.proofs.Places.{within, laid-rows}
use Rattle.skip_spec.proofs.Pointers.{greatest_is}

-- ---- tests

pub chosen_first : {A : Type 0} (t : Bool) (x y : A) → t ≡ true → cond t x y ≡ x
chosen_first true x y e = refl
chosen_first false x y e = absurd cc

pub chosen_second : {A : Type 0} (t : Bool) (x y : A) → t ≡ false → cond t x y ≡ y
chosen_second false x y e = refl
chosen_second true x y e = absurd cc

pub of_kind : (file : List ℕ) (v : ℕ) (k : kinds.Kind) → HasKind file v k → is_of file v k ≡ true
of_kind file v k e = eq-eqb (type_byte (head_in file v).kind) (type_byte k) (ap type_byte e)

pub not_of : (file : List ℕ) (v : ℕ) (k l : kinds.Kind) → HasKind file v k → type_byte k ≢ type_byte l → is_of file v l ≡ false
not_of file v k l e differ = ne_eqb (type_byte (head_in file v).kind) (type_byte l) (λ same. differ (sym (ap type_byte e) ∙ same))

-- ---- successors

pub high_start : (file starts : List ℕ) (end : ℕ) → Rows file 336 starts end → (v : ℕ) → IsAmong starts v → v ≢ 0
high_start file starts end rows v m z = let low = (within file 336 starts end v (laid-rows file 336 starts end rows) m).low in omega (arith, low, z)

-- where a pointer leads: a delete record is passed
abbrev pub past_gone : List ℕ → ℕ → ℕ
past_gone file v = cond (eqb v 0) 0 (cond (is_of file v Gone) (pointer_in file v 0) v)

module _ (file starts : List ℕ) (some : (v : ℕ) → IsAmong starts v → v ≢ 0) where
  pub leads_past : (v next : ℕ) → LeadsTo file starts v next → past_gone file v ≡ next
  leads_past v next (inl z) = chosen_first (eqb v 0) 0 (cond (is_of file v Gone) (pointer_in file v 0) v) (eq-eqb v 0 z.0) ∙ sym z.1
  leads_past v next (inr (inl p)) =
      chosen_second (eqb v 0) 0 (cond (is_of file v Gone) (pointer_in file v 0) v) (ne_eqb v 0 (some v p.0))
      ∙ chosen_second (is_of file v Gone) (pointer_in file v 0) v (not_of file v Put Gone p.1 (λ e. omega (arith, e)))
      ∙ sym p.2
  leads_past v next (inr (inr p)) =
      chosen_second (eqb v 0) 0 (cond (is_of file v Gone) (pointer_in file v 0) v) (ne_eqb v 0 (some v p.start))
      ∙ chosen_first (is_of file v Gone) (pointer_in file v 0) v (of_kind file v Gone p.kind)
      ∙ p.pointer

  pub successor_of : (bound at next : ℕ) → IsSuccessorUnder file bound starts at next → successor_under file bound at ≡ next
  unfolding successor_under
  successor_of bound at next f =
      let is = greatest_is bound (pointer_in file at 0) (pointer_in file at 1) f.0 f.1 in
      subst (λ (v : ℕ). past_gone file v ≡ next) (sym is) (leads_past f.0 next f.2)
