-- What a file without a flaw is.
use Rattle.std.proofs.Common.{◌≡◌, ℕ, ◌+◌, ◌%◌, Bool, true, eqb, List, [], ◌∷◌, length, Option, Some, None, Result, Ok, Err, refl, sym, ap, subst, ◌∙◌, arith}
use Rattle.std.specs.Prelude.{not, ◌↔◌}
use Rattle.std.proofs.lemmas.Bool.{eq-eqb, ne_eqb}
use Rattle.base_bytes.specs.Fields.{AreBytes}
use Rattle.base_bytes.specs.declared.flaw.Damage.{Damage}
use Rattle.skip_form.specs.declared.header.Header.{Header}
use Rattle.skip_form.specs.Flaws.{header_in}
use Rattle.skip_form.proofs.HeaderLemmas.{header_flaw-header_bytes}
use Rattle.skip_spec.specs.Chain.{Entry, pairs}
use Rattle.skip_spec.specs.Opens.{IsDirty, Opens}
use Rattle.skip_spec.specs.FirstFlaw.{end_of, is_dirty, dummy_flaw, RightRows, FirstFlaw}
use Rattle.skip_spec.proofs.Flawless.{FrontIsRight, all_of, opens}
use Rattle.skip_spec.proofs.OneAnswer.{first_flaw_one}
use Rattle.skip_image.specs.Verifying.{IsVerified, HasList, answer_of}

all_long : (passed rest : List Entry) → length (all_of passed rest) ≡ length passed + length rest
all_long [] rest = omega arith
all_long (e ∷ passed) rest = omega (arith, all_long passed (e ∷ rest))

pairs_long : (es : List Entry) → length (pairs es) ≡ length es
pairs_long [] = refl
pairs_long (e ∷ es) = omega (arith, pairs_long es)

-- a test and what it says of DIRTY
clean_is : (dirty : Bool) (h : Header) → dirty ≡ eqb (h.flags % 2) 1 → (not dirty ≡ true) ↔ (IsDirty h → ⊥)
clean_is dirty h is = (λ clean set. let t = is ∙ eq-eqb _ 1 set in cc, λ never. ap not (is ∙ ne_eqb _ 1 never))

module _ (file : List ℕ) (bytes : AreBytes file) (front : FrontIsRight file) (starts : List ℕ) (rows : RightRows file 336 starts (end_of file)) (dummy : dummy_flaw file ≡ None) (count : ℕ) (list : HasList file starts count) (dirty : Bool) (is : dirty ≡ is_dirty file) where
  whole : Opens file (pairs (all_of list.0 []))
  whole = opens file bytes front starts rows dummy list.0 list.1 list.2 list.3

  same_header : header_in file ≡ whole.says.header
  same_header = (header_flaw-header_bytes file whole.says.header bytes whole.reads.fields whole.reads.header).1

  same_count : count ≡ length whole.says.chain
  same_count =
      sym list.4 ∙ omega (arith, all_long list.0 [], ap length whole.map, pairs_long whole.says.chain, pairs_long (all_of list.0 []))

  pub is_verified : IsVerified file count (not dirty)
  is_verified = record {
    says = whole.says;
    reads = whole.reads;
    sound = whole.sound;
    counted = same_count;
    is_clean = clean_is dirty whole.says.header (is ∙ ap (λ (h : Header). eqb (h.flags % 2) 1) same_header);
  }

-- the answer is an error where there is a flaw, and just this one
pub exact : {T : Type 0} (file : List ℕ) (r : Result T Damage) → FirstFlaw file (answer_of r) → (d : Damage) → (r ≡ Err d) ↔ FirstFlaw file (Some d)
exact file (Ok v) first d = (λ e. absurd cc, λ f. let clash : ◌≡◌ {A = Option Damage} None (Some d) = first_flaw_one file None (Some d) first f in absurd cc)
exact file (Err e) first d = (
  λ same. let one : e ≡ d = cc in subst (λ (x : Damage). FirstFlaw file (Some x)) one first,
  λ f. let one : ◌≡◌ {A = Option Damage} (Some e) (Some d) = first_flaw_one file (Some e) (Some d) first f in cc,
)
