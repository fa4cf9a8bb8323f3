-- Slots that lead elsewhere, level by level.
use Rattle.std.proofs.Common.{◌≡◌, ℕ, ◌+◌, ◌≤◌, List, get_or, refl, sym, ap, subst, ◌∙◌, inl, inr, arith}
use Rattle.std.proofs.lemmas.Bool.{cases_lt, cases_eq}
use Rattle.base_devices.specs.CrashImages.{DiskState}
use Rattle.skip_form.specs.Fields.{pointer_in}
use Rattle.skip_form.specs.Flaws.{head_in}
use Rattle.skip_spec.specs.Rows.{IsAmong}
use Rattle.skip_spec.specs.Opens.{Contents, IsTidyHead}
use Rattle.skip_spec.specs.Near.{heads}
use Rattle.skip_spec.proofs.SameLog.{head_of_log}
use Rattle.skip_lists.specs.Heads.{SetsPointer, MaySet}
use Rattle.skip_lists.specs.Tie.{TiedToBase}
use Rattle.skip_lists.proofs.Frames.{other_pointer, right}
use Rattle.skip_recover.specs.Heads.{HaveSlots, LeadsSlot, LeadsLast}
use Rattle.skip_recover.proofs.Bases.{log, slot_here, has_one}

-- ---- one slot

module _ (base b : List ℕ) (says : Contents) (s : DiskState) (t : TiedToBase base says b s) (at slot to : ℕ) where
  -- an upper one may be led anywhere
  pub may_link : IsAmong (heads says) at → 2 ≤ slot → slot ≤ (head_in b at).level → MaySet base says b at slot to
  may_link is upper fits = record { inside = fits; known = λ lt. is; which = λ lt. inl upper }

  pub leads_slot : (c : List ℕ) → IsAmong (heads says) at → slot ≤ (head_in b at).level → SetsPointer b c at slot to → LeadsSlot base says b c at slot to
  leads_slot c is fits sets = record {
    there = sets.pointer;
    others = λ h i has which.
        other_pointer b c says.starts says.chain says.header.current_size (log base b says s t) at slot to is sets fits h i
        (head_of_log b says.starts says.chain says.header.current_size (log base b says s t) h has.0).0 which (slot_here base b says s t h i has);
    checks = λ h m old. right b c says.starts says.chain says.header.current_size (log base b says s t) at slot to is sets fits h m old;
  }

  pub leads_already : pointer_in b at slot ≡ to → LeadsSlot base says b b at slot to
  leads_already is = record { there = is; others = λ h i has which. refl; checks = λ h m old. old }

-- ---- one slot on each level

module _ (base : List ℕ) (says : Contents) where
  pub leads_none : (old last : List ℕ) (to : ℕ) → LeadsLast base says old old last 1 to
  leads_none old last to = record { done = λ i lo hi. absurd (omega arith); others = λ h i has side. refl; firsts = λ h m. refl; checks = λ h m is. is }

  pub leads_more : (old mid new last : List ℕ) (level to : ℕ) → 1 ≤ level → LeadsLast base says old mid last level to → LeadsSlot base says mid new (get_or last level 0) (level + 1) to → HaveSlots base says last level → LeadsLast base says old new last (level + 1) to
  leads_more old mid new last level to low l s have = record {
    done = λ i lo hi. elim (cases_lt i level) [
      | inl lt ↦ s.others (get_or last i 0) (i + 1) (have i lo lt) (inr (λ e. omega (arith, e, lt))) ∙ l.done i lo lt
      | inr ge ↦ let same : level ≡ i = omega arith in subst (λ (j : ℕ). pointer_in new (get_or last j 0) (j + 1) ≡ to) same s.there
    ];
    others = λ h i has side.
        s.others h (i + 1) has (elim (cases_eq i level) [
          | inr ne ↦ inr (λ e. ne (omega (arith, e)))
          | inl is ↦ elim side [
            | inl none ↦ absurd (omega (arith, is, none, low))
            | inr side ↦ elim side [
              | inl past ↦ absurd (omega (arith, is, past))
              | inr other ↦ inl (λ e. other (e ∙ ap (λ (j : ℕ). get_or last j 0) (sym is)))
            ]
          ]
        ])
        ∙ l.others h i has (elim side [
          | inl none ↦ inl none
          | inr side ↦ elim side [ inl past ↦ inr (inl (omega arith)) | inr other ↦ inr (inr other) ]
        ]);
    firsts = λ h m. s.others h 0 (m, omega arith) (inr (λ e. omega (arith, e))) ∙ l.firsts h m;
    checks = λ h m old. s.checks h m (l.checks h m old);
  }

-- tidy heads stay tidy
pub tidy_led : (base old : List ℕ) (says : Contents) (s : DiskState) (t : TiedToBase base says old s) (new last : List ℕ) (height to end : ℕ) → LeadsLast base says old new last height to → (h : ℕ) → IsAmong (heads says) h → IsTidyHead old end h → IsTidyHead new end h
tidy_led base old says s t new last height to end l h m tidy = (
  omega (arith, l.firsts h m, tidy.0),
  omega (arith, l.others h 0 (m, has_one base old says s t h m) (inl refl), tidy.1),
  l.checks h m tidy.2,
)
