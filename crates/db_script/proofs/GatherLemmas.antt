-- A script is read until its next line is held whole.
use Rattle.std.proofs.Common.{◌≡◌, ◌∙◌, ℕ, zero, suc, ◌+◌, Bool, true, false, List, [], ◌∷◌, Option, Some, None, length, take, drop, refl, sym, ap}
use Rattle.std.specs.Prelude.{is_some, IfSome, IsNone, nat_lt, ◌==◌, ◌||◌, if◌then◌else◌}
use Rattle.base_bytes.specs.declared.limits.TheConstants.{SCRIPT_LIMIT}
use Rattle.base_source.specs.SourceCalls.{SourceState}
use Rattle.db_script.specs.Fields.{behind, EndsAt, EndsNowhere}
use Rattle.db_script.specs.Reading.{ScriptState, is_gathered, KeepsScript}

pub nothing_behind : (end : ℕ) → behind end [] ≡ None
unfolding behind
nothing_behind end = refl

behind_skip : (end n : ℕ) (xs : List ℕ) → behind end (take n xs) ≡ None → behind end xs ≡ behind end (drop n xs)
unfolding behind
behind_skip end zero xs none = refl
behind_skip end (suc n) [] none = refl
behind_skip end (suc n) (x ∷ xs) none = by (x == end) refl (behind_skip end n xs)
  where
    by : (b : Bool) → (x == end) ≡ b → (behind end (take n xs) ≡ None → behind end xs ≡ behind end (drop n xs)) → behind end (x ∷ xs) ≡ behind end (drop n xs)
    by true here later = absurd (cc (sym (ap (λ (b : Bool). if b then Some (take n xs) else behind end (take n xs)) here) ∙ none))
    by false here later =
        ap (λ (b : Bool). if b then Some xs else behind end xs) here
        ∙ later (sym (ap (λ (b : Bool). if b then Some (take n xs) else behind end (take n xs)) here) ∙ none)

found : (o : Option ℕ) (xs : List ℕ) → IfSome o (λ at. EndsAt 10 xs at) → (IsNone o → EndsNowhere 10 xs) → is_some o ≡ is_some (behind 10 xs)
found None xs some none = sym (ap is_some (none refl).rest)
found (Some at) xs some none = sym (ap is_some some.rest)

pub gathered : (s : ScriptState) (seen : ℕ) (o : Option ℕ) → s.is_over ≡ false → nat_lt SCRIPT_LIMIT (s.size + length s.held) ≡ false → behind 10 (take seen s.held) ≡ None
    → IfSome o (λ at. EndsAt 10 (drop seen s.held) at) → (IsNone o → EndsNowhere 10 (drop seen s.held)) → is_some o ≡ is_gathered s
gathered s seen o going short free some none =
    found o (drop seen s.held) some none ∙ ap is_some (sym (behind_skip 10 seen s.held free))
    ∙ ap (λ (b : Bool). b || is_some (behind 10 s.held)) (sym short)
    ∙ ap (λ (b : Bool). b || nat_lt SCRIPT_LIMIT (s.size + length s.held) || is_some (behind 10 s.held)) (sym going)

no_more : (o : Option (List ℕ)) → is_some o ≡ false → o ≡ None
no_more None is = refl
no_more (Some l) is = absurd (cc is)

-- what is not gathered
pub record NotGathered (s : ScriptState) : Type 0 where
  pub going : s.is_over ≡ false
  pub short : nat_lt SCRIPT_LIMIT (s.size + length s.held) ≡ false
  pub free : behind 10 s.held ≡ None

pub not_gathered : (s : ScriptState) → is_gathered s ≡ false → NotGathered s
not_gathered s is = by s.is_over refl (nat_lt SCRIPT_LIMIT (s.size + length s.held)) refl is
  where
    by : (a : Bool) → s.is_over ≡ a → (b : Bool) → nat_lt SCRIPT_LIMIT (s.size + length s.held) ≡ b → (a || b || is_some (behind 10 s.held)) ≡ false → NotGathered s
    by true over b short is = absurd (cc is)
    by false over true short is = absurd (cc is)
    by false over false short is = record { going = over; short = short; free = no_more (behind 10 s.held) is }

pub keeps_none : (s : ScriptState) (a : SourceState) → KeepsScript s s a a
keeps_none s a = record { counts = (refl, refl); keeps = λ left was. (left, was, refl) }

pub keeps_then : (s t u : ScriptState) (a b c : SourceState) → KeepsScript s t a b → KeepsScript t u b c → KeepsScript s u a c
keeps_then s t u a b c first second = record {
  counts = (second.counts.0 ∙ first.counts.0, second.counts.1 ∙ first.counts.1);
  keeps = λ left was. let one = first.keeps left was in let two = second.keeps one.0 one.1 in (two.0, two.1, two.2 ∙ one.2);
}
