-- What stands in the first eight bytes of a record, and what its tests say of it.
use Rattle.std.proofs.Common.{◌≡◌, ℕ, ◌+◌, ◌^◌, ◌<◌, ◌≤◌, ◌⊎◌, ◌↔◌, Bool, true, false, not, cond, eqb, leb, ◌&&◌, ◌||◌, List, [], ◌∷◌, ◌++◌, length, get_or, Option, Some, None, refl, sym, ap, subst, ◌∙◌, inl, inr, arith, nat_lt}
use Rattle.std.specs.Int.{w16, w32, to_be_bytes, from_be_bytes}
use Rattle.std.proofs.lemmas.Bool.{ltb-false, le-ltb, eqb-true, eqb-false, leb-true, le-leb}
use Rattle.std.proofs.lemmas.Nat.{from_be_bytes-to_be_bytes_2, from_be_bytes-to_be_bytes_4}
use Rattle.base_bytes.specs.declared.flaw.Flaw.{Flaw}
use Rattle.base_bytes.specs.declared.flaw.Flaw.TheVariants.{Short, Level, Extended, Kind}
use Rattle.skip_form.specs.declared.head.Head.{Head}
use Rattle.skip_form.specs.declared.head.Kind as kinds
use Rattle.skip_form.specs.declared.head.Kind.TheVariants.{Dummy, Put, Gone, Commit}
use Rattle.skip_form.specs.declared.opening.Opening.{Opening}
use Rattle.base_bytes.specs.Fields.{part, u32_in, AreBytes}
use Rattle.skip_form.specs.Fields.{u16_in}
use Rattle.skip_form.specs.Sizes.{record_size}
use Rattle.skip_form.specs.Spelling.{StandsAt, IsLevelOf, AreLengthsOf, opening_bytes, type_byte}
use Rattle.skip_form.specs.Flaws.{opening_in, is_kind_at, is_level, is_extended, head_flaw, head_in, kind_of}
use Rattle.base_bytes.proofs.Parts.{part-2, part-4, part-8, part-add, to_be_bytes-u32_in, u32_in-lt}
use Rattle.skip_form.proofs.Parts.{to_be_bytes-u16_in, u16_in-lt}
use Rattle.skip_form.proofs.TestLemmas.{passed, not_false}

-- ---- the tests, one by one

pub record Passes (count at : ℕ) (o : Opening) : Type 0 where
  pub room : at + 8 ≤ count
  pub kind : is_kind_at at o ≡ true
  pub level : is_level o ≡ true
  pub plain : is_extended o ≡ false
  pub inside : at + record_size o.level o.key_len o.value_len ≤ count

-- the first flaw of an opening in a file of so many bytes
abbrev flaw_of : ℕ → ℕ → Opening → Option Flaw
flaw_of count at o =
    cond (nat_lt count (at + 8)) (Some Short)
    (cond (not (is_kind_at at o)) (Some Kind)
    (cond (not (is_level o)) (Some Level)
    (cond (is_extended o) (Some Extended)
    (cond (nat_lt count (at + record_size o.level o.key_len o.value_len)) (Some Short) None))))

Passes-none : (count at : ℕ) (o : Opening) → flaw_of count at o ≡ None → Passes count at o
Passes-none count at o e =
    let room = passed (nat_lt count (at + 8)) Short _ e in
    let kind = passed (not (is_kind_at at o)) Kind _ room.1 in
    let level = passed (not (is_level o)) Level _ kind.1 in
    let plain = passed (is_extended o) Extended _ level.1 in
    let inside = passed (nat_lt count (at + record_size o.level o.key_len o.value_len)) Short _ plain.1 in
    record {
      room = ltb-false _ _ room.0;
      kind = not_false _ kind.0;
      level = not_false _ level.0;
      plain = plain.0;
      inside = ltb-false _ _ inside.0;
    }

none-Passes : (count at : ℕ) (o : Opening) → Passes count at o → flaw_of count at o ≡ None
none-Passes count at o p =
    step (nat_lt count (at + 8)) (is_kind_at at o) (is_level o) (is_extended o) (nat_lt count (at + record_size o.level o.key_len o.value_len))
    (le-ltb _ _ p.room) p.kind p.level p.plain (le-ltb _ _ p.inside)
  where
    step : (a b c d e : Bool) → a ≡ false → b ≡ true → c ≡ true → d ≡ false → e ≡ false → (let r : Option Flaw = cond a (Some Short) (cond (not b) (Some Kind) (cond (not c) (Some Level) (cond d (Some Extended) (cond e (Some Short) None)))) in r) ≡ None
    step false true true false false _ _ _ _ _ = refl
    step true b c d e h _ _ _ _ = absurd cc
    step false false c d e _ h _ _ _ = absurd cc
    step false true false d e _ _ h _ _ = absurd cc
    step false true true true e _ _ _ h _ = absurd cc
    step false true true false true _ _ _ _ h = absurd cc

-- ---- what they say

-- what an opening says once it passed
abbrev Says : ℕ → ℕ → ℕ → ℕ → ℕ → Type 0
Says at t l k v = (type_byte (kind_of t) ≡ t) × IsLevelOf (kind_of t) l × AreLengthsOf (kind_of t) k v × ((kind_of t ≡ Dummy) ↔ (at ≡ 64))

and_true : (a b : Bool) → (a && b) ≡ true → (a ≡ true) × (b ≡ true)
and_true true b e = (refl, e)
and_true false b e = absurd cc

or_false : (a b : Bool) → (a || b) ≡ false → (a ≡ false) × (b ≡ false)
or_false true b e = absurd cc
or_false false b e = (refl, e)

bare : (k v : ℕ) → (eqb k 0 && eqb v 0) ≡ true → (k ≡ 0) × (v ≡ 0)
bare k v e = let both = and_true (eqb k 0) (eqb v 0) e in (eqb-true _ _ both.0, eqb-true _ _ both.1)

decided : (a b : ℕ) → ((a ≡ b) × (eqb a b ≡ true)) ⊎ ((a ≡ b → ⊥) × (eqb a b ≡ false))
decided a b = go (eqb a b) refl
  where
    go : (t : Bool) → eqb a b ≡ t → ((a ≡ b) × (eqb a b ≡ true)) ⊎ ((a ≡ b → ⊥) × (eqb a b ≡ false))
    go true e = inl (eqb-true a b e, e)
    go false e = inr (eqb-false a b e, e)

-- a record without key and value, elsewhere than at 64
abbrev bare_elsewhere : ℕ → ℕ → ℕ → Bool
bare_elsewhere at k v = cond (eqb at 64) false (eqb k 0 && eqb v 0)

says_dummy : (at l k v : ℕ) → cond (eqb at 64) (eqb k 0 && eqb v 0) false ≡ true → eqb l 31 ≡ true → Says at 61 l k v
says_dummy at l k v e m = elim (decided at 64) [
  | inl d ↦ (refl, eqb-true _ _ m, bare k v (rw d.1 at e), (λ _. d.0, λ _. refl))
  | inr d ↦ absurd (let h : false ≡ true = rw d.1 at e in cc)
]

says_put : (at l k v : ℕ) → k < 2 ^ 16 → v < 2 ^ 32 → cond (eqb at 64) false true ≡ true → (leb 1 l && leb l 31) ≡ true → (eqb k 65535 || eqb v 4294967295) ≡ false → Says at 43 l k v
says_put at l k v hk hv e m x =
    let levels = and_true (leb 1 l) (leb l 31) m in
    let lengths = or_false (eqb k 65535) (eqb v 4294967295) x in
    let low = eqb-false _ _ lengths.0 in
    let high = eqb-false _ _ lengths.1 in
    elim (decided at 64) [
      | inl d ↦ absurd (let h : false ≡ true = rw d.1 at e in cc)
      | inr d ↦ (refl, (leb-true _ _ levels.0, leb-true _ _ levels.1), (grind (arith, low), grind (arith, high)), (λ h. absurd cc, λ h. absurd (d.0 h)))
    ]

says_gone : (at l k v : ℕ) → bare_elsewhere at k v ≡ true → eqb l 0 ≡ true → Says at 45 l k v
says_gone at l k v e m = elim (decided at 64) [
  | inl d ↦ absurd (let h : false ≡ true = rw d.1 at e in cc)
  | inr d ↦ (refl, eqb-true _ _ m, bare k v (rw d.1 at e), (λ h. absurd cc, λ h. absurd (d.0 h)))
]

says_commit : (at l k v : ℕ) → bare_elsewhere at k v ≡ true → eqb l 0 ≡ true → Says at 36 l k v
says_commit at l k v e m = elim (decided at 64) [
  | inl d ↦ absurd (let h : false ≡ true = rw d.1 at e in cc)
  | inr d ↦ (refl, eqb-true _ _ m, bare k v (rw d.1 at e), (λ h. absurd cc, λ h. absurd (d.0 h)))
]

no_other : (b r : Bool) → cond b false false ≡ true → ⊥
no_other true r e = cc
no_other false r e = cc

Passes-says : (count at : ℕ) (o : Opening) → o.key_len < 2 ^ 16 → o.value_len < 2 ^ 32 → Passes count at o → Says at o.type_byte o.level o.key_len o.value_len
Passes-says count at o hk hv p = go o.type_byte p.kind p.level
  where
    go : (t : ℕ) → is_kind_at at (record o { type_byte = t }) ≡ true → is_level (record o { type_byte = t }) ≡ true → Says at t o.level o.key_len o.value_len
    go t e m = elim (decided t 61) [
      | inl d ↦ subst (λ (t : ℕ). is_kind_at at (record o { type_byte = t }) ≡ true → is_level (record o { type_byte = t }) ≡ true → Says at t o.level o.key_len o.value_len) (sym d.0) (says_dummy at o.level o.key_len o.value_len) e m
      | inr d ↦ elim (decided t 43) [
        | inl d ↦ subst (λ (t : ℕ). is_kind_at at (record o { type_byte = t }) ≡ true → is_level (record o { type_byte = t }) ≡ true → Says at t o.level o.key_len o.value_len) (sym d.0) (λ e m. says_put at o.level o.key_len o.value_len hk hv e m p.plain) e m
        | inr f ↦ elim (decided t 45) [
          | inl d ↦ subst (λ (t : ℕ). is_kind_at at (record o { type_byte = t }) ≡ true → is_level (record o { type_byte = t }) ≡ true → Says at t o.level o.key_len o.value_len) (sym d.0) (says_gone at o.level o.key_len o.value_len) e m
          | inr g ↦ elim (decided t 36) [
            | inl d ↦ subst (λ (t : ℕ). is_kind_at at (record o { type_byte = t }) ≡ true → is_level (record o { type_byte = t }) ≡ true → Says at t o.level o.key_len o.value_len) (sym d.0) (says_commit at o.level o.key_len o.value_len) e m
            | inr h ↦ absurd (no_other (eqb at 64) true (rw (d.1, f.1, g.1, h.1) at e))
          ]
        ]
      ]
    ]

-- ---- the eight bytes

opening_spelled : (b : List ℕ) (at : ℕ) → AreBytes b → at + 8 ≤ length b → part b at 8 ≡ get_or b at 0 ∷ get_or b (at + 1) 0 ∷ to_be_bytes w16 (u16_in (part b (at + 2) 2)) ++ to_be_bytes w32 (u32_in (part b (at + 4) 4))
opening_spelled b at fits within =
    part-add b at 2 6 ∙ ap (λ r. r ++ part b (at + 2) 6) (part-2 b at (omega arith))
    ∙ ap (λ r. get_or b at 0 ∷ get_or b (at + 1) 0 ∷ r)
    (part-add b (at + 2) 2 4 ∙ ap (λ (k : ℕ). part b (at + 2) 2 ++ part b k 4) (let e : at + 2 + 2 ≡ at + 4 = omega arith in e)
    ∙ ap (λ r. r ++ part b (at + 4) 4) (sym (to_be_bytes-u16_in b (at + 2) fits (omega arith)))
    ∙ ap (λ r. to_be_bytes w16 (u16_in (part b (at + 2) 2)) ++ r) (sym (to_be_bytes-u32_in b (at + 4) fits (omega arith))))

pub head_inside : (b : List ℕ) (at : ℕ) → head_flaw b at ≡ None → at + (head_in b at).size ≤ length b
head_inside b at e = (Passes-none (length b) at (opening_in b at) e).inside

pub StandsAt-head_in : (b : List ℕ) (at : ℕ) → AreBytes b → head_flaw b at ≡ None → StandsAt b at (head_in b at)
StandsAt-head_in b at fits e =
    let passes = Passes-none (length b) at (opening_in b at) e in
    let says = Passes-says (length b) at (opening_in b at) (u16_in-lt b (at + 2) fits) (u32_in-lt b (at + 4) fits) passes in
    record {
      opening = opening_spelled b at fits passes.room ∙ ap (λ (t : ℕ). t ∷ get_or b (at + 1) 0 ∷ to_be_bytes w16 (u16_in (part b (at + 2) 2)) ++ to_be_bytes w32 (u32_in (part b (at + 4) 4))) (sym says.0);
      head = record { level = says.1; lengths = says.2; size = refl };
      place = says.3;
      inside = passes.inside;
    }

-- ---- and back

-- the opening of a head
abbrev opening_of : Head → Opening
opening_of h = record { type_byte = type_byte h.kind; level = h.level; key_len = h.key_len; value_len = h.value_len }

pub lengths_fit : (k : kinds.Kind) (key value : ℕ) → AreLengthsOf k key value → (key < 2 ^ 16) × (value < 2 ^ 32)
lengths_fit Dummy key value is = (omega (arith, is.0), omega (arith, is.1))
lengths_fit Put key value is = (omega (arith, is.0), omega (arith, is.1))
lengths_fit Gone key value is = (omega (arith, is.0), omega (arith, is.1))
lengths_fit Commit key value is = (omega (arith, is.0), omega (arith, is.1))

opening_read : (b : List ℕ) (at : ℕ) (h : Head) → at + 8 ≤ length b → h.key_len < 2 ^ 16 → h.value_len < 2 ^ 32 → part b at 8 ≡ opening_bytes h → opening_in b at ≡ opening_of h
unfolding u16_in u32_in
opening_read b at h within hk hv e =
    let all = sym (part-8 b at within) ∙ e in
    let k : part b (at + 2) 2 ≡ to_be_bytes w16 h.key_len =
    part-2 b (at + 2) (omega arith) ∙ ap (λ (i : ℕ). get_or b (at + 2) 0 ∷ get_or b i 0 ∷ []) (let a : at + 2 + 1 ≡ at + 3 = omega arith in a)
    ∙ ap (λ (xs : List ℕ). get_or xs 2 0 ∷ get_or xs 3 0 ∷ []) all in
    let five : at + 4 + 1 ≡ at + 5 = omega arith in
    let six : at + 4 + 2 ≡ at + 6 = omega arith in
    let seven : at + 4 + 3 ≡ at + 7 = omega arith in
    let v : part b (at + 4) 4 ≡ to_be_bytes w32 h.value_len =
    part-4 b (at + 4) (omega arith) ∙ (λ i. get_or b (at + 4) 0 ∷ get_or b (five i) 0 ∷ get_or b (six i) 0 ∷ get_or b (seven i) 0 ∷ [])
    ∙ ap (λ (xs : List ℕ). get_or xs 4 0 ∷ get_or xs 5 0 ∷ get_or xs 6 0 ∷ get_or xs 7 0 ∷ []) all in
    let t = ap (λ (xs : List ℕ). get_or xs 0 0) all in
    let l = ap (λ (xs : List ℕ). get_or xs 1 0) all in
    let key_is = ap (from_be_bytes w16) k ∙ from_be_bytes-to_be_bytes_2 h.key_len hk in
    let value_is = ap (from_be_bytes w32) v ∙ from_be_bytes-to_be_bytes_4 h.value_len hv in
    λ i. record { type_byte = t i; level = l i; key_len = key_is i; value_len = value_is i }

pub kind_again : (k : kinds.Kind) → kind_of (type_byte k) ≡ k
kind_again Dummy = refl
kind_again Put = refl
kind_again Gone = refl
kind_again Commit = refl

abbrev Tests : ℕ → ℕ → ℕ → ℕ → ℕ → Type 0
Tests at t l k v = let o : Opening = record { type_byte = t; level = l; key_len = k; value_len = v } in (is_kind_at at o ≡ true) × (is_level o ≡ true) × (is_extended o ≡ false)

differs : (a b : ℕ) → (a ≡ b → ⊥) → eqb a b ≡ false
differs a b apart = elim (decided a b) [ inl d ↦ absurd (apart d.0) | inr d ↦ d.1 ]

tests_again : (kind : kinds.Kind) (at l k v : ℕ) → IsLevelOf kind l → AreLengthsOf kind k v → ((kind ≡ Dummy) ↔ (at ≡ 64)) → Tests at (type_byte kind) l k v
tests_again Dummy at l k v level lengths place =
    rw (place.0 refl, level, lengths.0, lengths.1) (refl, refl, refl)
tests_again Put at l k v level lengths place =
    let elsewhere : eqb at 64 ≡ false = differs at 64 (λ e. let h : Put ≡ Dummy = place.1 e in cc) in
    let key : eqb k 65535 ≡ false = differs k 65535 (λ e. omega (arith, lengths.0)) in
    let value : eqb v 4294967295 ≡ false = differs v 4294967295 (λ e. omega (arith, lengths.1)) in
    let low : leb 1 l ≡ true = le-leb _ _ level.0 in
    let high : leb l 31 ≡ true = le-leb _ _ level.1 in
    rw (elsewhere, low, high, key, value) (refl, refl, refl)
tests_again Gone at l k v level lengths place =
    let elsewhere : eqb at 64 ≡ false = differs at 64 (λ e. let h : Gone ≡ Dummy = place.1 e in cc) in
    rw (elsewhere, level, lengths.0, lengths.1) (refl, refl, refl)
tests_again Commit at l k v level lengths place =
    let elsewhere : eqb at 64 ≡ false = differs at 64 (λ e. let h : Commit ≡ Dummy = place.1 e in cc) in
    rw (elsewhere, level, lengths.0, lengths.1) (refl, refl, refl)

pub head_flaw-StandsAt : (b : List ℕ) (at : ℕ) (h : Head) → StandsAt b at h → (head_flaw b at ≡ None) × (head_in b at ≡ h)
head_flaw-StandsAt b at h stands =
    let fit = lengths_fit h.kind h.key_len h.value_len stands.head.lengths in
    let size = stands.head.size in
    let inside : at + record_size h.level h.key_len h.value_len ≤ length b = omega (arith, stands.inside, size) in
    let read : opening_in b at ≡ opening_of h = opening_read b at h (omega (arith, inside)) fit.0 fit.1 stands.opening in
    let tests = tests_again h.kind at h.level h.key_len h.value_len stands.head.level stands.head.lengths stands.place in
    let kind = kind_again h.kind in (
      ap (flaw_of (length b) at) read ∙ none-Passes (length b) at (opening_of h) (record { room = omega (arith, inside); kind = tests.0; level = tests.1; plain = tests.2; inside = inside }),
      ap (λ (o : Opening). let h : Head = record { kind = kind_of o.type_byte; level = o.level; key_len = o.key_len; value_len = o.value_len; size = record_size o.level o.key_len o.value_len } in h) read
          ∙ (λ i. record { kind = kind i; level = h.level; key_len = h.key_len; value_len = h.value_len; size = sym size i }),
    )
