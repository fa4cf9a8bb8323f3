-- A text has one reading, or its first flaw at one place.
use Rattle.std.proofs.Common.{◌≡◌, ◌≢◌, ◌⊎◌, inl, inr, ⊎_elim, ℕ, zero, suc, ◌+◌, ◌-◌, ◌≤◌, List, [], ◌∷◌, ◌++◌, Option, Some, None, length, refl, sym, ◌∙◌, ap, subst, arith, length-append}
use Rattle.base_bytes.specs.Escapes.{Spells}
use Rattle.base_bytes.specs.declared.flaw.Damage.{Damage}
use Rattle.base_bytes.specs.declared.flaw.Flaw.{Flaw}
use Rattle.base_bytes.specs.declared.flaw.Flaw.TheVariants.{NoTab, BadEscape, EmptyKey}
use Rattle.base_bytes.proofs.EscapeLaws.{fields_read_back}
use Rattle.flat_db.specs.FlatText.{IsFree, HasLine, HasFields, SaysPair, SaysPairs, put_all, IsBadInFields, IsLineFlaw, without_tab, with_bad_escape, with_empty_key, IsFlawedAt, FirstFlatFlaw}
use Rattle.flat_db.specs.Laws.{TextIsOneMap, FirstFlawIsOne, FirstFlawExists, FlawlessOpens}
use Rattle.flat_db.proofs.FieldLemmas.{split_unique, free_none, Split, split_or_free}

-- ---- lines

same_line : (text line later other rest : List ℕ) → HasLine text line later → HasLine text other rest → (line ≡ other) × (later ≡ rest)
same_line text line later other rest one two = by one.ends two.ends
  where
    by : (text ≡ line ++ (10 ∷ later)) ⊎ ((text ≡ line) × (later ≡ [])) → (text ≡ other ++ (10 ∷ rest)) ⊎ ((text ≡ other) × (rest ≡ [])) → (line ≡ other) × (later ≡ rest)
    by (inl a) (inl b) = split_unique 10 line other later rest one.whole two.whole (sym a ∙ b)
    by (inl a) (inr b) = absurd (free_none 10 line later (subst (IsFree 10) (sym b.0 ∙ a) two.whole))
    by (inr a) (inl b) = absurd (free_none 10 other rest (subst (IsFree 10) (sym a.0 ∙ b) one.whole))
    by (inr a) (inr b) = (sym a.0 ∙ b.0, a.1 ∙ sym b.1)

same_fields : (line key value k v : List ℕ) → HasFields line key value → HasFields line k v → (key ≡ k) × (value ≡ v)
same_fields line key value k v one two = split_unique 9 key k value v one.first two.first (sym one.split ∙ two.split)

same_pair : (p q : List ℕ × List ℕ) → p.0 ≡ q.0 → p.1 ≡ q.1 → p ≡ q
same_pair p q key value = ap (λ (k : List ℕ). (k, p.1)) key ∙ ap (λ (v : List ℕ). (q.0, v)) value

says_one : (line : List ℕ) (p q : List ℕ × List ℕ) → SaysPair line p → SaysPair line q → p ≡ q
says_one line p q one two =
    let fields = same_fields line _ _ _ _ one.fields two.fields in
    same_pair p q
    (fields_read_back.once two.key_field p.0 q.0 (subst (λ (l : List ℕ). Spells p.0 l) fields.0 one.key) two.key)
    (fields_read_back.once two.value_field p.1 q.1 (subst (λ (l : List ℕ). Spells p.1 l) fields.1 one.value) two.value)

-- a line that says a pair has no flaw
sound_or_not : (line : List ℕ) (p : List ℕ × List ℕ) (at : ℕ) (check : Flaw) → SaysPair line p → IsLineFlaw line at check → ⊥
sound_or_not line p at fault says (without_tab free place is) = free_none 9 says.key_field says.value_field (subst (IsFree 9) says.fields.split free)
sound_or_not line p at fault says (with_bad_escape key value fields bad is) = ⊎_elim
    (λ at_key. fields_read_back.never_both key p.0 at (subst (λ (l : List ℕ). Spells p.0 l) same.0 says.key) at_key)
    (λ later. fields_read_back.never_both value p.1 later.2 (subst (λ (l : List ℕ). Spells p.1 l) same.1 says.value) later.3) bad
  where
    same : (says.key_field ≡ key) × (says.value_field ≡ value)
    same = same_fields line _ _ _ _ says.fields fields
sound_or_not line p at fault says (with_empty_key value bytes fields spells place is) =
    let same = same_fields line _ _ _ _ says.fields fields in
    says.some (fields_read_back.once [] p.0 [] (subst (λ (l : List ℕ). Spells p.0 l) same.0 says.key) refl)

-- a line has one flaw
bad_once : (key value : List ℕ) (a b : ℕ) → IsBadInFields key value a → IsBadInFields key value b → a ≡ b
bad_once key value a b (inl one) (inl two) = fields_read_back.place key a b one two
bad_once key value a b (inl one) (inr two) = absurd (fields_read_back.never_both key two.0 a two.1 one)
bad_once key value a b (inr one) (inl two) = absurd (fields_read_back.never_both key one.0 b one.1 two)
bad_once key value a b (inr one) (inr two) = omega (arith, one.4, two.4, fields_read_back.place value one.2 two.2 one.3 two.3)

no_bad : (value bytes : List ℕ) (at : ℕ) → Spells bytes value → IsBadInFields [] value at → ⊥
no_bad value bytes at spells (inl bad) = fields_read_back.never_both [] [] at refl bad
no_bad value bytes at spells (inr bad) = fields_read_back.never_both value bytes bad.2 spells bad.3

flaw_once : (line : List ℕ) (a b : ℕ) (f g : Flaw) → IsLineFlaw line a f → IsLineFlaw line b g → (a ≡ b) × (f ≡ g)
flaw_once line a b f g (without_tab free place is) (without_tab free' place' is') = (place ∙ sym place', is ∙ sym is')
flaw_once line a b f g (without_tab free place is) (with_bad_escape key value fields bad is') = absurd (free_none 9 key value (subst (IsFree 9) fields.split free))
flaw_once line a b f g (without_tab free place is) (with_empty_key value bytes fields spells place' is') = absurd (free_none 9 [] value (subst (IsFree 9) fields.split free))
flaw_once line a b f g (with_bad_escape key value fields bad is) (without_tab free place' is') = absurd (free_none 9 key value (subst (IsFree 9) fields.split free))
flaw_once line a b f g (with_bad_escape key value fields bad is) (with_bad_escape k v fields' bad' is') =
    let same = same_fields line key value k v fields fields' in
    (bad_once k v a b (subst (λ (l : List ℕ). IsBadInFields l v a) same.0 (subst (λ (l : List ℕ). IsBadInFields key l a) same.1 bad)) bad', is ∙ sym is')
flaw_once line a b f g (with_bad_escape key value fields bad is) (with_empty_key v bytes fields' spells place' is') =
    let same = same_fields line key value [] v fields fields' in
    absurd (no_bad v bytes a spells (subst (λ (l : List ℕ). IsBadInFields l v a) same.0 (subst (λ (l : List ℕ). IsBadInFields key l a) same.1 bad)))
flaw_once line a b f g (with_empty_key v bytes fields spells place is) (without_tab free place' is') = absurd (free_none 9 [] v (subst (IsFree 9) fields.split free))
flaw_once line a b f g (with_empty_key v bytes fields spells place is) (with_bad_escape key value fields' bad is') =
    let same = same_fields line key value [] v fields' fields in
    absurd (no_bad v bytes b spells (subst (λ (l : List ℕ). IsBadInFields l v b) same.0 (subst (λ (l : List ℕ). IsBadInFields key l b) same.1 bad)))
flaw_once line a b f g (with_empty_key v bytes fields spells place is) (with_empty_key v' bytes' fields' spells' place' is') = (place ∙ sym place', is ∙ sym is')

-- each line says a pair or has a flaw
abbrev Sound : List ℕ → Type 0
Sound line = (p : List ℕ × List ℕ) × SaysPair line p

abbrev Flawed : List ℕ → Type 0
Flawed line = (at : ℕ) × (check : Flaw) × IsLineFlaw line at check

with_fields : (line key value k v : List ℕ) → HasFields line key value → Spells k key → Spells v value → Sound line ⊎ Flawed line
with_fields line [] value k v fields says_key says_value = inr (0, EmptyKey, with_empty_key value v fields says_value refl refl)
with_fields line (x ∷ key) value [] v fields says_key says_value = absurd (cc says_key)
with_fields line (x ∷ key) value (y ∷ k) v fields says_key says_value =
    inl ((y ∷ k, v), record { key_field = x ∷ key; value_field = value; fields = fields; key = says_key; value = says_value; some = λ is. cc is })

sound_or_flawed : (line : List ℕ) → Sound line ⊎ Flawed line
sound_or_flawed line = ⊎_elim with_tab (λ free. inr (0, NoTab, without_tab free refl refl)) (split_or_free 9 line)
  where
    with_tab : Split 9 line → Sound line ⊎ Flawed line
    with_tab tab =
        let fields : HasFields line tab.front tab.back = record { split = tab.is; first = tab.free } in
        ⊎_elim
        (λ key. ⊎_elim
        (λ value. with_fields line tab.front tab.back key.0 value.0 fields key.1 value.1)
        (λ bad. inr (length tab.front + 1 + bad.0, BadEscape, with_bad_escape tab.front tab.back fields (inr (key.0, key.1, bad.0, bad.1, refl)) refl))
        (fields_read_back.either tab.back))
        (λ bad. inr (bad.0, BadEscape, with_bad_escape tab.front tab.back fields (inl bad.1) refl))
        (fields_read_back.either tab.front)

-- a text that is not empty has a first line
first_line : (text : List ℕ) → text ≢ [] → (line : List ℕ) × (later : List ℕ) × HasLine text line later
first_line text some = ⊎_elim
    (λ split. (split.front, split.back, record { some = some; whole = split.free; ends = inl split.is }))
    (λ free. (text, [], record { some = some; whole = free; ends = inr (refl, refl) })) (split_or_free 10 text)

-- what follows a line is shorter
pub later_shorter : (text line later : List ℕ) → HasLine text line later → length later + 1 ≤ length text
later_shorter text line later has = by has.ends
  where
    some : (xs : List ℕ) → xs ≢ [] → 1 ≤ length xs
    some [] isnt = absurd (isnt refl)
    some (x ∷ xs) isnt = omega arith

    by : (text ≡ line ++ (10 ∷ later)) ⊎ ((text ≡ line) × (later ≡ [])) → length later + 1 ≤ length text
    by (inl is) = omega (arith, ap length is, length-append line (10 ∷ later))
    by (inr is) = omega (arith, ap length is.1, some text has.some)

-- ---- readings

-- no line that says a pair is next
abbrev Stops : List ℕ → Type 0
Stops rest = (line later : List ℕ) (p : List ℕ × List ℕ) → HasLine rest line later → SaysPair line p → ⊥

nothing_stops : Stops []
nothing_stops line later p has says = has.some refl

flaw_stops : (rest line later : List ℕ) (at : ℕ) (check : Flaw) → HasLine rest line later → IsLineFlaw line at check → Stops rest
flaw_stops rest line later at check first flaw other more p has says =
    let same = same_line rest line later other more first has in
    sound_or_not line p at check (subst (λ (l : List ℕ). SaysPair l p) (sym same.0) says) flaw

-- two readings that go as far as they can are the same
same_reading : (m n : List (List ℕ × List ℕ)) (text r s : List ℕ) → SaysPairs text m r → SaysPairs text n s → Stops r → Stops s → (m ≡ n) × (r ≡ s)
same_reading [] [] text r s one two stops ends = (refl, sym one ∙ two)
same_reading [] (q ∷ n) text r s one two stops ends = absurd (stops two.0 two.1 q (subst (λ (l : List ℕ). HasLine l two.0 two.1) one two.2) two.3)
same_reading (p ∷ m) [] text r s one two stops ends = absurd (ends one.0 one.1 p (subst (λ (l : List ℕ). HasLine l one.0 one.1) two one.2) one.3)
same_reading (p ∷ m) (q ∷ n) text r s one two stops ends =
    let lines = same_line text one.0 one.1 two.0 two.1 one.2 two.2 in
    let pair = says_one two.0 p q (subst (λ (l : List ℕ). SaysPair l p) lines.0 one.3) two.3 in
    let later = same_reading m n two.1 r s (subst (λ (l : List ℕ). SaysPairs l m r) lines.1 one.4) two.4 stops ends in
    (ap (λ (x : List ℕ × List ℕ). x ∷ m) pair ∙ ap (λ (l : List (List ℕ × List ℕ)). q ∷ l) later.0, later.1)

pub text_is_one_map : TextIsOneMap
text_is_one_map text m n one two =
    let same = same_reading one.pairs two.pairs text [] [] one.lines two.lines nothing_stops nothing_stops in
    one.later_wins ∙ ap put_all same.0 ∙ sym two.later_wins

same_damage : (a b : Damage) → a.at ≡ b.at → a.check ≡ b.check → a ≡ b
same_damage a b at check = ap (λ (n : ℕ). record { at = n; check = a.check }) at ∙ ap (λ (f : Flaw). record { at = b.at; check = f }) check

pub flaw_or_map : (text : List ℕ) (d : Damage) (pairs : List (List ℕ × List ℕ)) → IsFlawedAt text d → SaysPairs text pairs [] → ⊥
flaw_or_map text d pairs flaw lines =
    let same = same_reading flaw.before pairs text flaw.rest [] flaw.sound lines (flaw_stops flaw.rest flaw.line flaw.later flaw.offset d.check flaw.first flaw.flaw) nothing_stops in
    flaw.first.some same.1

pub first_flaw_is_one : FirstFlawIsOne
first_flaw_is_one text None None one two = refl
first_flaw_is_one text None (Some d) one two = absurd (flaw_or_map text d one.0 two one.1)
first_flaw_is_one text (Some d) None one two = absurd (flaw_or_map text d two.0 one two.1)
first_flaw_is_one text (Some d) (Some e) one two =
    let same = same_reading one.before two.before text one.rest two.rest one.sound two.sound
    (flaw_stops one.rest one.line one.later one.offset d.check one.first one.flaw) (flaw_stops two.rest two.line two.later two.offset e.check two.first two.flaw) in
    let lines = same_line two.rest one.line one.later two.line two.later (subst (λ (l : List ℕ). HasLine l one.line one.later) same.1 one.first) two.first in
    let flaws = flaw_once two.line one.offset two.offset d.check e.check (subst (λ (l : List ℕ). IsLineFlaw l one.offset d.check) lines.0 one.flaw) two.flaw in
    ap Some (same_damage d e (omega (arith, one.place, two.place, flaws.0, ap length same.1)) flaws.1)

-- one sound line in front
behind_line : (text line later : List ℕ) (p : List ℕ × List ℕ) (answer : Option Damage) → HasLine text line later → SaysPair line p → FirstFlatFlaw later answer → (more : Option Damage) × FirstFlatFlaw text more
behind_line text line later p None has says rest = (None, (p ∷ rest.0, (line, later, has, says, rest.1)))
behind_line text line later p (Some d) has says flaw = (
  Some (record { at = d.at + (length text - length later); check = d.check }),
  record {
    before = p ∷ flaw.before;
    rest = flaw.rest;
    line = flaw.line;
    later = flaw.later;
    offset = flaw.offset;
    sound = (line, later, has, says, flaw.sound);
    first = flaw.first;
    flaw = flaw.flaw;
    place = omega (arith, flaw.place, later_shorter text line later has);
  },
)

answer_within : (n : ℕ) (text : List ℕ) → length text ≤ n → (answer : Option Damage) × FirstFlatFlaw text answer
answer_within n [] fits = (None, ([], refl))
answer_within zero (x ∷ text) fits = absurd (omega (arith, fits))
answer_within (suc n) (x ∷ text) fits = by (first_line (x ∷ text) (λ is. cc is)) (λ later shorter. answer_within n later shorter)
  where
    by : (line : List ℕ) × (later : List ℕ) × HasLine (x ∷ text) line later → ((later : List ℕ) → length later ≤ n → (answer : Option Damage) × FirstFlatFlaw later answer) → (answer : Option Damage) × FirstFlatFlaw (x ∷ text) answer
    by first on = ⊎_elim
        (λ sound. let rest = on first.1 (omega (arith, fits, later_shorter (x ∷ text) first.0 first.1 first.2)) in behind_line (x ∷ text) first.0 first.1 sound.0 rest.0 first.2 sound.1 rest.1)
        (λ flaw. (
          Some (record { at = flaw.0; check = flaw.1 }),
          record { before = []; rest = x ∷ text; line = first.0; later = first.1; offset = flaw.0; sound = refl; first = first.2; flaw = flaw.2; place = omega arith },
        )) (sound_or_flawed first.0)

pub first_flaw_exists : FirstFlawExists
first_flaw_exists text = answer_within (length text) text (omega arith)

pub flawless_opens : FlawlessOpens
flawless_opens text = (
  λ none. (put_all none.0, record { pairs = none.0; lines = none.1; later_wins = refl }),
  λ some. (some.1.pairs, some.1.lines),
)
