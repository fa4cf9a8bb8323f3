-- What a field spells, as a function of its bytes, and where a byte ends it.
use Rattle.std.proofs.Common.{◌≡◌, ◌≢◌, ◌⊎◌, inl, inr, ℕ, zero, suc, ◌+◌, ◌<◌, Bool, true, false, List, [], ◌∷◌, ◌++◌, Option, Some, None, length, drop, get_or, refl, sym, ◌∙◌, ap, subst, arith}
use Rattle.std.specs.Prelude.{◌==◌, is_some, IsSome, option_and_then, if◌then◌else◌}
use Rattle.base_bytes.specs.Escapes.{escaped_byte, Spells, IsBadEscape}
use Rattle.base_bytes.proofs.EscapeLemmas.{escapes, byte_cases}
use Rattle.base_bytes.proofs.EscapeLaws.{fields_read_back}
use Rattle.db_script.specs.Lines.{some_key, key_bytes}
use Rattle.db_script.specs.Fields.{before, behind, EndsAt, EndsNowhere, byte_of_escape, with_first, field_bytes}

-- ---- the first byte that is this one

suc_more : (n : ℕ) → suc (n + 1) ≡ suc n + 1
suc_more n = omega arith

pub ends_at : (end : ℕ) (xs : List ℕ) (n : ℕ) → n < length xs → (get_or xs n 0 == end) ≡ true → ((i : ℕ) → i < n → (get_or xs i 0 == end) ≡ true → ⊥) → EndsAt end xs n
unfolding before behind
ends_at end [] n below is no_before = absurd (omega (arith, below))
ends_at end (x ∷ xs) zero below is no_before = record {
  within = below;
  front = ap (λ (b : Bool). if b then [] else x ∷ before end xs) is;
  rest = ap (λ (b : Bool). if b then Some xs else behind end xs) is;
}
ends_at end (x ∷ xs) (suc n) below is no_before =
    by (x == end) refl (ends_at end xs n (omega (arith, below)) is (λ i less. no_before (suc i) (omega (arith, less))))
  where
    by : (b : Bool) → (x == end) ≡ b → EndsAt end xs n → EndsAt end (x ∷ xs) (suc n)
    by true here later = absurd (no_before 0 (omega arith) here)
    by false here later =
        record {
          within = below;
          front = ap (λ (b : Bool). if b then [] else x ∷ before end xs) here ∙ ap (λ (l : List ℕ). x ∷ l) later.front;
          rest = ap (λ (b : Bool). if b then Some xs else behind end xs) here ∙ later.rest ∙ one_more;
        }
      where
        one_more : Some (drop (n + 1) xs) ≡ Some (drop (suc n + 1) (x ∷ xs))
        one_more = ap (λ (k : ℕ). Some (drop k (x ∷ xs))) (suc_more n)

pub ends_nowhere : (end : ℕ) (xs : List ℕ) → ((i : ℕ) → i < length xs → (get_or xs i 0 == end) ≡ true → ⊥) → EndsNowhere end xs
unfolding before behind
ends_nowhere end [] none = record { front = refl; rest = refl }
ends_nowhere end (x ∷ xs) none = by (x == end) refl (ends_nowhere end xs (λ i less. none (suc i) (omega (arith, less))))
  where
    by : (b : Bool) → (x == end) ≡ b → EndsNowhere end xs → EndsNowhere end (x ∷ xs)
    by true here later = absurd (none 0 (omega arith) here)
    by false here later =
        record {
          front = ap (λ (b : Bool). if b then [] else x ∷ before end xs) here ∙ ap (λ (l : List ℕ). x ∷ l) later.front;
          rest = ap (λ (b : Bool). if b then Some xs else behind end xs) here ∙ later.rest;
        }

-- ---- what a field spells

plain_step : (byte : ℕ) (rest : List ℕ) → (byte == 255) ≡ false → field_bytes (byte ∷ rest) ≡ with_first (Some byte) (field_bytes rest)
unfolding field_bytes
plain_step byte [] is = ap (λ (b : Bool). if b then None else Some (byte ∷ [])) is
plain_step byte (second ∷ rest) is = ap (λ (b : Bool). if b then with_first (byte_of_escape second) (field_bytes rest) else with_first (Some byte) (field_bytes (second ∷ rest))) is

escape_step : (byte second : ℕ) (rest : List ℕ) → (byte == 255) ≡ true → field_bytes (byte ∷ second ∷ rest) ≡ with_first (byte_of_escape second) (field_bytes rest)
unfolding field_bytes
escape_step byte second rest is = ap (λ (b : Bool). if b then with_first (byte_of_escape second) (field_bytes rest) else with_first (Some byte) (field_bytes (second ∷ rest))) is

lone_step : (byte : ℕ) → (byte == 255) ≡ true → field_bytes (byte ∷ []) ≡ None
unfolding field_bytes
lone_step byte is = ap (λ (b : Bool). if b then None else Some (byte ∷ [])) is

escape_is : (second byte : ℕ) → byte_of_escape second ≡ Some byte → 255 ∷ second ∷ [] ≡ escaped_byte byte
unfolding escaped_byte
escape_is second byte is = grind (arith)

escape_back : (second byte : ℕ) → escaped_byte byte ≡ 255 ∷ second ∷ [] → byte_of_escape second ≡ Some byte
escape_back second byte is = grind (arith, escapes byte second is)

is_ff : (byte : ℕ) → (byte == 255) ≡ true → byte ≡ 255
is_ff byte is = grind (arith)

isnt_ff : (byte : ℕ) → (byte == 255) ≡ false → byte ≢ 255
isnt_ff byte is same = grind (arith)

no_ff : (byte : ℕ) → byte ≢ 255 → (byte == 255) ≡ false
no_ff byte isnt = grind (arith, isnt)

pub spelled_none : field_bytes [] ≡ Some []
unfolding field_bytes
spelled_none = refl

-- a field that spells some bytes
pub spelled : (bytes field : List ℕ) → Spells bytes field → field_bytes field ≡ Some bytes
spelled [] field is = ap field_bytes is ∙ spelled_none
spelled (byte ∷ bytes) field is = by (byte_cases byte is.0 is.3) (spelled bytes is.1 is.4)
  where
    by : ((byte ≢ 255) × (is.0 ≡ byte ∷ [])) ⊎ ((second : ℕ) × (escaped_byte byte ≡ 255 ∷ second ∷ []) × (is.0 ≡ 255 ∷ second ∷ [])) → field_bytes is.1 ≡ Some bytes → field_bytes field ≡ Some (byte ∷ bytes)
    by (inl p) later =
        ap field_bytes (is.2 ∙ ap (λ (f : List ℕ). f ++ is.1) p.1) ∙ plain_step byte is.1 (no_ff byte p.0)
        ∙ ap (λ (o : Option (List ℕ)). with_first (Some byte) o) later
    by (inr q) later =
        ap field_bytes (is.2 ∙ ap (λ (f : List ℕ). f ++ is.1) q.2) ∙ escape_step 255 q.0 is.1 refl
        ∙ ap (λ (o : Option ℕ). with_first o (field_bytes is.1)) (escape_back q.0 byte q.1)
        ∙ ap (λ (o : Option (List ℕ)). with_first (Some byte) o) later

some_first : (first : Option ℕ) (rest : Option (List ℕ)) (bytes : List ℕ) → with_first first rest ≡ Some bytes → (byte : ℕ) × (more : List ℕ) × (first ≡ Some byte) × (rest ≡ Some more) × (bytes ≡ byte ∷ more)
some_first None rest bytes is = absurd (cc is)
some_first (Some byte) None bytes is = absurd (cc is)
some_first (Some byte) (Some more) bytes is = (byte, more, refl, refl, cc is)

pub spells : (field bytes : List ℕ) → field_bytes field ≡ Some bytes → Spells bytes field
unfolding field_bytes
spells [] bytes is = let same : [] ≡ bytes = cc is in subst (λ (l : List ℕ). Spells l []) same refl
spells (byte ∷ []) bytes is = by (byte == 255) refl
  where
    by : (b : Bool) → (byte == 255) ≡ b → Spells bytes (byte ∷ [])
    by true here = absurd (cc (sym (lone_step byte here) ∙ is))
    by false here = let same : byte ∷ [] ≡ bytes = cc (sym (plain_step byte [] here) ∙ is) in subst (λ (l : List ℕ). Spells l (byte ∷ [])) same (byte ∷ [], [], refl, inr (isnt_ff byte here, refl), refl)
spells (byte ∷ second ∷ rest) bytes is = by (byte == 255) refl (λ more. spells rest more) (λ more. spells (second ∷ rest) more)
  where
    by : (b : Bool) → (byte == 255) ≡ b → ((more : List ℕ) → field_bytes rest ≡ Some more → Spells more rest)
        → ((more : List ℕ) → field_bytes (second ∷ rest) ≡ Some more → Spells more (second ∷ rest)) → Spells bytes (byte ∷ second ∷ rest)
    by true here behind_escape _ =
        let parts = some_first (byte_of_escape second) (field_bytes rest) bytes (sym (escape_step byte second rest here) ∙ is) in
        subst (λ (l : List ℕ). Spells l (byte ∷ second ∷ rest)) (sym parts.4)
        (255 ∷ second ∷ [], rest, ap (λ (n : ℕ). n ∷ second ∷ rest) (is_ff byte here), inl (escape_is second parts.0 parts.2), behind_escape parts.1 parts.3)
    by false here _ behind_byte =
        let parts = some_first (Some byte) (field_bytes (second ∷ rest)) bytes (sym (plain_step byte (second ∷ rest) here) ∙ is) in
        let same : byte ≡ parts.0 = cc parts.2 in
        subst (λ (l : List ℕ). Spells l (byte ∷ second ∷ rest)) (sym (parts.4 ∙ ap (λ (n : ℕ). n ∷ parts.1) (sym same)))
        (byte ∷ [], second ∷ rest, refl, inr (isnt_ff byte here, refl), behind_byte parts.1 parts.3)

-- a field with a bad escape spells none
pub not_spelled : (field : List ℕ) (at : ℕ) → IsBadEscape field at → field_bytes field ≡ None
not_spelled field at bad = by (field_bytes field) refl
  where
    by : (o : Option (List ℕ)) → field_bytes field ≡ o → field_bytes field ≡ None
    by None is = is
    by (Some bytes) is = absurd (fields_read_back.never_both field bytes at (spells field bytes is) bad)

-- ---- keys

pub no_key : (field : List ℕ) → field ≡ [] → key_bytes field ≡ None
no_key field none = ap key_bytes none ∙ ap (λ (o : Option (List ℕ)). option_and_then some_key o) spelled_none

pub key_spelled : (field : List ℕ) → 0 < length field → key_bytes field ≡ field_bytes field
key_spelled field some = by (field_bytes field) refl
  where
    by : (o : Option (List ℕ)) → field_bytes field ≡ o → option_and_then some_key o ≡ o
    by None is = refl
    by (Some []) is = absurd (omega (arith, some, ap length (spells field [] is)))
    by (Some (byte ∷ bytes)) is = refl

-- a key that was read is what its field spells
pub key_same : (field bytes : List ℕ) → IsSome (key_bytes field) → field_bytes field ≡ Some bytes → key_bytes field ≡ Some bytes
key_same field [] some is = absurd (cc (sym (ap (λ (o : Option (List ℕ)). is_some (option_and_then some_key o)) is) ∙ some))
key_same field (byte ∷ bytes) some is = ap (λ (o : Option (List ℕ)). option_and_then some_key o) is
