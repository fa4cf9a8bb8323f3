use Rattle.std.proofs.Common.{◌≡◌, ◌≢◌, ◌⊎◌, ◌∷◌, ◌++◌, [], ℕ, List, Option, Some, None, inl, inr, false, length, get_or, refl, sym, ◌∙◌, ap, arith}
use Rattle.std.specs.Option.{is_some, IsNone}
use Rattle.base_bytes.specs.Escapes.{escaped_byte}
use Rattle.base_bytes.proofs.EscapeLemmas.{one_or_two}
use Rattle.base_bytes.proofs.escapes.ends_escape.Goals as goal

-- an escape has a second byte
second_of : (rest after : List ℕ) (byte : ℕ) → 255 ∷ rest ≡ escaped_byte byte ++ after → (second : ℕ) × (escaped_byte byte ≡ 255 ∷ second ∷ []) × (rest ≡ second ∷ after)
second_of rest after byte line = by (one_or_two byte)
  where
    by : ((byte ≢ 255) × (escaped_byte byte ≡ byte ∷ [])) ⊎ ((second : ℕ) × (escaped_byte byte ≡ 255 ∷ second ∷ [])) → (second : ℕ) × (escaped_byte byte ≡ 255 ∷ second ∷ []) × (rest ≡ second ∷ after)
    by (inl p) =
        let same : 255 ∷ rest ≡ byte ∷ after = line ∙ ap (λ (l : List ℕ). l ++ after) p.1 in
        absurd (p.0 (cc same))
    by (inr q) =
        let same : 255 ∷ rest ≡ 255 ∷ q.0 ∷ after = line ∙ ap (λ (l : List ℕ). l ++ after) q.1 in
        (q.0, q.1, cc same)

pub returns-in-empty-clause-no : goal.returns-in-empty-clause-no
returns-in-empty-clause-no c is byte after line =
    let second = second_of c.args.rest.now after byte line in
    omega (arith, ap length second.2)

none_of : (o : Option ℕ) → false ≡ is_some o → IsNone o
none_of None is = refl
none_of (Some x) is = absurd (cc is)

pub returns-in-len1-up-clause-no : goal.returns-in-len1-up-clause-no
returns-in-len1-up-clause-no c is byte after line =
    let second = second_of c.args.rest.now after byte line in
    let first : get_or c.args.rest.now 0 0 ≡ second.0 = ap (λ (l : List ℕ). get_or l 0 0) second.2 in
    c.unescaped.ensures.none (none_of c.unescaped.result (sym is ∙ c.is_some.ensures)) byte (second.1 ∙ ap (λ (n : ℕ). 255 ∷ n ∷ []) (sym first))
