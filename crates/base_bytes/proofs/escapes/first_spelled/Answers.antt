use Rattle.std.proofs.Common.{◌≡◌, ◌≤◌, ◌<◌, ◌∷◌, [], ℕ, List, length, drop, get_or, refl, sym, ◌∙◌, ap, subst, arith}
use Rattle.base_bytes.specs.Escapes.{Spells, escaped_byte}
use Rattle.base_bytes.proofs.EscapeLemmas.{first_plain, first_escape, escape_once, no_lone, one_byte, two_bytes}
use Rattle.base_bytes.proofs.escapes.first_spelled.Goals as goal

pub returns-then-byte-clause-first : goal.returns-then-byte-clause-first
returns-then-byte-clause-first c byte bytes spelled =
    let field = c.args.field.now in
    let first = first_plain byte (get_or field 0 0) bytes (drop 1 field) c.if-byte.true (subst (λ (l : List ℕ). Spells (byte ∷ bytes) l) (one_byte field (omega arith)) spelled) in
    (sym first.0, first.1)

-- an FF that begins a field is not alone
not_alone : (field bytes : List ℕ) → 0 < length field → get_or field 0 0 ≡ 255 → Spells bytes field → 2 ≤ length field
not_alone [] bytes some is spelled = absurd (omega (arith, some))
not_alone (x ∷ []) bytes some is spelled = absurd (no_lone bytes (subst (λ (n : ℕ). Spells bytes (n ∷ [])) is spelled))
not_alone (x ∷ y ∷ field) bytes some is spelled = omega arith

-- it begins an escape
has_escape : (field bytes : List ℕ) → 2 ≤ length field → get_or field 0 0 ≡ 255 → Spells bytes field → (byte : ℕ) × (escaped_byte byte ≡ 255 ∷ get_or field 1 0 ∷ [])
has_escape field [] some is spelled = absurd (omega (arith, some, ap length spelled))
has_escape field (byte ∷ bytes) some is spelled =
    (byte, (first_escape byte (get_or field 1 0) bytes (drop 2 field) (subst (λ (l : List ℕ). Spells (byte ∷ bytes) l) (two_bytes field some ∙ ap (λ (n : ℕ). n ∷ get_or field 1 0 ∷ drop 2 field) is) spelled)).0)

pub bounds-field-1 : goal.bounds-field-1
bounds-field-1 c = not_alone c.args.field.now c.requires.spelled.0 c.requires.some c.if-byte.false c.requires.spelled.1

pub unreachable-requires : goal.unreachable-requires
unreachable-requires c =
    let field = c.args.field.now in
    let spelled = c.requires.spelled in
    let escape = has_escape field spelled.0 (not_alone field spelled.0 c.requires.some c.if-byte.false spelled.1) c.if-byte.false spelled.1 in
    c.in-None.ensures.none refl escape.0 escape.1

pub returns-clause-first : goal.returns-clause-first
returns-clause-first c byte bytes spelled =
    let field = c.args.field.now in
    let two = not_alone field (byte ∷ bytes) c.requires.some c.if-byte.false spelled in
    let first = first_escape byte (get_or field 1 0) bytes (drop 2 field) (subst (λ (l : List ℕ). Spells (byte ∷ bytes) l) (two_bytes field two ∙ ap (λ (n : ℕ). n ∷ get_or field 1 0 ∷ drop 2 field) c.if-byte.false) spelled) in
    (escape_once c.in-Some.byte byte (get_or field 1 0) c.in-Some.ensures.some first.0, first.1)

pub returns-clause-size : goal.returns-clause-size
returns-clause-size c =
    let two = not_alone c.args.field.now c.requires.spelled.0 c.requires.some c.if-byte.false c.requires.spelled.1 in
    (omega arith, two)
