-- How flat text and scripts write a byte that would end a field or a line.
use Rattle.std.specs.Prelude.{◌≡◌, ◌≢◌, ◌⊎◌, ℕ, ◌+◌, List, [], ◌∷◌, ◌++◌, length, flat_map, ◌==◌, ◌||◌, if◌then◌else◌}

-- 00, TAB, LF and CR are written as FF and the byte with its highest bit set, and FF as FF FF.
unfoldable pub escaped_byte : ℕ → List ℕ
escaped_byte byte = if byte == 0xff then 0xff ∷ 0xff ∷ [] else (if byte == 0 || byte == 9 || byte == 10 || byte == 13 then 0xff ∷ (byte + 0x80) ∷ [] else byte ∷ [])

unfoldable pub escaped : List ℕ → List ℕ
escaped bytes = flat_map escaped_byte bytes

-- A field may spell a byte by its escape, and each byte but FF as it is.
abbrev pub SpellsByte : ℕ → List ℕ → Type 0
SpellsByte byte spelled = (spelled ≡ escaped_byte byte) ⊎ ((byte ≢ 0xff) × (spelled ≡ byte ∷ []))

-- the field spells these bytes, one behind another
abbrev pub Spells : List ℕ → List ℕ → Type 0
Spells [] field = field ≡ []
Spells (byte ∷ bytes) field = (first rest : List ℕ) × (field ≡ first ++ rest) × SpellsByte byte first × Spells bytes rest

-- The offset of the first FF in a field that begins no escape. What stands before it spells some bytes.
pub record IsBadEscape (field : List ℕ) (at : ℕ) : Type 0 where
  pub bytes : List ℕ
  pub front : List ℕ
  pub rest : List ℕ
  pub read : Spells bytes front
  pub split : field ≡ front ++ (0xff ∷ rest)
  pub place : at ≡ length front
  pub bad : (byte : ℕ) (after : List ℕ) → 0xff ∷ rest ≡ escaped_byte byte ++ after → ⊥

-- What holds of every field: what is written is read back, and a field spells one list of bytes or has its
-- first bad escape at one place, never both.
pub record FieldsReadBack : Type 0 where
  pub back : (bytes : List ℕ) → Spells bytes (escaped bytes)
  pub once : (field a b : List ℕ) → Spells a field → Spells b field → a ≡ b
  pub place : (field : List ℕ) (a b : ℕ) → IsBadEscape field a → IsBadEscape field b → a ≡ b
  pub either : (field : List ℕ) → ((bytes : List ℕ) × Spells bytes field) ⊎ ((at : ℕ) × IsBadEscape field at)
  pub never_both : (field bytes : List ℕ) (at : ℕ) → Spells bytes field → IsBadEscape field at → ⊥
