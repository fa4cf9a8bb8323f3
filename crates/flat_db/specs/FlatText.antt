-- Flat text: a line for each pair of a map.
use Rattle.std.specs.Prelude.{◌≡◌, ◌≢◌, ◌⊎◌, ℕ, ◌+◌, not, ◌==◌, List, [], ◌∷◌, ◌++◌, length, fold, Option, Some, None, IsTrue}
use Rattle.std.specs.List.{list_all}
use Rattle.base_bytes.specs.Escapes.{escaped, Spells, IsBadEscape}
use Rattle.base_bytes.specs.OrderedMap.{Map, put}
use Rattle.base_bytes.specs.declared.flaw.Damage.{Damage}
use Rattle.base_bytes.specs.declared.flaw.Flaw.{Flaw}
use Rattle.base_bytes.specs.declared.flaw.Flaw.TheVariants.{NoTab, BadEscape, EmptyKey}

-- ---- what is written

-- the line of a pair: the escaped key, TAB, the escaped value, LF
unfoldable pub pair_line : List ℕ → List ℕ → List ℕ
pair_line key value = escaped key ++ (9 ∷ (escaped value ++ (10 ∷ [])))

-- the text of a map: the lines of its pairs, by rising key
abbrev pub canonical_text : Map → List ℕ
canonical_text [] = []
canonical_text (p ∷ m) = pair_line p.0 p.1 ++ canonical_text m

-- ---- what is read

-- no byte is equal to this one
abbrev pub IsFree : ℕ → List ℕ → Type 0
IsFree end field = IsTrue (list_all (λ b. not (b == end)) field)

-- A text begins with a line and goes on behind its LF. The last line may lack it.
pub record HasLine (text line rest : List ℕ) : Type 0 where
  pub some : text ≢ []
  pub whole : IsFree 10 line
  pub ends : (text ≡ line ++ (10 ∷ rest)) ⊎ ((text ≡ line) × (rest ≡ []))

-- the first TAB of a line ends its key's field, and the rest is its value's
pub record HasFields (line key value : List ℕ) : Type 0 where
  pub split : line ≡ key ++ (9 ∷ value)
  pub first : IsFree 9 key

-- the fields of a line spell a pair, and its key is not empty
pub record SaysPair (line : List ℕ) (p : List ℕ × List ℕ) : Type 0 where
  pub key_field : List ℕ
  pub value_field : List ℕ
  pub fields : HasFields line key_field value_field
  pub key : Spells p.0 key_field
  pub value : Spells p.1 value_field
  pub some : p.0 ≢ []

-- a text is the lines of these pairs, in this order, and the rest
abbrev pub SaysPairs : List ℕ → List (List ℕ × List ℕ) → List ℕ → Type 0
SaysPairs text [] rest = text ≡ rest
SaysPairs text (p ∷ pairs) rest = (line later : List ℕ) × HasLine text line later × SaysPair line p × SaysPairs later pairs rest

-- the pairs put one after another, so that a later one wins
abbrev pub put_all : List (List ℕ × List ℕ) → Map
put_all pairs = fold (λ (m : Map) (p : List ℕ × List ℕ). put m p.0 p.1) [] pairs

-- the text is that of this map
pub record FlatTextOf (text : List ℕ) (m : Map) : Type 0 where
  pub pairs : List (List ℕ × List ℕ)
  pub lines : SaysPairs text pairs []
  pub later_wins : m ≡ put_all pairs

-- ---- what is wrong with it

-- the first bad escape of a line with these fields, by its offset in the line
abbrev pub IsBadInFields : List ℕ → List ℕ → ℕ → Type 0
IsBadInFields key value at =
    IsBadEscape key at ⊎ ((bytes : List ℕ) × Spells bytes key × (offset : ℕ) × IsBadEscape value offset × (at ≡ length key + 1 + offset))

-- The flaw of a line, and its offset in the line: no TAB, or else the first bad escape, or else an empty key.
pub data IsLineFlaw (line : List ℕ) (at : ℕ) (check : Flaw) : Type 0 where
  without_tab : IsFree 9 line → at ≡ 0 → check ≡ NoTab → IsLineFlaw line at check
  with_bad_escape : (key value : List ℕ) → HasFields line key value → IsBadInFields key value at → check ≡ BadEscape → IsLineFlaw line at check
  with_empty_key : (value bytes : List ℕ) → HasFields line [] value → Spells bytes value → at ≡ 0 → check ≡ EmptyKey → IsLineFlaw line at check

-- The first line of a text that says no pair, and its flaw.
pub record IsFlawedAt (text : List ℕ) (damage : Damage) : Type 0 where
  pub before : List (List ℕ × List ℕ)
  pub rest : List ℕ
  pub line : List ℕ
  pub later : List ℕ
  pub offset : ℕ
  pub sound : SaysPairs text before rest
  pub first : HasLine rest line later
  pub flaw : IsLineFlaw line offset damage.check
  pub place : damage.at + length rest ≡ length text + offset

-- the first flaw of a text with its place, or none where each line says a pair
abbrev pub FirstFlatFlaw : List ℕ → Option Damage → Type 0
FirstFlatFlaw text None = (pairs : List (List ℕ × List ℕ)) × SaysPairs text pairs []
FirstFlatFlaw text (Some damage) = IsFlawedAt text damage
