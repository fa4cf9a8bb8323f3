-- How a text is read, line by line.
use Rattle.std.specs.Prelude.{◌≡◌, ℕ, ◌+◌, ◌<◌, List, take, drop, length}
use Rattle.base_bytes.specs.Escapes.{Spells}
use Rattle.base_bytes.specs.declared.flaw.Damage.{Damage}
use Rattle.flat_db.specs.FlatText.{HasFields, HasLine, IsLineFlaw}

-- The line says a pair, and the field of its key ends here.
pub record HasTab (line : List ℕ) (tab : ℕ) : Type 0 where
  pub within : tab < length line
  pub some : 0 < tab
  pub fields : HasFields line (take tab line) (drop (tab + 1) line)
  pub key : List ℕ
  pub value : List ℕ
  pub says_key : Spells key (take tab line)
  pub says_value : Spells value (drop (tab + 1) line)

-- the first line of what follows an offset has this flaw
pub record IsFlawedLine (at : ℕ) (rest : List ℕ) (damage : Damage) : Type 0 where
  pub line : List ℕ
  pub later : List ℕ
  pub offset : ℕ
  pub first : HasLine rest line later
  pub flaw : IsLineFlaw line offset damage.check
  pub place : damage.at ≡ at + offset
