-- What may come of reading a text.
use Rattle.std.specs.Prelude.{ℕ, List}
use Rattle.flat_db.specs.FlatText.{IsFlawedAt}
use Rattle.flat_db.specs.declared.flat_map.FlatFault.{FlatFault}
use Rattle.flat_db.specs.declared.flat_map.FlatFault.TheVariants.{Damaged, NoMemory}

-- The text's first flaw stands there. Want of memory is free.
abbrev pub IsFlatFault : List ℕ → FlatFault → Type 0
IsFlatFault text (Damaged at check) = IsFlawedAt text (record { at = at; check = check })
IsFlatFault text NoMemory = Unit {0}
