-- Flat text as the kind of a file that is repacked: its map's canonical text takes its place.
use Rattle.std.specs.Prelude.{◌≡◌, ℕ, List}
use Rattle.base_bytes.specs.OrderedMap.{Map}
use Rattle.db_repack.specs.Repacking.{RepackKind}
use Rattle.flat_db.specs.FlatText.{FlatTextOf, canonical_text}
use Rattle.flat_db.specs.Sessions.{flat_kind}

-- the file is the canonical text of the old one's map
abbrev pub FlatRepacked : List ℕ → List ℕ → Type 0
FlatRepacked old file = (m : Map) × FlatTextOf old m × (file ≡ canonical_text m)

abbrev pub flat_repack : RepackKind
flat_repack = record { kind = flat_kind; repacked = FlatRepacked }
