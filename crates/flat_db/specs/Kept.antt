-- What holds of a map that is kept in memory.
use Rattle.std.specs.Prelude.{◌≡◌, ℕ, ◌≤◌, ◌^◌, List, length}
use Rattle.std.specs.List.{All}
use Rattle.base_bytes.specs.OrderedMap.{Map, IsDbMap}
use Rattle.flat_db.specs.FlatText.{canonical_text}
use Rattle.flat_db.specs.Entries.{EndsBy, pairs_of}
use Rattle.flat_db.specs.declared.pairs.Pairs.{Pairs}

-- the map whose pairs stand among these bytes
abbrev pub map_among : List ℕ → Pairs → Map
map_among bytes pairs = pairs_of bytes pairs.entries.items

-- It is the map of a database, each part stands among the bytes, and its text's size is known. Places and sizes are small.
pub record IsKept (bytes : List ℕ) (pairs : Pairs) : Type 0 where
  pub sound : IsDbMap (map_among bytes pairs)
  pub ends : All (EndsBy (length bytes)) pairs.entries.items
  pub counted : pairs.size ≡ length (canonical_text (map_among bytes pairs))
  pub short : length bytes ≤ 4294967295
  pub small : pairs.size ≤ 2 ^ 34

-- the same entries and the same size, whatever room each has
pub record SameEntries (old new : Pairs) : Type 0 where
  pub items : new.entries.items ≡ old.entries.items
  pub size : new.size ≡ old.size
