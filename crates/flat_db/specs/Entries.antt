-- How a map lies in memory: some bytes, and for each pair where its key and its value stand among them.
use Rattle.std.specs.Prelude.{ℕ, ◌+◌, ◌≤◌, List, map, take, drop}
use Rattle.base_bytes.specs.OrderedMap.{Map}
use Rattle.flat_db.specs.declared.pairs.Span.{Span}
use Rattle.flat_db.specs.declared.pairs.Entry.{Entry}

abbrev pub part_of : List ℕ → Span → List ℕ
part_of bytes span = take span.size (drop span.start bytes)

abbrev pub pair_of : List ℕ → Entry → List ℕ × List ℕ
pair_of bytes entry = (part_of bytes entry.key, part_of bytes entry.value)

abbrev pub pairs_of : List ℕ → List Entry → Map
pairs_of bytes entries = map (pair_of bytes) entries

-- what the entry names stands before this offset
pub record EndsBy (end : ℕ) (entry : Entry) : Type 0 where
  pub key : entry.key.start + entry.key.size ≤ end
  pub value : entry.value.start + entry.value.size ≤ end
