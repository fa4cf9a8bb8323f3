-- A fresh layout as the kind of a file that is filled: one random word for each pair, by rising key.
use Rattle.std.specs.Prelude.{List, length}
use Rattle.base_bytes.specs.OrderedMap.{Map}
use Rattle.base_bytes.specs.declared.limits.TheConstants.{SKIP_LIMIT}
use Rattle.db_fill.specs.Filling.{FillKind, first_words}
use Rattle.rand_core.specs.Stream.{Stream}
use Rattle.skip_spec.specs.Layout.{Item, Converted, fresh_layout, fresh_size, with_words}

-- the pairs, each with the level of its word
abbrev pub items_by : Map → Stream → List Item
items_by m words = with_words m (first_words (length m) words)

abbrev pub skip_fill : FillKind
skip_fill = record {
  limit = SKIP_LIMIT;
  file_of = λ m words. fresh_layout 1 0 (items_by m words);
  size_of = λ m words. fresh_size (items_by m words);
  words_for = λ pairs. pairs;
}

-- so the file is the one to which a map is converted, with the words that were drawn
abbrev pub FillsConvert : Type 0
FillsConvert = (m : Map) (words : Stream) → Converted m (first_words (length m) words) (skip_fill.file_of m words)
