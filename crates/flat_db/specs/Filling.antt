-- Flat text as the kind of a file that is filled. It draws no words.
use Rattle.std.specs.Prelude.{length}
use Rattle.base_bytes.specs.declared.limits.TheConstants.{FLAT_LIMIT}
use Rattle.db_fill.specs.Filling.{FillKind}
use Rattle.flat_db.specs.FlatText.{canonical_text}

abbrev pub flat_fill : FillKind
flat_fill = record {
  limit = FLAT_LIMIT;
  file_of = λ m _. canonical_text m;
  size_of = λ m _. length (canonical_text m);
  words_for = λ _. 0;
}
