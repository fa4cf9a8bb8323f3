use Rattle.std.proofs.Common.{◌≡◌, ◌<◌, ◌∷◌, [], ℕ, true}
use Rattle.std.specs.Prelude.{slice_index}
use Rattle.base_bytes.specs.Escapes.{escaped_byte}
use Rattle.flat_db.proofs.writing.field_stands.Given as goal

abbrev pub invariant-loop-byte : goal.invariant-loop-byte
invariant-loop-byte l = l.all ≡ true → (i : ℕ) → i < l.byte-index → escaped_byte (slice_index l.field i) ≡ slice_index l.field i ∷ []
