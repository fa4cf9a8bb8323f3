-- A record that is spelled at an offset of a file.
use Rattle.std.specs.Prelude.{◌≡◌, ◌↔◌, ℕ, ◌+◌, ◌≤◌, List, length}
use Rattle.base_bytes.specs.Fields.{AreBytes, part}
use Rattle.skip_form.specs.declared.head.Kind.TheVariants.{Dummy}
use Rattle.skip_form.specs.Spelling.{Record, IsRecord, record_bytes, head_of}

-- the bytes of a record that may stand in a file stand at an offset; only the dummy stands at 64, and only there
pub record IsSpelled (file : List ℕ) (at : ℕ) (r : Record) : Type 0 where
  pub bytes : AreBytes (record_bytes r)
  pub fits : IsRecord r
  pub whole : part file at (head_of r).size ≡ record_bytes r
  pub inside : at + (head_of r).size ≤ length file
  pub place : (r.kind ≡ Dummy) ↔ (at ≡ 64)
