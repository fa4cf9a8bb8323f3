-- What is known of a Date field once some bytes of a header were read.
use Rattle.std.specs.Prelude.{◌≡◌, ℕ, List, take}
use Rattle.mail_scan.specs.declared.date_field.DateField.{DateField}
use Rattle.mail_scan.specs.FieldState.{ReadsOn}

-- how the header reads on, and the first 128 bytes of the value so far
pub record KnowsDate (header : List ℕ) (field : DateField) : Type 0 where
  pub value : List ℕ
  pub kept : field.kept.items ≡ take 128 value
  pub reads_on : ReadsOn field.state value header
