-- Equal spelling, equal value.
use Rattle.std.specs.Prelude.{◌≡◌}
use Rattle.skip_form.specs.declared.header.Header.{Header}
use Rattle.skip_form.specs.Spelling.{Record, IsHeader, IsRecord, header_bytes, record_bytes}

-- two headers with one spelling are equal
abbrev pub HeadersAreUnique : Type 0
HeadersAreUnique = (h k : Header) → IsHeader h → IsHeader k → header_bytes h ≡ header_bytes k → h ≡ k

-- two records with one spelling are equal
abbrev pub RecordsAreUnique : Type 0
RecordsAreUnique = (r s : Record) → IsRecord r → IsRecord s → record_bytes r ≡ record_bytes s → r ≡ s
