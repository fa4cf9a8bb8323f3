-- What is known of a message once some of its bytes were read, and once all were.
use Rattle.std.specs.Prelude.{◌≡◌, ◌⊎◌, ℕ, ◌≤◌, List, [], ◌++◌, length, drop, Option, None, Some}
use Rattle.sha1.specs.Sha1.{Holds, sha1}
use Rattle.mail_scan.specs.declared.facts.Facts.{Facts}
use Rattle.mail_scan.specs.declared.facts.Scanned.{Scanned}
use Rattle.mail_scan.specs.declared.header.HeaderState.TheVariants.{Ended}
use Rattle.mail_scan.specs.MessageText.{header_of, line_count, date_of}
use Rattle.mail_scan.specs.HeaderState.{header_rest}
use Rattle.mail_scan.specs.DateField.{KnowsDate}

-- what is known of a message that begins with these bytes
pub record KnowsFacts (read : List ℕ) (facts : Facts) : Type 0 where
  pub header : List ℕ
  pub body : List ℕ
  pub whole : read ≡ header ++ body
  pub ended : (body ≡ []) ⊎ (facts.state ≡ Ended)
  pub reads_on : (rest : List ℕ) → header_of (read ++ rest) ≡ header ++ header_rest facts.state rest
  pub digest : Holds facts.digest read
  pub size : facts.size ≡ length read
  pub header_size : facts.header_size ≡ length header
  pub lines : facts.lines ≡ line_count body
  pub date : KnowsDate header facts.date

-- the facts of a message with these bytes and this time
pub record IsScanned (bytes : List ℕ) (at : ℕ) (scanned : Scanned) : Type 0 where
  pub size : scanned.size ≡ length bytes
  pub header_size : scanned.header_size ≡ length (header_of bytes)
  pub lines : scanned.lines ≡ line_count (drop (length (header_of bytes)) bytes)
  pub digest : scanned.digest ≡ sha1 bytes
  pub date : scanned.date ≡ date_of bytes
  pub time : scanned.time ≡ at

-- a message has one byte at least, and at most so many
abbrev pub HasMessageSize : List ℕ → Type 0
HasMessageSize bytes = (1 ≤ length bytes) × (length bytes ≤ 4294967295)

-- the facts of a file, or none exactly where it has not the size of a message
abbrev pub IsScan : List ℕ → ℕ → Option Scanned → Type 0
IsScan bytes time None = HasMessageSize bytes → ⊥
IsScan bytes time (Some scanned) = HasMessageSize bytes × IsScanned bytes time scanned
