use Rattle.std.proofs.Common.{ℕ, List, ◌++◌, take}
use Rattle.mail_scan.specs.DateField.{KnowsDate}
use Rattle.mail_scan.proofs.date_field.DateField.add.Given as goal

abbrev pub invariant-loop-byte : goal.invariant-loop-byte
invariant-loop-byte l = (header : List ℕ) → KnowsDate header l.initial.self → KnowsDate (header ++ take l.byte-index l.bytes) l.self
