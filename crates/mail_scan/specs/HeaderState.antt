-- Where in a header the bytes read so far end.
use Rattle.std.specs.Prelude.{ℕ, true, false, List, [], ◌∷◌, if◌then◌else◌}
use Rattle.mail_scan.specs.declared.header.HeaderState.{HeaderState}
use Rattle.mail_scan.specs.declared.header.HeaderState.TheVariants.{LineStart, Cr, InLine, Ended}
use Rattle.mail_scan.specs.MessageText.{begins_with, header_from}

-- how much of the rest belongs to the header
abbrev pub header_rest : HeaderState → List ℕ → List ℕ
header_rest LineStart rest = header_from true rest
header_rest Cr rest = if begins_with 10 rest then 10 ∷ [] else header_from false rest
header_rest InLine rest = header_from false rest
header_rest Ended rest = []
