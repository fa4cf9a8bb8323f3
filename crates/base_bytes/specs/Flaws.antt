-- How a flaw is printed.
use Rattle.std.specs.Prelude.{ℕ, List, codes}
use Rattle.base_bytes.specs.declared.flaw.Flaw.{Flaw}
use Rattle.base_bytes.specs.declared.flaw.Flaw.TheVariants.{Short, Magic, Version, Check, Kind, Level, Padding, Extended, Tail, Size, Place, Slot, Order, Link, Count, NoTab, BadEscape, EmptyKey}

abbrev pub flaw_text : Flaw → List ℕ
flaw_text Short = codes "Short"
flaw_text Magic = codes "Magic"
flaw_text Version = codes "Version"
flaw_text Check = codes "Check"
flaw_text Kind = codes "Kind"
flaw_text Level = codes "Level"
flaw_text Padding = codes "Padding"
flaw_text Extended = codes "Extended"
flaw_text Tail = codes "Tail"
flaw_text Size = codes "Size"
flaw_text Place = codes "Place"
flaw_text Slot = codes "Slot"
flaw_text Order = codes "Order"
flaw_text Link = codes "Link"
flaw_text Count = codes "Count"
flaw_text NoTab = codes "NoTab"
flaw_text BadEscape = codes "BadEscape"
flaw_text EmptyKey = codes "EmptyKey"
