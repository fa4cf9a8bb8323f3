use Rattle.flat_db.proofs.TextLaws.{text_is_one_map, first_flaw_is_one, first_flaw_exists, flawless_opens}
use Rattle.flat_db.proofs.Canonical.{text_is_ordered}
use Rattle.flat_db.proofs.laws.flawless_text_opens_once.Goals as goal

pub returns-clause-unique : goal.returns-clause-unique
returns-clause-unique c = first_flaw_is_one

pub returns-clause-exists : goal.returns-clause-exists
returns-clause-exists c = first_flaw_exists

pub returns-clause-opens : goal.returns-clause-opens
returns-clause-opens c = flawless_opens

pub returns-clause-once : goal.returns-clause-once
returns-clause-once c = text_is_one_map

pub returns-clause-ordered : goal.returns-clause-ordered
returns-clause-ordered c = text_is_ordered
