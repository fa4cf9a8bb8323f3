use Rattle.skip_form.proofs.UniqueHeader.{header_bytes-same}
use Rattle.skip_form.proofs.UniqueRecord.{record_bytes-same}
use Rattle.skip_form.proofs.laws.spelling_is_unique.Goals as goal

pub returns-clause-headers : goal.returns-clause-headers
returns-clause-headers c = header_bytes-same

pub returns-clause-records : goal.returns-clause-records
returns-clause-records c = record_bytes-same
