use Rattle.flat_db.proofs.Canonical.{canonical_reads_back, put_reads_back}
use Rattle.flat_db.proofs.laws.canonical_text_reads_back.Goals as goal

pub returns-clause-back : goal.returns-clause-back
returns-clause-back c = canonical_reads_back

pub returns-clause-put : goal.returns-clause-put
returns-clause-put c = put_reads_back
