use Rattle.index_form.proofs.IndexLemmas.{written_is_read, read_is_written}
use Rattle.index_form.proofs.laws.spelling_is_exact.Goals as goal

pub returns-clause-written : goal.returns-clause-written
returns-clause-written c = written_is_read

pub returns-clause-read : goal.returns-clause-read
returns-clause-read c = read_is_written
