use Rattle.skip_spec.proofs.BeforeEnd.{heads_before, records_before}
use Rattle.skip_spec.proofs.laws.records_end_before_the_end.Goals as goal

pub returns : goal.returns
returns c = record { heads = heads_before; records = records_before }
