use Rattle.skip_lists.proofs.Walks.{next_is, found_spot}
use Rattle.skip_lists.proofs.laws.lists_are_walked.Goals as goal

pub returns : goal.returns
returns c = record { next = λ file starts es passed left end l split. next_is file starts es end l passed left split; spot = found_spot }
