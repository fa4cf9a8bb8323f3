use Rattle.db_script.proofs.GatherLemmas.{nothing_behind}
use Rattle.db_script.proofs.script.Script.needs_input.Goals as goal

pub is_gathered-requires-clause-free : goal.is_gathered-requires-clause-free
is_gathered-requires-clause-free c = nothing_behind 10
