use Rattle.db_script.specs.Held.{found_in}
use Rattle.db_script.specs.Reading.{script_state}
use Rattle.db_script.proofs.AnswerLemmas.{reads_then}
use Rattle.db_script.proofs.script.Script.advance.Goals as goal

pub returns-clause-reads : goal.returns-clause-reads
returns-clause-reads g c =
    let read = c.in_ok-gather.ensures.gathers in
    let taken = c.take_line.ensures in
    reads_then (found_in c.take_line.new.self.buffer) (script_state c.args.self.now) (script_state c.gather.new.self) (script_state c.take_line.new.self) _ _ c.take_line.result
    read.script read.cause.kept taken.answers taken.counts taken.refused
