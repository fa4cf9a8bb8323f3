use Rattle.std.proofs.Common.{◌+◌, ℕ, [], ⊎_elim, ap, refl}
use Rattle.base_devices.specs.HostCalls.{moment}
use Rattle.db_core.specs.Calls.{OpensCommitted}
use Rattle.db_tool.specs.ToolNotes.{IsFault}
use Rattle.db_tool.specs.Printing.{holding}
use Rattle.db_script.specs.Course.{ScriptMoment, script_over, to_read}
use Rattle.db_script.specs.Held.{found_in}
use Rattle.db_script.specs.Lines.{command_of}
use Rattle.db_script.specs.Reading.{script_state}
use Rattle.db_script.specs.Steps.{LineMoment, gathered}
use Rattle.db_script.proofs.CourseLemmas.{goes_next, found_handed, ends_next, ends_printing, joins_of, left_printed, left_stopped}
use Rattle.db_script.proofs.MomentLemmas.{between_prints, counts_printed, counts_then}
use Rattle.db_script.proofs.StepLemmas.{failed_or_not}
use Rattle.db_script.proofs.batching.do_next.Goals as goal

pub returns-in-Ok-clause-goes : goal.returns-in-Ok-clause-goes
returns-in-Ok-clause-goes g c left shown p at =
    let old : ScriptMoment = script_over (to_read (script_state c.args.script.now) (g.I.Source.state c.args.input.now).left (g.R.Rng.stream c.args.rng.now))
    (gathered (g.B.Db.state c.args.db.now) (holding c.args.output.now (g.H.Disk.state c.args.host.now) (g.H.Host.streams c.args.host.now))) in
    let mid : LineMoment = gathered (g.B.Db.state c.args.db.now) (holding c.make_way.new.output (g.H.Disk.state c.make_way.new.host) (g.H.Host.streams c.make_way.new.host)) in
    let new : ScriptMoment = script_over (to_read (script_state c.next_found.new.script) (g.I.Source.state c.next_found.new.input).left (g.R.Rng.stream c.word_for-word.new.rng))
    (gathered (g.B.Db.state c.do_or_stop.new.db) (holding c.do_or_stop.new.output (g.H.Disk.state c.do_or_stop.new.host) (g.H.Host.streams c.do_or_stop.new.host))) in
    let reads = c.in-Ok.ensures.reads in
    let answers = reads.1.answers left shown in
    goes_next g.B.Db.kind p old new mid _ c.word_for-word.result (command_of c.line-line.result) left answers.0 at (joins_of [] old.line.output mid.output _ c.in_default.ensures.prints) refl answers.1
    (found_handed (found_in c.next_found.new.script.buffer) _ _ _ _ _ _ c.in-Ok.found (command_of c.line-line.result) reads.0 answers.2 reads.2 c.line-line.ensures) (ap (λ (n : ℕ). n + 1) c.lines-number.ensures.lines) c.word_for-word.ensures.word c.word_for-word.ensures.rest
    (between_prints _ _ _ (g.met.B.Db.tie_opens _ _ c.requires.sound c.requires.tied) c.in_default.ensures.prints.disk) (g.met.H.Host.host_goes_on _ _ c.make_way.ensures.rest) (g.met.H.Host.host_goes_on _ _ c.do_or_stop.ensures.rest)
    (counts_printed _ _ c.in_default.ensures.prints.disk)
    c.do_or_stop.result c.do_or_stop.ensures.does c.do_or_stop.ensures.moments

pub returns-in-Err-next_found-clause-goes : goal.returns-in-Err-next_found-clause-goes
returns-in-Err-next_found-clause-goes g c left shown p at =
    let old : ScriptMoment = script_over (to_read (script_state c.args.script.now) (g.I.Source.state c.args.input.now).left (g.R.Rng.stream c.args.rng.now))
    (gathered (g.B.Db.state c.args.db.now) (holding c.args.output.now (g.H.Disk.state c.args.host.now) (g.H.Host.streams c.args.host.now))) in
    let mid : LineMoment = gathered (g.B.Db.state c.args.db.now) (holding c.make_way.new.output (g.H.Disk.state c.make_way.new.host) (g.H.Host.streams c.make_way.new.host)) in
    let new : ScriptMoment = script_over (to_read (script_state c.next_found.new.script) (g.I.Source.state c.next_found.new.input).left (g.R.Rng.stream c.args.rng.now))
    (gathered (g.B.Db.state c.stop.new.db) (holding c.stop.new.output (g.H.Disk.state c.stop.new.host) (g.H.Host.streams c.stop.new.host))) in
    let reads = c.in-Err-next_found.ensures.reads in
    let answers = reads.1.answers left shown in
    let joins = joins_of [] old.line.output mid.output _ c.in_default.ensures.prints in
    let way = between_prints old.line.output.host.disk mid.output.host.disk (OpensCommitted g.B.Db.kind old.line.session) (g.met.B.Db.tie_opens _ _ c.requires.sound c.requires.tied) c.in_default.ensures.prints.disk in
    ends_next (found_in c.next_found.new.script.buffer) g.B.Db.kind p old new mid (script_state c.next_found.new.script) left answers.0 c.in_transaction.result c.in-Err-next_found.note c.stop.result reads.0 at
    joins refl refl c.in_transaction.ensures answers.2 reads.2 c.stop.ensures.same c.stop.ensures.some c.stop.ensures.whole
    (⊎_elim
    (λ failed. left_printed g.B.Db.kind p _ _ (λ _. IsFault c.stop.result) old new mid refl at joins way (ap (λ h. moment (g.H.Disk.state h) (g.H.Host.streams h)) (c.stop.ensures.fault failed).1))
    (λ sound. left_stopped g.B.Db.kind p _ _ (λ _. IsFault c.stop.result) old new mid refl at joins way (g.met.H.Host.host_goes_on _ _ c.make_way.ensures.rest) (g.met.H.Host.host_goes_on _ _ c.stop.ensures.rest)
    c.stop.ensures.some.grew.later refl c.stop.ensures.some (c.stop.ensures.moments sound))
    (failed_or_not c.in-Err-next_found.note))
    (λ whole. counts_then old.line.output.host.disk mid.output.host.disk new.line.output.host.disk (counts_printed _ _ c.in_default.ensures.prints.disk) (c.stop.ensures.idle whole))

pub returns-in-Err-clause-goes : goal.returns-in-Err-clause-goes
returns-in-Err-clause-goes g c left shown p at =
    let old : ScriptMoment = script_over (to_read (script_state c.args.script.now) (g.I.Source.state c.args.input.now).left (g.R.Rng.stream c.args.rng.now))
    (gathered (g.B.Db.state c.args.db.now) (holding c.args.output.now (g.H.Disk.state c.args.host.now) (g.H.Host.streams c.args.host.now))) in
    let new : ScriptMoment = script_over (to_read (script_state c.args.script.now) (g.I.Source.state c.args.input.now).left (g.R.Rng.stream c.args.rng.now))
    (gathered (g.B.Db.state c.args.db.now) (holding c.make_way.new.output (g.H.Disk.state c.make_way.new.host) (g.H.Host.streams c.make_way.new.host))) in
    ends_printing g.B.Db.kind p old new left _ _ at tt refl (between_prints _ _ _ (g.met.B.Db.tie_opens _ _ c.requires.sound c.requires.tied) c.in-Err.ensures.prints.disk) c.in-Err.ensures.prints
