use Rattle.std.proofs.Common.{rules, ap, sym}
use Rattle.db_core.specs.Sessions.{DbState}
use Rattle.db_tool.specs.Printing.{holding}
use Rattle.db_script.specs.Course.{ScriptMoment, script_over, to_read}
use Rattle.db_script.specs.Reading.{script_state}
use Rattle.db_script.specs.Steps.{LineMoment, gathered}
use Rattle.db_script.proofs.EndLemmas.{leads_start, leads_more, leads_to_end, leaves_to_end, stands_to_end, words_to_end}
use Rattle.db_script.proofs.batching.do_lines.Goals as goal

pub loop-init : goal.loop-init
loop-init g c = record {
  lines = search rules;
  well = search rules;
  faults = search rules;
  warned = search rules;
  sound = search rules;
  tied = search rules;
  course = λ left shown. leads_start g.B.Db.kind (g.R.Rng.stream c.args.rng.now) left _ (script_state c.new-script.result)
      (gathered (g.B.Db.state c.args.db.now) (holding c.args.output.now (g.H.Disk.state c.args.host.now) (g.H.Host.streams c.args.host.now))) c.new-script.ensures shown
      (ap (λ (s : DbState). s.seen) (sym (g.met.B.Db.outside _ c.requires.sound c.requires.closed))) (g.met.H.Disk.is_moment _) (g.met.B.Db.tie_opens _ _ c.requires.sound c.requires.tied);
  rest = search rules;
}

pub returns-in-Some-clause-stated : goal.returns-in-Some-clause-stated
returns-in-Some-clause-stated g c left shown =
    let start : LineMoment = gathered (g.B.Db.state c.args.db.now) (holding c.args.output.now (g.H.Disk.state c.args.host.now) (g.H.Host.streams c.args.host.now)) in
    let mid : ScriptMoment = script_over (to_read (script_state c.loop.script) (g.I.Source.state c.loop.input).left (g.R.Rng.stream c.loop.rng))
    (gathered (g.B.Db.state c.loop.db) (holding c.loop.output (g.H.Disk.state c.loop.host) (g.H.Host.streams c.loop.host))) in
    let new : ScriptMoment = script_over (to_read (script_state c.do_next.new.script) (g.I.Source.state c.do_next.new.input).left (g.R.Rng.stream c.do_next.new.rng))
    (gathered (g.B.Db.state c.do_next.new.db) (holding c.do_next.new.output (g.H.Disk.state c.do_next.new.host) (g.H.Host.streams c.do_next.new.host))) in
    let so = c.loop.invariant.course left shown in
    leads_to_end g.B.Db.kind (g.R.Rng.stream c.args.rng.now) left start mid new c.in-Some.note so c.requires.empty
    (c.in-Some.ensures.goes so.left so.shown so.done so.at)

pub returns-in-Some-clause-words : goal.returns-in-Some-clause-words
returns-in-Some-clause-words g c left shown =
    let start : LineMoment = gathered (g.B.Db.state c.args.db.now) (holding c.args.output.now (g.H.Disk.state c.args.host.now) (g.H.Host.streams c.args.host.now)) in
    let mid : ScriptMoment = script_over (to_read (script_state c.loop.script) (g.I.Source.state c.loop.input).left (g.R.Rng.stream c.loop.rng))
    (gathered (g.B.Db.state c.loop.db) (holding c.loop.output (g.H.Disk.state c.loop.host) (g.H.Host.streams c.loop.host))) in
    let new : ScriptMoment = script_over (to_read (script_state c.do_next.new.script) (g.I.Source.state c.do_next.new.input).left (g.R.Rng.stream c.do_next.new.rng))
    (gathered (g.B.Db.state c.do_next.new.db) (holding c.do_next.new.output (g.H.Disk.state c.do_next.new.host) (g.H.Host.streams c.do_next.new.host))) in
    let so = c.loop.invariant.course left shown in
    words_to_end g.B.Db.kind (g.R.Rng.stream c.args.rng.now) left start mid new c.in-Some.note so
    (c.in-Some.ensures.goes so.left so.shown so.done so.at)

pub returns-in-Some-clause-moments : goal.returns-in-Some-clause-moments
returns-in-Some-clause-moments g c left shown =
    let start : LineMoment = gathered (g.B.Db.state c.args.db.now) (holding c.args.output.now (g.H.Disk.state c.args.host.now) (g.H.Host.streams c.args.host.now)) in
    let mid : ScriptMoment = script_over (to_read (script_state c.loop.script) (g.I.Source.state c.loop.input).left (g.R.Rng.stream c.loop.rng))
    (gathered (g.B.Db.state c.loop.db) (holding c.loop.output (g.H.Disk.state c.loop.host) (g.H.Host.streams c.loop.host))) in
    let new : ScriptMoment = script_over (to_read (script_state c.do_next.new.script) (g.I.Source.state c.do_next.new.input).left (g.R.Rng.stream c.do_next.new.rng))
    (gathered (g.B.Db.state c.do_next.new.db) (holding c.do_next.new.output (g.H.Disk.state c.do_next.new.host) (g.H.Host.streams c.do_next.new.host))) in
    let so = c.loop.invariant.course left shown in
    leaves_to_end g.B.Db.kind _ (g.R.Rng.stream c.args.rng.now) start mid new c.in-Some.note so c.requires.empty
    (g.met.H.Host.host_goes_on _ _ c.loop.invariant.rest) (g.met.H.Host.host_goes_on _ _ c.do_next.ensures.rest) (c.in-Some.ensures.goes so.left so.shown so.done so.at)

pub returns-in-Some-clause-stands : goal.returns-in-Some-clause-stands
returns-in-Some-clause-stands g c left shown calm =
    let start : LineMoment = gathered (g.B.Db.state c.args.db.now) (holding c.args.output.now (g.H.Disk.state c.args.host.now) (g.H.Host.streams c.args.host.now)) in
    let mid : ScriptMoment = script_over (to_read (script_state c.loop.script) (g.I.Source.state c.loop.input).left (g.R.Rng.stream c.loop.rng))
    (gathered (g.B.Db.state c.loop.db) (holding c.loop.output (g.H.Disk.state c.loop.host) (g.H.Host.streams c.loop.host))) in
    let new : ScriptMoment = script_over (to_read (script_state c.do_next.new.script) (g.I.Source.state c.do_next.new.input).left (g.R.Rng.stream c.do_next.new.rng))
    (gathered (g.B.Db.state c.do_next.new.db) (holding c.do_next.new.output (g.H.Disk.state c.do_next.new.host) (g.H.Host.streams c.do_next.new.host))) in
    let so = c.loop.invariant.course left shown in
    stands_to_end g.B.Db.kind (g.R.Rng.stream c.args.rng.now) left start mid new c.in-Some.note so c.requires.empty (c.in-Some.ensures.goes so.left so.shown so.done so.at) calm
    (g.met.B.Db.outside _ c.requires.sound c.requires.closed) c.loop.invariant.sound (g.met.H.Host.host_goes_on _ _ c.loop.invariant.rest) (g.met.H.Host.host_goes_on _ _ c.do_next.ensures.rest)

pub loop-preserved : goal.loop-preserved
loop-preserved g c = record {
  lines = search rules;
  well = search rules;
  faults = search rules;
  warned = search rules;
  sound = search rules;
  tied = search rules;
  course = λ left shown.
      let start : LineMoment = gathered (g.B.Db.state c.args.db.now) (holding c.args.output.now (g.H.Disk.state c.args.host.now) (g.H.Host.streams c.args.host.now)) in
      let mid : ScriptMoment = script_over (to_read (script_state c.loop.script) (g.I.Source.state c.loop.input).left (g.R.Rng.stream c.loop.rng))
      (gathered (g.B.Db.state c.loop.db) (holding c.loop.output (g.H.Disk.state c.loop.host) (g.H.Host.streams c.loop.host))) in
      let new : ScriptMoment = script_over (to_read (script_state c.do_next.new.script) (g.I.Source.state c.do_next.new.input).left (g.R.Rng.stream c.do_next.new.rng))
      (gathered (g.B.Db.state c.do_next.new.db) (holding c.do_next.new.output (g.H.Disk.state c.do_next.new.host) (g.H.Host.streams c.do_next.new.host))) in
      let so = c.loop.invariant.course left shown in
      leads_more g.B.Db.kind _ (g.R.Rng.stream c.args.rng.now) start mid new so c.requires.empty (g.met.H.Host.host_goes_on _ _ c.loop.invariant.rest) (g.met.H.Host.host_goes_on _ _ c.do_next.ensures.rest)
      (c.in_default.ensures.goes so.left so.shown so.done so.at);
  rest = g.met.H.Host.host_then _ _ _ c.loop.invariant.rest c.do_next.ensures.rest;
}
