use Rattle.std.proofs.Common.{ap}
use Rattle.base_devices.specs.HostCalls.{moment}
use Rattle.db_tool.specs.Printing.{holding}
use Rattle.db_script.specs.Lines.{command_of}
use Rattle.db_script.specs.Steps.{LineMoment, asked, gathered}
use Rattle.db_script.proofs.MomentLemmas.{stops_leaving}
use Rattle.db_script.proofs.StepLemmas.{failed_or_not, stops_at}
use Rattle.db_script.proofs.batching.do_or_stop.Goals as goal

pub returns-in-Some-clause-does : goal.returns-in-Some-clause-does
returns-in-Some-clause-does g c =
    let old : LineMoment = gathered (g.B.Db.state c.args.db.now) (holding c.args.output.now (g.H.Disk.state c.args.host.now) (g.H.Host.streams c.args.host.now)) in
    let mid : LineMoment = gathered (g.B.Db.state c.do_line.new.db) (holding c.do_line.new.output (g.H.Disk.state c.do_line.new.host) (g.H.Host.streams c.do_line.new.host)) in
    stops_at g.B.Db.kind (asked c.args.number c.args.word (command_of c.args.line.now)) old mid _ c.in-Some.note c.stop.result c.in-Some.ensures.does
    (λ failed. let same = c.stop.ensures.fault failed in (same.0, ap (λ h. moment (g.H.Disk.state h) (g.H.Host.streams h)) same.1))
    c.stop.ensures.same c.stop.ensures.some c.stop.ensures.whole

pub returns-in-Some-clause-moments : goal.returns-in-Some-clause-moments
returns-in-Some-clause-moments g c =
    let old : LineMoment = gathered (g.B.Db.state c.args.db.now) (holding c.args.output.now (g.H.Disk.state c.args.host.now) (g.H.Host.streams c.args.host.now)) in
    let mid : LineMoment = gathered (g.B.Db.state c.do_line.new.db) (holding c.do_line.new.output (g.H.Disk.state c.do_line.new.host) (g.H.Host.streams c.do_line.new.host)) in
    let new : LineMoment = gathered (g.B.Db.state c.stop.new.db) (holding c.stop.new.output (g.H.Disk.state c.stop.new.host) (g.H.Host.streams c.stop.new.host)) in
    stops_leaving g.B.Db.kind (asked c.args.number c.args.word (command_of c.args.line.now)) old mid new c.in-Some.note c.stop.result (failed_or_not c.in-Some.note) c.in-Some.ensures.moments c.in-Some.ensures.does
    (λ failed. let same = c.stop.ensures.fault failed in (same.0, ap (λ h. moment (g.H.Disk.state h) (g.H.Host.streams h)) same.1))
    (g.met.H.Host.host_goes_on _ _ c.do_line.ensures.rest) (g.met.H.Host.host_goes_on _ _ c.stop.ensures.rest) c.stop.ensures.some c.stop.ensures.idle c.stop.ensures.moments
