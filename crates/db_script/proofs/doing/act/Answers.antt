use Rattle.std.proofs.Common.{sym, subst}
use Rattle.db_core.specs.Sessions.{over}
use Rattle.db_script.specs.Doing.{DoesLine}
use Rattle.db_script.specs.Lines.{command_of}
use Rattle.db_script.specs.declared.line.Line.{Line}
use Rattle.db_script.proofs.doing.act.Goals as goal

pub returns-in-Delete-clause-does : goal.returns-in-Delete-clause-does
returns-in-Delete-clause-does g c =
    subst (λ (line : Line). DoesLine {T = Unit {0}} g.B.Db.kind c.args.word (command_of line) (over (g.H.Disk.state c.args.host.now) (g.B.Db.state c.args.db.now)) (over (g.H.Disk.state c.delete.new.host) (g.B.Db.state c.delete.new.db)) c.delete.result)
    (sym c.in-Delete.is) (c.delete.ensures.does c.args.word)
