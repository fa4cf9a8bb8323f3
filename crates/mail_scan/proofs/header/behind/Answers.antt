use Rattle.std.proofs.Common.{arith}
use Rattle.mail_scan.proofs.HeaderLemmas.{start_line_feed, start_return, start_other, return_other, line_line_feed, line_other}
use Rattle.mail_scan.proofs.header.behind.Goals as goal

pub returns-in-10 : goal.returns-in-10
returns-in-10 c rest = rw c.in-LineStart.is (start_line_feed c.args.byte rest c.in-10.is)

pub returns-in-13 : goal.returns-in-13
returns-in-13 c rest = rw c.in-LineStart.is (start_return c.args.byte rest c.in-13.is)

pub returns-in_default-byte : goal.returns-in_default-byte
returns-in_default-byte c rest = rw c.in-LineStart.is (start_other c.args.byte rest (omega arith) (omega arith))

pub returns-in-InLine : goal.returns-in-InLine
returns-in-InLine c rest = rw c.in-InLine.is (line_line_feed c.args.byte rest c.if-byte-eq10-2.true)

pub returns-in_default : goal.returns-in_default
returns-in_default c rest = rw c.in-Cr.is (return_other c.args.byte rest c.if-byte-eq10.false)

pub returns-in_default-2 : goal.returns-in_default-2
returns-in_default-2 c rest = rw c.in-InLine.is (line_other c.args.byte rest c.if-byte-eq10-2.false)
