use Rattle.std.proofs.Common.{◌++◌, ap, ◌∙◌, take, drop, length, arith, length-append, length-drop, ◌-◌}
use Rattle.mail_scan.specs.MessageText.{line_count}
use Rattle.std.proofs.lemmas.List.{length-take-le, take_all}
use Rattle.mail_scan.proofs.FactLemmas.{whole_more, ended_more, reads_on_more, lines_more}
use Rattle.mail_scan.proofs.facts.Facts.add.Goals as goal

pub returns-clause-knows : goal.returns-clause-knows
returns-clause-knows c read knows =
    let piece = c.args.piece.now in
    let count = c.header_part-part.result in
    let part = c.header_part-part.ensures in
    record {
      header = knows.header ++ take count piece;
      body = knows.body ++ drop count piece;
      whole = whole_more read knows.header knows.body piece count c.args.self.now.state knows.whole knows.ended part.ended;
      ended = ended_more knows.body piece count c.args.self.now.state c.header_part-part.new.state knows.ended part.stays part.whole;
      reads_on = reads_on_more read knows.header piece count c.args.self.now.state c.header_part-part.new.state knows.reads_on part.part;
      digest = c.update.ensures read knows.digest;
      size = omega (arith, knows.size, length-append read piece);
      header_size = omega (arith, knows.header_size, length-append knows.header (take count piece), length-take-le count piece part.within);
      lines = lines_more knows.body (drop count piece) c.args.self.now.lines c.count_lines-lines.result knows.lines (c.count_lines-lines.ensures.count ∙ ap line_count (take_all (length piece - count) (drop count piece) (omega (arith, length-drop count piece))));
      date = c.add.ensures knows.header knows.date;
    }
