use Rattle.std.proofs.Common.{ap, sym, ◌∙◌, length, refl, arith}
use Rattle.mail_scan.specs.MessageText.{line_count}
use Rattle.mail_scan.proofs.FactLemmas.{header_is, body_is}
use Rattle.mail_scan.proofs.facts.Facts.finish.Goals as goal

pub returns : goal.returns
returns c read knows =
    let header = header_is read c.args.self knows in (
      (omega (arith, knows.size), omega (arith, knows.size)),
      record {
        size = knows.size;
        header_size = knows.header_size ∙ ap length (sym header);
        lines = knows.lines ∙ ap line_count (sym (body_is read c.args.self knows));
        digest = c.finalize-digest.ensures read knows.digest;
        date = rw header (c.date-date.ensures knows.header knows.date);
        time = refl;
      },
    )
