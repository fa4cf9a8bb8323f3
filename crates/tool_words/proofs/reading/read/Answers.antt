use Rattle.std.proofs.Common.{map, string_bytes, sym}
use Rattle.clap.proofs.WalkLemmas.{both}
use Rattle.clap.specs.Simple.{app_of}
use Rattle.tool_words.proofs.ReadingLemmas.{rows_refused, rows_taken}
use Rattle.tool_words.proofs.reading.read.Goals as goal

pub returns-in_err-try_get_matches_from-clause-usage : goal.returns-in_err-try_get_matches_from-clause-usage
returns-in_err-try_get_matches_from-clause-usage c = λ usage.
    let fault = rw usage at c.from_residual.ensures.1 in
    rows_refused (app_of c.args.command) (map string_bytes c.args.words.now) c.in_err-try_get_matches_from.field-0.0
    (c.in_err-try_get_matches_from.ensures.kinds c.requires) (sym fault)

pub returns-clause-rows : goal.returns-clause-rows
returns-clause-rows c =
    let parse = c.in_ok-try_get_matches_from.ensures in
    rows_taken (app_of c.args.command) (map string_bytes c.args.words.now) _
    (parse.kinds c.requires) (parse.matches (both _ _ c.requires).0).0
