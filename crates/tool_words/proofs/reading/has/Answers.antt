use Rattle.std.proofs.Common.{◌∙◌, ap, codes, false}
use Rattle.std.specs.Option.{option_map_or}
use Rattle.std.specs.Str.{bytes_eq}
use Rattle.clap.specs.Matches.{found_of, one_text}
use Rattle.clap.proofs.WalkLemmas.{one_text-rows}
use Rattle.tool_words.proofs.ReadingLemmas.{flag_read}
use Rattle.tool_words.proofs.reading.has.Goals as goal

pub returns : goal.returns
returns c =
    c.unwrap_or.ensures
    ∙ flag_read _ (one_text (found_of c.args.matches.now) c.args.flag.now) c.get_one.result c.get_one.ensures.none c.get_one.ensures.value
    ∙ ap (λ found. option_map_or (λ text. bytes_eq text (codes "true")) found false) (one_text-rows (found_of c.args.matches.now) c.args.flag.now)
