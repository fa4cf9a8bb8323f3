use Rattle.std.proofs.Common.{arith}
use Rattle.tool_words.proofs.NumberLemmas.{no_count}
use Rattle.tool_words.proofs.numbers.count.Goals as goal

pub returns-in_default-2 : goal.returns-in_default-2
returns-in_default-2 c =
    no_count _ c.args.digits c.args.most c.args.text.now c.in_default.field-0 (omega arith) c.in_default.ensures.value.0
