use Rattle.std.proofs.Common.{length, refl}
use Rattle.twoskip.proofs.DrawLemmas.{length-words}
use Rattle.twoskip.proofs.filling.fills_convert.Goals as goal

pub returns : goal.returns
returns c = λ m words. (length-words (length m) words, refl)
