use Rattle.std.proofs.Common.{ap, sym, ◌∙◌, ℕ}
use Rattle.check_word.specs.CheckWord.{after_bytes, all_ones}
use Rattle.check_word.proofs.Linear.{after_bytes-append}
use Rattle.check_word.proofs.pieces.Check.add.Goals as goal

pub returns : goal.returns
returns c = λ added old. c.after_bytes-self-inside.ensures ∙ ap (λ (r : ℕ). after_bytes r c.args.bytes.now) (c.self.view_is ∙ old) ∙ sym (after_bytes-append all_ones added c.args.bytes.now)
