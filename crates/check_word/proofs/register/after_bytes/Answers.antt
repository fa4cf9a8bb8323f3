use Rattle.check_word.proofs.BlockLemmas.{after_bytes-parts}
use Rattle.check_word.proofs.register.after_bytes.Goals as goal

pub returns : goal.returns
returns c = after_bytes-parts c.args.register _ _ c.args.bytes.now _ _ _ _ c.as_chunks.ensures.front c.as_chunks.ensures.back c.after_blocks.ensures c.after_each.ensures
