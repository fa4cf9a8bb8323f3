use Rattle.std.proofs.Common.{rules}
use Rattle.mem_spool.proofs.FileLemmas.{distinct_after}
use Rattle.mem_spool.proofs.mem_spool.MemSpool.add.Goals as goal

pub invariant_of-self : goal.invariant_of-self
invariant_of-self c =
    let name = rw c.unwrap-name.ensures at c.of.ensures.text in
    record { distinct = distinct_after _ _ _ _ c.args.name.now c.push.ensures.items c.args.self.now.distinct name c.requires.new }
