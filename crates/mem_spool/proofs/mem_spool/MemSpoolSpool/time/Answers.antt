use Rattle.std.proofs.Common.{◌≡◌, Some, None, ap, ◌∙◌, rules}
use Rattle.mem_spool.proofs.FileLemmas.{found_file, no_file}
use Rattle.mem_spool.proofs.mem_spool.MemSpoolSpool.time.Goals as goal

pub returns-in-Some-clause-time : goal.returns-in-Some-clause-time
returns-in-Some-clause-time c file is =
    ap (λ f. f.time) (found_file c.args.name.now _ c.in-Some.file.now file c.in-Some.ensures (rw c.count_call.ensures.counted.files is))

pub returns-in-None-clause-time : goal.returns-in-None-clause-time
returns-in-None-clause-time c file is =
    absurd (no_file c.args.name.now _ file c.in-None.ensures (rw c.count_call.ensures.counted.files is))
